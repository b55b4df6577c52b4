use Rattle.std.proofs.Common.{◌≡◌, ◌+◌, ◌++◌, ◌&&◌, List, true, drop, map}
use Rattle.typing.specs.declared.scope.Bound.{Bound}
use Rattle.classes.specs.Views.{table_data}
use Rattle.core_program.specs.Views as core
use Rattle.syntax.specs.Views.{stmt_of, stmts_from}
use Rattle.typing.specs.Completion.{completes_each, locals_in_each}
use Rattle.typing.specs.Gathered.{gathered}
use Rattle.typing.specs.Noted.{type_noted}
use Rattle.typing.specs.Stmts.{block_core, block_faults}
use Rattle.typing.proofs.Blocks.{link}
use Rattle.typing.proofs.Gathering.{so_far}
use Rattle.typing.proofs.Measures.{stmt_measure, stmts_measure}
use Rattle.typing.proofs.stmts.+statements.Given as goal

abbrev pub decreases-stmt : goal.decreases-stmt
decreases-stmt l = stmt_measure (stmt_of l.s.now)

abbrev pub decreases-if_then : goal.decreases-if_then
decreases-if_then l = 1 + stmt_measure (stmt_of l.conditional.now.inner.now)

abbrev pub decreases-if_else : goal.decreases-if_else
decreases-if_else l = 1 + (stmt_measure (stmt_of l.choice.now.then.now) + stmt_measure (stmt_of l.choice.now.other.now))

abbrev pub decreases-while_loop : goal.decreases-while_loop
decreases-while_loop l = 1 + stmt_measure (stmt_of l.conditional.now.inner.now)

abbrev pub decreases-sync : goal.decreases-sync
decreases-sync l = 1 + stmts_measure (stmts_from (map stmt_of l.stmts.now))

abbrev pub decreases-block : goal.decreases-block
decreases-block l = stmts_measure (stmts_from (map stmt_of l.stmts.now))

abbrev pub invariant-block-loop-s : goal.invariant-block-loop-s
invariant-block-loop-s l =
    (so_far core.stmt_of link (gathered l.nodes) (block_core (table_data l.body.table.now) l.body.class l.body.returns l.body.first_local l.scope.items (l.before + l.locals) (stmts_from (map stmt_of (drop l.s-index l.stmts))))
    ≡ block_core (table_data l.body.table.now) l.body.class l.body.returns l.body.first_local l.fn.scope.items l.before (stmts_from (map stmt_of l.stmts)))
    × ((more : List Bound) × (l.scope.items ≡ l.fn.scope.items ++ more))
    × (l.locals + locals_in_each (stmts_from (map stmt_of (drop l.s-index l.stmts))) ≡ locals_in_each (stmts_from (map stmt_of l.stmts)))
    × ((l.live && completes_each (stmts_from (map stmt_of (drop l.s-index l.stmts)))) ≡ completes_each (stmts_from (map stmt_of l.stmts)))
    × (type_noted l.first (block_faults (table_data l.body.table.now) l.body.class l.body.returns l.body.first_local l.scope.items (l.before + l.locals) l.live (stmts_from (map stmt_of (drop l.s-index l.stmts))))
    ≡ type_noted l.fn.first (block_faults (table_data l.body.table.now) l.body.class l.body.returns l.body.first_local l.fn.scope.items l.before true (stmts_from (map stmt_of l.stmts))))
