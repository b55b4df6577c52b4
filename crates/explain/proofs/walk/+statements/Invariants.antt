use Rattle.std.proofs.Common.{◌+◌, drop}
use Rattle.algebra.specs.declared.basic.Basic.{Basic}
use Rattle.algebra.specs.Basics.{seq_of}
use Rattle.algebra.specs.HeldPaths.{has_path}
use Rattle.core_program.specs.Views.{stmt_of, stmts_from, program_of}
use Rattle.rules.specs.Near.{rel_of}
use Rattle.explain.specs.declared.found.Found.{Found}
use Rattle.explain.specs.Walked.{WalkedBlock}
use Rattle.explain.proofs.Measures.{stmt_measure, stmts_measure}
use Rattle.explain.proofs.walk.+statements.Given as goal

abbrev pub decreases-walk_stmt : goal.decreases-walk_stmt
decreases-walk_stmt g l = 1 + stmt_measure (stmt_of l.s.now)

abbrev pub decreases-inside_stmt : goal.decreases-inside_stmt
decreases-inside_stmt g l = stmt_measure (stmt_of l.s.now)

abbrev pub decreases-walk_branches : goal.decreases-walk_branches
decreases-walk_branches g l = 2 + (stmt_measure (stmt_of l.a.now) + stmt_measure (stmt_of l.b.now))

abbrev pub decreases-walk_sync : goal.decreases-walk_sync
decreases-walk_sync g l = 2 + stmt_measure (stmt_of l.a.now)

abbrev pub decreases-walk_block : goal.decreases-walk_block
decreases-walk_block g l = stmts_measure (stmts_from l.body.now)

-- the basic so far and any walk through the rest, at the set that the statements so far leave, make a walk through all
abbrev pub invariant-walk_block-loop-s : goal.invariant-walk_block-loop-s
invariant-walk_block-loop-s g l =
    let P = program_of l.walk.program.now in let rel = rel_of l.walk.sets.now in let A = g.A.Assigned.assigned l.walk.assigned.now in
    (b : Basic) (new : Found) → WalkedBlock P rel A (stmts_from (drop l.s-index l.body)) (has_path l.now.items) l.looped l.found b new
    → WalkedBlock P rel A (stmts_from l.body) (has_path l.held) l.looped l.fn.found (seq_of l.so_far b) new
