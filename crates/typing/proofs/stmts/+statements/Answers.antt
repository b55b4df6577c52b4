use Rattle.std.proofs.Common.{◌≡◌, ◌+◌, [], ◌++◌, append-nil, ◌&&◌, true, map, refl, ap, sym, ◌∙◌, subst, IfOk, OnOk, option_map, arith}
use Rattle.std.proofs.Math.ListN.{drop_of_length-le}
use Rattle.classes.specs.Views.{table_data}
use Rattle.core_program.specs.Core.{BlockS}
use Rattle.core_program.specs.Views as core
use Rattle.syntax.specs.Trees as tree
use Rattle.syntax.specs.Views.{stmt_of, stmts_from, lock_of}
use Rattle.syntax.proofs.Bridge.{view_block, view_sync}
use Rattle.typing.specs.Completion.{completes, completes_each, locals_in, locals_in_each}
use Rattle.typing.specs.Gathered.{gathered}
use Rattle.typing.specs.Locks.{lock_rule}
use Rattle.typing.specs.Noted.{type_noted}
use Rattle.typing.specs.Rulings.{gain, loss}
use Rattle.typing.specs.Stmts.{declared_type, scope_after, stmt_core, block_core, stmt_faults, block_faults}
use Rattle.typing.proofs.Blocks.{link, blocks_end, statement_step, statement_fault, locals_step, completes_step, sync_made, sync_fault, grown, behind}
use Rattle.typing.proofs.Bodies.{on_ok}
use Rattle.typing.proofs.Gathering.{so_far}
use Rattle.typing.proofs.Measures.{stmt_measure, stmts_measure, stmt_lighter}
use Rattle.typing.proofs.stmts.+statements.Goals as goal

pub stmt-block-requires : goal.stmt-block-requires
stmt-block-requires t c =
    let e = ap (λ x. stmt_measure (stmt_of x)) c.in-Block.is ∙ ap stmt_measure (view_block c.in-Block.stmts c.in-Block.field-1) in
    let b = ap (λ xs. stmts_measure (stmts_from (map stmt_of xs))) c.deref.ensures.value in
    (omega arith, tt)

pub stmt-sync-requires : goal.stmt-sync-requires
stmt-sync-requires t c =
    let e = ap (λ x. stmt_measure (stmt_of x)) c.in-Sync.is ∙ ap stmt_measure (view_sync c.in-Sync.lock c.in-Sync.stmts c.in-Sync.field-2) in
    let b = ap (λ xs. stmts_measure (stmts_from (map stmt_of xs))) c.deref-in-Sync.ensures.value in
    (omega arith, tt)

pub block-stmt-requires : goal.block-stmt-requires
block-stmt-requires t c =
    let lighter = stmt_lighter c.args.stmts.now c.loop-s.s-index c.s-item.result c.loop-s-test.true c.s-item.is in
    (omega arith, tt)

pub block-loop-s-init : goal.block-loop-s-init
block-loop-s-init t c =
    let T = table_data c.args.body.now.table.now in
    let C = c.args.body.now.class in
    let R = c.args.body.now.returns in
    let F = c.args.body.now.first_local in
    let S = c.args.scope.now.items in
    let ss = stmts_from (map stmt_of c.args.stmts.now) in
    let none_yet : c.args.before + 0 ≡ c.args.before = omega arith in (
      ap (λ p. so_far core.stmt_of link p (block_core T C R F S (c.args.before + 0) ss)) c.new-nodes.ensures ∙ ap (λ n. block_core T C R F S n ss) none_yet,
      ([], sym (append-nil S)),
      omega arith,
      refl,
      ap (λ n. type_noted c.args.first.now (block_faults T C R F S n true ss)) none_yet,
    )

pub block-loop-s-preserved : goal.block-loop-s-preserved
block-loop-s-preserved t c =
    let T = table_data c.args.body.now.table.now in
    let C = c.args.body.now.class in
    let R = c.args.body.now.returns in
    let F = c.args.body.now.first_local in
    let S = c.loop-s.scope.items in
    let s = stmt_of c.s-item.result in
    let node = c.in_ok-part.ensures.node ∙ ap (λ n. stmt_core T C R F S n s) c.in_ok-before_s.ensures in
    let fault = c.in_ok-part.ensures.fault ∙ ap (λ n. type_noted c.note_unreachable.new.first (stmt_faults T C R F S n s)) c.in_ok-before_s.ensures in
    let after = c.in_ok-declare.ensures.scope
    ∙ ap (λ z. scope_after T C R F z c.in_ok-before_s.before_s s) c.in_ok-part.ensures.scope
    ∙ ap (λ n. scope_after T C R F S n s) c.in_ok-before_s.ensures in
    let count = behind c.args.before c.loop-s.locals c.in_ok-locals.locals c.in_ok-part.part.locals (locals_in s) c.in_ok-locals.ensures c.in_ok-part.ensures.locals in
    let kept = c.in_ok-declare.ensures.kept in (
      statement_step T C R F c.args.stmts.now c.loop-s.s-index c.s-item.result (gathered c.loop-s.nodes) (gathered c.add.new.self) c.in_ok-part.part.node
          S c.declare.new.scope.items (c.args.before + c.loop-s.locals) (c.args.before + c.in_ok-locals.locals)
          (block_core T C R F c.args.scope.now.items c.args.before (stmts_from (map stmt_of c.args.stmts.now)))
          c.loop-s-test.true c.s-item.is c.loop-s.invariant.0 node after count c.in_ok-add.ensures,
      grown c.args.scope.now.items c.loop-s.scope.items c.declare.new.scope.items c.loop-s.invariant.1.0 c.loop-s.invariant.1.1
          (kept.0, kept.1 ∙ ap (λ z. z ++ kept.0) c.in_ok-part.ensures.scope),
      locals_step c.args.stmts.now c.loop-s.s-index c.s-item.result c.loop-s.locals c.in_ok-locals.locals (locals_in_each (stmts_from (map stmt_of c.args.stmts.now)))
          c.loop-s-test.true c.s-item.is c.loop-s.invariant.2 (c.in_ok-locals.ensures ∙ ap (λ n. c.loop-s.locals + n) c.in_ok-part.ensures.locals),
      completes_step c.args.stmts.now c.loop-s.s-index c.s-item.result c.loop-s.live (c.loop-s.live && c.in_ok-part.part.completes) (completes_each (stmts_from (map stmt_of c.args.stmts.now)))
          c.loop-s-test.true c.s-item.is c.loop-s.invariant.3 (ap (λ b. c.loop-s.live && b) c.in_ok-part.ensures.completes),
      statement_fault T C R F c.args.stmts.now c.loop-s.s-index c.s-item.result c.loop-s.first c.note_unreachable.new.first c.stmt.new.first
          (type_noted c.args.first.now (block_faults T C R F c.args.scope.now.items c.args.before true (stmts_from (map stmt_of c.args.stmts.now))))
          S c.declare.new.scope.items (c.args.before + c.loop-s.locals) (c.args.before + c.in_ok-locals.locals) c.loop-s.live (c.loop-s.live && c.in_ok-part.part.completes)
          c.loop-s-test.true c.s-item.is c.loop-s.invariant.4 c.note_unreachable.ensures fault after count (ap (λ b. c.loop-s.live && b) c.in_ok-part.ensures.completes),
    )

pub block-returns-clause-node : goal.block-returns-clause-node
block-returns-clause-node t c =
    let T = table_data c.args.body.now.table.now in
    let C = c.args.body.now.class in
    let R = c.args.body.now.returns in
    let F = c.args.body.now.first_local in
    c.block_of.ensures
    ∙ blocks_end (gathered c.loop-s.nodes)
    ∙ ap (λ z. option_map BlockS (so_far core.stmt_of link (gathered c.loop-s.nodes) (block_core T C R F c.loop-s.scope.items (c.args.before + c.loop-s.locals) (stmts_from (map stmt_of z))))) (sym (drop_of_length-le c.args.stmts.now c.loop-s-test.false))
    ∙ ap (option_map BlockS) c.loop-s.invariant.0

pub stmt-returns-in-Block-clause-node : goal.stmt-returns-in-Block-clause-node
stmt-returns-in-Block-clause-node t c =
    let T = table_data c.args.body.now.table.now in
    let C = c.args.body.now.class in
    let R = c.args.body.now.returns in
    let F = c.args.body.now.first_local in
    let S = c.args.scope.now.items in
    subst (λ z. IfOk c.block.result (λ p. option_map core.stmt_of p.node ≡ z))
    (ap (λ z. option_map BlockS (block_core T C R F S c.args.before (stmts_from (map stmt_of z)))) c.deref.ensures.value
    ∙ ap (stmt_core T C R F S c.args.before) (sym (ap stmt_of c.in-Block.is ∙ view_block c.in-Block.stmts c.in-Block.field-1)))
    c.block.ensures.node

pub stmt-returns-in-Block-clause-locals : goal.stmt-returns-in-Block-clause-locals
stmt-returns-in-Block-clause-locals t c =
    subst (λ z. IfOk c.block.result (λ p. p.locals ≡ z))
    (ap (λ z. locals_in_each (stmts_from (map stmt_of z))) c.deref.ensures.value
    ∙ ap locals_in (sym (ap stmt_of c.in-Block.is ∙ view_block c.in-Block.stmts c.in-Block.field-1)))
    c.block.ensures.locals

pub stmt-returns-in-Block-clause-completes : goal.stmt-returns-in-Block-clause-completes
stmt-returns-in-Block-clause-completes t c =
    subst (λ z. IfOk c.block.result (λ p. p.completes ≡ z))
    (ap (λ z. completes_each (stmts_from (map stmt_of z))) c.deref.ensures.value
    ∙ ap completes (sym (ap stmt_of c.in-Block.is ∙ view_block c.in-Block.stmts c.in-Block.field-1)))
    c.block.ensures.completes

pub stmt-returns-in-Block-clause-fault : goal.stmt-returns-in-Block-clause-fault
stmt-returns-in-Block-clause-fault t c =
    let T = table_data c.args.body.now.table.now in
    let C = c.args.body.now.class in
    let R = c.args.body.now.returns in
    let F = c.args.body.now.first_local in
    let S = c.args.scope.now.items in
    subst (λ z. OnOk c.block.result (c.block.new.first ≡ type_noted c.args.first.now z))
    (ap (λ z. block_faults T C R F S c.args.before true (stmts_from (map stmt_of z))) c.deref.ensures.value
    ∙ ap (stmt_faults T C R F S c.args.before) (sym (ap stmt_of c.in-Block.is ∙ view_block c.in-Block.stmts c.in-Block.field-1)))
    c.block.ensures.fault

pub stmt-returns-in-Block-clause-declared : goal.stmt-returns-in-Block-clause-declared
stmt-returns-in-Block-clause-declared t c =
    subst (λ z. IfOk c.block.result (λ p. p.declared ≡ z))
    (ap (declared_type (table_data c.args.body.now.table.now)) (sym (ap stmt_of c.in-Block.is ∙ view_block c.in-Block.stmts c.in-Block.field-1)))
    c.block.ensures.declared

pub stmt-returns-in-Sync-clause-node : goal.stmt-returns-in-Sync-clause-node
stmt-returns-in-Sync-clause-node t c =
    let T = table_data c.args.body.now.table.now in
    let C = c.args.body.now.class in
    let R = c.args.body.now.returns in
    let F = c.args.body.now.first_local in
    let S = c.args.scope.now.items in
    subst (λ z. IfOk c.sync.result (λ p. option_map core.stmt_of p.node ≡ z))
    (ap (λ z. stmt_core T C R F S c.args.before (tree.SyncS (lock_of c.in-Sync.lock) (stmts_from (map stmt_of z)) 0)) c.deref-in-Sync.ensures.value
    ∙ ap (stmt_core T C R F S c.args.before) (sym (ap stmt_of c.in-Sync.is ∙ view_sync c.in-Sync.lock c.in-Sync.stmts c.in-Sync.field-2)))
    c.sync.ensures.node

pub stmt-returns-in-Sync-clause-locals : goal.stmt-returns-in-Sync-clause-locals
stmt-returns-in-Sync-clause-locals t c =
    subst (λ z. IfOk c.sync.result (λ p. p.locals ≡ z))
    (ap (λ z. locals_in_each (stmts_from (map stmt_of z))) c.deref-in-Sync.ensures.value
    ∙ ap locals_in (sym (ap stmt_of c.in-Sync.is ∙ view_sync c.in-Sync.lock c.in-Sync.stmts c.in-Sync.field-2)))
    c.sync.ensures.locals

pub stmt-returns-in-Sync-clause-completes : goal.stmt-returns-in-Sync-clause-completes
stmt-returns-in-Sync-clause-completes t c =
    subst (λ z. IfOk c.sync.result (λ p. p.completes ≡ z))
    (ap (λ z. completes_each (stmts_from (map stmt_of z))) c.deref-in-Sync.ensures.value
    ∙ ap completes (sym (ap stmt_of c.in-Sync.is ∙ view_sync c.in-Sync.lock c.in-Sync.stmts c.in-Sync.field-2)))
    c.sync.ensures.completes

pub stmt-returns-in-Sync-clause-declared : goal.stmt-returns-in-Sync-clause-declared
stmt-returns-in-Sync-clause-declared t c =
    subst (λ z. IfOk c.sync.result (λ p. p.declared ≡ z))
    (ap (declared_type (table_data c.args.body.now.table.now)) (sym (ap stmt_of c.in-Sync.is ∙ view_sync c.in-Sync.lock c.in-Sync.stmts c.in-Sync.field-2)))
    c.sync.ensures.declared

pub stmt-returns-in-Sync-clause-fault : goal.stmt-returns-in-Sync-clause-fault
stmt-returns-in-Sync-clause-fault t c =
    let T = table_data c.args.body.now.table.now in
    let C = c.args.body.now.class in
    let R = c.args.body.now.returns in
    let F = c.args.body.now.first_local in
    let S = c.args.scope.now.items in
    subst (λ z. OnOk c.sync.result (c.sync.new.first ≡ type_noted c.args.first.now z))
    (ap (λ z. stmt_faults T C R F S c.args.before (tree.SyncS (lock_of c.in-Sync.lock) (stmts_from (map stmt_of z)) 0)) c.deref-in-Sync.ensures.value
    ∙ ap (stmt_faults T C R F S c.args.before) (sym (ap stmt_of c.in-Sync.is ∙ view_sync c.in-Sync.lock c.in-Sync.stmts c.in-Sync.field-2)))
    c.sync.ensures.fault

pub sync-returns-clause-node : goal.sync-returns-clause-node
sync-returns-clause-node t c =
    let T = table_data c.args.body.now.table.now in
    let C = c.args.body.now.class in
    let R = c.args.body.now.returns in
    let F = c.args.body.now.first_local in
    let S = c.args.scope.now.items in
    let L = lock_of c.args.lock.now in
    let ss = stmts_from (map stmt_of c.args.stmts.now) in
    subst (λ z. IfOk c.sync_part.result (λ p. option_map core.stmt_of p.node ≡ z))
    (sync_made T C R F (tree.SyncS L ss 0) L ss 0 c.args.before S c.lock_path-path.result (option_map core.stmt_of c.in_ok-inner.inner.node)
    refl
    (c.lock_path-path.ensures.path ∙ ap (λ z. gain (lock_rule T C z L)) c.as_slice.ensures.value)
    c.in_ok-inner.ensures.node)
    c.sync_part.ensures.node

pub sync-returns-clause-fault : goal.sync-returns-clause-fault
sync-returns-clause-fault t c =
    let T = table_data c.args.body.now.table.now in
    let C = c.args.body.now.class in
    let R = c.args.body.now.returns in
    let F = c.args.body.now.first_local in
    let S = c.args.scope.now.items in
    let L = lock_of c.args.lock.now in
    let ss = stmts_from (map stmt_of c.args.stmts.now) in
    on_ok c.sync_part.result
    (sync_fault T C R F (tree.SyncS L ss 0) L ss 0 c.args.before S c.args.first.now c.lock_path-path.new.first c.block.new.first
    refl
    (c.lock_path-path.ensures.fault ∙ ap (λ z. type_noted c.args.first.now (loss (lock_rule T C z L))) c.as_slice.ensures.value)
    c.in_ok-inner.ensures.fault)
