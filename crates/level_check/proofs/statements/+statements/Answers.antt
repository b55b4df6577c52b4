use Rattle.std.proofs.Common.{rules, ◌++◌, sym, ap, ◌∙◌, arith}
use Rattle.std.specs.Prelude.{map}
use Rattle.std.proofs.lemmas.Grind.{common_steps}
use Rattle.algebra.specs.HeldPaths.{has_path}
use Rattle.core_program.specs.declared.tree.CoreStmt.{the_lemmas}
use Rattle.core_program.specs.Views.{program_of, stmt_of, stmts_from}
use Rattle.core_program.proofs.ViewLemmas.{stmt_of-Block}
use Rattle.rules.specs.Near.{rel_of}
use Rattle.levels.specs.Walks.{level_in, visits, syncs_in, syncs_in_each}
use Rattle.level_check.specs.Told.{stmt_told, told_level_of}
use Rattle.level_check.proofs.ToldLemmas.{more_stmts, while_told, if_told, room_left, room_same, place_left}
use Rattle.level_check.proofs.statements.+statements.Goals as goal

pub walk_stmt-walk_block-requires : goal.walk_stmt-walk_block-requires
walk_stmt-walk_block-requires t c =
    let e = ap (λ x. syncs_in (stmt_of x)) c.in-Block.is ∙ ap syncs_in (stmt_of-Block c.in-Block.body) ∙ ap (λ l. syncs_in_each (stmts_from l)) (sym c.as_slice.ensures.value) in
    (search (rules, the_lemmas), room_same c.args.place.now (syncs_in (stmt_of c.args.s.now)) (syncs_in_each (stmts_from c.as_slice.result.now)) e c.requires)

pub walk_stmt-returns-in-Block-clause-place : goal.walk_stmt-returns-in-Block-clause-place
walk_stmt-returns-in-Block-clause-place t c =
    let e = ap (λ x. syncs_in (stmt_of x)) c.in-Block.is ∙ ap syncs_in (stmt_of-Block c.in-Block.body) in
    grind (arith, common_steps)

pub walk_stmt-returns-in-Block-clause-seen : goal.walk_stmt-returns-in-Block-clause-seen
walk_stmt-returns-in-Block-clause-seen t c =
    let e = ap (λ x. stmt_told c.args.walk.now (stmt_of x) c.args.place.now (has_path c.args.carried.now.held.now) c.args.carried.now.under) c.in-Block.is ∙ ap (λ x. stmt_told c.args.walk.now x c.args.place.now (has_path c.args.carried.now.held.now) c.args.carried.now.under) (stmt_of-Block c.in-Block.body) in
    grind (arith, common_steps)

pub walk_block-walk_stmt-requires : goal.walk_block-walk_stmt-requires
walk_block-walk_stmt-requires t c =
    (search (rules, the_lemmas), room_left c.args.body.now c.loop-s.s-index c.s-item.result c.loop-s.place c.args.place.now c.loop-s-test.true c.s-item.is c.loop-s.invariant.1 c.requires)

pub walk_block-loop-s-preserved : goal.walk_block-loop-s-preserved
walk_block-loop-s-preserved t c = (
  more_stmts c.args.walk.now c.args.body.now c.loop-s.s-index c.s-item.result (has_path c.loop-s.now.items) (has_path c.in_ok-now-2.now.items) c.args.carried.now.under c.loop-s.place c.walk_stmt.new.place _ _ _ c.loop-s-test.true c.s-item.is
      (c.in_ok-walk_stmt.ensures.seen ∙ ap (λ l. map told_level_of c.loop-s.seen.items ++ stmt_told c.args.walk.now (stmt_of c.s-item.result) c.loop-s.place (has_path l) c.args.carried.now.under) c.as_slice.ensures.value)
      c.in_ok-walk_stmt.ensures.place c.in_ok-now-2.ensures c.loop-s.invariant.0,
  place_left c.args.body.now c.loop-s.s-index c.s-item.result c.loop-s.place c.walk_stmt.new.place _ c.loop-s-test.true c.s-item.is c.in_ok-walk_stmt.ensures.place c.loop-s.invariant.1,
)

pub walk_stmt-returns-in_ok-walk_expr-in-While-clause-seen : goal.walk_stmt-returns-in_ok-walk_expr-in-While-clause-seen
walk_stmt-returns-in_ok-walk_expr-in-While-clause-seen t c =
    while_told c.args.walk.now _ (has_path c.args.carried.now.held.now) c.args.carried.now.under c.args.place.now _ c.in-While.c.value c.deref-in-While.result.now c.in-While.a.value c.deref-in-While-2.result.now _ _ _
    (ap (λ x. visits (program_of c.args.walk.now.program.now) (rel_of c.args.walk.now.sets.now) (level_in c.args.walk.now.levels.now) c.args.walk.now.slots.now (stmt_of x) c.args.place.now (has_path c.args.carried.now.held.now) c.args.carried.now.under) c.in-While.is)
    c.deref-in-While.ensures c.deref-in-While-2.ensures c.in_ok-walk_expr-in-While.ensures c.walk_stmt-in-While.ensures.seen

pub walk_stmt-returns-in_ok-walk_stmt-in-If-clause-seen : goal.walk_stmt-returns-in_ok-walk_stmt-in-If-clause-seen
walk_stmt-returns-in_ok-walk_stmt-in-If-clause-seen t c =
    if_told c.args.walk.now _ (has_path c.args.carried.now.held.now) c.args.carried.now.under c.args.place.now _ _ c.in-If.c.value c.deref-in-If.result.now c.in-If.a.value c.deref-in-If-2.result.now c.in-If.b.value c.deref-in-If-3.result.now _ _ _ _
    (ap (λ x. visits (program_of c.args.walk.now.program.now) (rel_of c.args.walk.now.sets.now) (level_in c.args.walk.now.levels.now) c.args.walk.now.slots.now (stmt_of x) c.args.place.now (has_path c.args.carried.now.held.now) c.args.carried.now.under) c.in-If.is)
    c.deref-in-If.ensures c.deref-in-If-2.ensures c.deref-in-If-3.ensures c.in_ok-walk_stmt-in-If.ensures.place c.in_ok-walk_expr-in-If.ensures c.in_ok-walk_stmt-in-If.ensures.seen c.walk_stmt-in-If.ensures.seen
