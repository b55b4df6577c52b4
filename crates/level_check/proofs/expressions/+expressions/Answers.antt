use Rattle.std.proofs.Common.{ap, ◌∙◌, arith}
use Rattle.std.proofs.lemmas.Grind.{common_steps}
use Rattle.algebra.specs.HeldPaths.{has_path}
use Rattle.core_program.specs.Views.{program_of, expr_of}
use Rattle.core_program.proofs.ViewLemmas.{expr_of-Call, expr_of-New}
use Rattle.rules.specs.Near.{rel_of}
use Rattle.levels.specs.Walks.{expr_visits}
use Rattle.level_check.specs.Told.{expr_told}
use Rattle.level_check.proofs.ToldLemmas.{more_exprs, both_told, call_told}
use Rattle.level_check.proofs.expressions.+expressions.Goals as goal

pub walk_exprs-loop-e-preserved : goal.walk_exprs-loop-e-preserved
walk_exprs-loop-e-preserved t c =
    more_exprs c.args.walk.now c.args.es.now c.loop-e.e-index c.e-item.result (has_path c.args.carried.now.held.now) c.args.carried.now.under _ _ _ c.loop-e-test.true c.e-item.is c.in_ok-walk_expr.ensures c.loop-e.invariant

pub walk_expr-returns-in-New : goal.walk_expr-returns-in-New
walk_expr-returns-in-New t c =
    let e = ap (λ x. expr_told c.args.walk.now (expr_of x) (has_path c.args.carried.now.held.now) c.args.carried.now.under) c.in-New.is ∙ ap (λ x. expr_told c.args.walk.now x (has_path c.args.carried.now.held.now) c.args.carried.now.under) (expr_of-New c.in-New.field-0 c.in-New.args) in
    grind (arith, common_steps)

pub walk_expr-returns-in_ok-walk_exprs-in-Call : goal.walk_expr-returns-in_ok-walk_exprs-in-Call
walk_expr-returns-in_ok-walk_exprs-in-Call t c =
    let is = ap (λ x. expr_visits (program_of c.args.walk.now.program.now) (rel_of c.args.walk.now.sets.now) (expr_of x) (has_path c.args.carried.now.held.now) c.args.carried.now.under) c.in-Call.is
    ∙ ap (λ x. expr_visits (program_of c.args.walk.now.program.now) (rel_of c.args.walk.now.sets.now) x (has_path c.args.carried.now.held.now) c.args.carried.now.under) (expr_of-Call c.in-Call.receiver c.in-Call.callee c.in-Call.args) in
    call_told c.args.walk.now _ (has_path c.args.carried.now.held.now) c.args.carried.now.under _ c.in-Call.receiver.value c.deref-in-Call.result.now c.deref-in-Call-2.result.now c.in-Call.callee c.in-Call.args.items c.as_slice.result.now c.as_slice-in-Call.result.now _ _ _ _ is
    c.deref-in-Call.ensures c.deref-in-Call-2.ensures c.as_slice.ensures.value c.as_slice-in-Call.ensures.value c.in_ok-walk_expr-in-Call.ensures c.in_ok-walk_exprs-in-Call.ensures c.add_call.ensures

pub walk_expr-returns-in_ok-walk_expr-in-Binary : goal.walk_expr-returns-in_ok-walk_expr-in-Binary
walk_expr-returns-in_ok-walk_expr-in-Binary t c =
    both_told c.args.walk.now _ (has_path c.args.carried.now.held.now) c.args.carried.now.under _ c.in-Binary.a.value c.in-Binary.b.value c.deref.result.now c.deref-in-Binary.result.now _ _ _
    (ap (λ x. expr_visits (program_of c.args.walk.now.program.now) (rel_of c.args.walk.now.sets.now) (expr_of x) (has_path c.args.carried.now.held.now) c.args.carried.now.under) c.in-Binary.is) c.deref.ensures c.deref-in-Binary.ensures c.in_ok-walk_expr-in-Binary.ensures c.walk_expr-in-Binary.ensures

pub walk_expr-returns-in_ok-walk_expr-in-And : goal.walk_expr-returns-in_ok-walk_expr-in-And
walk_expr-returns-in_ok-walk_expr-in-And t c =
    both_told c.args.walk.now _ (has_path c.args.carried.now.held.now) c.args.carried.now.under _ c.in-And.a.value c.in-And.b.value c.deref-in-And.result.now c.deref-in-And-2.result.now _ _ _
    (ap (λ x. expr_visits (program_of c.args.walk.now.program.now) (rel_of c.args.walk.now.sets.now) (expr_of x) (has_path c.args.carried.now.held.now) c.args.carried.now.under) c.in-And.is) c.deref-in-And.ensures c.deref-in-And-2.ensures c.in_ok-walk_expr-in-And.ensures c.walk_expr-in-And-2.ensures

pub walk_expr-returns-in_ok-walk_expr-in-Or : goal.walk_expr-returns-in_ok-walk_expr-in-Or
walk_expr-returns-in_ok-walk_expr-in-Or t c =
    both_told c.args.walk.now _ (has_path c.args.carried.now.held.now) c.args.carried.now.under _ c.in-Or.a.value c.in-Or.b.value c.deref-in-Or.result.now c.deref-in-Or-2.result.now _ _ _
    (ap (λ x. expr_visits (program_of c.args.walk.now.program.now) (rel_of c.args.walk.now.sets.now) (expr_of x) (has_path c.args.carried.now.held.now) c.args.carried.now.under) c.in-Or.is) c.deref-in-Or.ensures c.deref-in-Or-2.ensures c.in_ok-walk_expr-in-Or.ensures c.walk_expr-in-Or-2.ensures
