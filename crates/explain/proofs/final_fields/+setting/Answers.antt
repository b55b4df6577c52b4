-- One statement more, and a block.
use Rattle.std.proofs.Common.{◌||◌, List, ap, sym, refl, ◌∙◌}
use Rattle.std.proofs.Math.Bool.{or_assoc}
use Rattle.std.proofs.lemmas.Result.{on_ok_weaker}
use Rattle.core_program.specs.declared.tree.CoreStmt.{CoreStmt}
use Rattle.core_program.proofs.ViewLemmas.{stmt_of-Block}
use Rattle.core_program.specs.Views.{stmt_of, stmts_from}
use Rattle.explain.specs.FinalFields.{sets_field, some_sets_field}
use Rattle.explain.specs.OneFinal.{has_mark}
use Rattle.explain.proofs.OneFinal.{marked_all, marked_next}
use Rattle.explain.proofs.final_fields.+setting.Goals as goal

pub mark_set-returns-in-Block : goal.mark_set-returns-in-Block
mark_set-returns-in-Block t c =
    on_ok_weaker c.mark_set_by_some.result
    (λ marked f. marked f
    ∙ ap (λ b. has_mark c.args.marks.now.items f || b)
    (ap (λ z. some_sets_field f (stmts_from z)) c.as_slice.ensures.value ∙ sym (ap (sets_field f) (ap stmt_of c.in-Block.is ∙ stmt_of-Block c.in-Block.body))))
    c.mark_set_by_some.ensures

pub mark_set-returns-in_ok-mark_set-in-If : goal.mark_set-returns-in_ok-mark_set-in-If
mark_set-returns-in_ok-mark_set-in-If t c =
    on_ok_weaker c.mark_set-in-If.result
    (λ second f.
    let old = has_mark c.args.marks.now.items f in let a = sets_field f (stmt_of c.deref.result.now) in let b = sets_field f (stmt_of c.deref-in-If.result.now) in
    second f ∙ ap (λ m. m || b) (c.in_ok-mark_set-in-If.ensures f) ∙ or_assoc old a b
    ∙ ap (λ m. old || m) ((λ i. sets_field f (stmt_of (c.deref.ensures i)) || sets_field f (stmt_of (c.deref-in-If.ensures i))) ∙ sym (ap (λ (s : CoreStmt). sets_field f (stmt_of s)) c.in-If.is)))
    c.mark_set-in-If.ensures

pub mark_set_by_some-loop-s-preserved : goal.mark_set_by_some-loop-s-preserved
mark_set_by_some-loop-s-preserved t c =
    λ f.
    marked_next (λ (ss : List CoreStmt). some_sets_field f (stmts_from ss)) (λ (s : CoreStmt). sets_field f (stmt_of s)) (λ s ss. refl)
    c.args.body.now c.loop-s.s-index c.s-item.result (has_mark c.loop-s.marks.items f) c.loop-s-test.true c.s-item.is (c.in_ok-mark_set.ensures f) (c.loop-s.invariant f)

pub mark_set_by_some-returns : goal.mark_set_by_some-returns
mark_set_by_some-returns t c =
    λ f. marked_all (λ (ss : List CoreStmt). some_sets_field f (stmts_from ss)) refl c.args.body.now c.loop-s.s-index c.loop-s-test.false (c.loop-s.invariant f)
