-- One more place has no mark, and the field's place gets one.
use Rattle.std.proofs.Common.{◌==◌, ◌||◌, ap, ◌∙◌, arith}
use Rattle.explain.specs.OneFinal.{has_mark}
use Rattle.explain.proofs.OneFinal.{marked_at, marked_more}
use Rattle.explain.proofs.final_fields.mark.Goals as goal

pub marks-preserved : goal.marks-preserved
marks-preserved c = λ f. ap (λ ms. has_mark ms f) c.in_ok-push.ensures.items ∙ marked_more c.marks.marks.items f ∙ c.marks.invariant f

pub returns : goal.returns
returns c =
    λ f.
    marked_at c.marks.marks.items c.field.inside.0 f (omega (arith, c.marks-test.false, c.len.ensures, c.marks.marks.ok))
    ∙ (λ i. c.marks.invariant f i || (c.field.view_is i == f))
