-- One field more.
use Rattle.std.proofs.Common.{◌==◌, refl}
use Rattle.std.specs.List.{list_any}
use Rattle.explain.specs.OneFinal.{has_mark}
use Rattle.explain.proofs.OneFinal.{marked_all, marked_next}
use Rattle.explain.proofs.final_fields.mark_all.Goals as goal

pub loop-field-preserved : goal.loop-field-preserved
loop-field-preserved c =
    λ f.
    marked_next (list_any (λ g. g == f)) (λ g. g == f) (λ g gs. refl) c.args.fields.now c.loop-field.field-index c.field-item.result (has_mark c.loop-field.marks.items f) c.loop-field-test.true c.field-item.is (c.in_ok-mark.ensures f) (c.loop-field.invariant f)

pub returns : goal.returns
returns c = λ f. marked_all (list_any (λ g. g == f)) refl c.args.fields.now c.loop-field.field-index c.loop-field-test.false (c.loop-field.invariant f)
