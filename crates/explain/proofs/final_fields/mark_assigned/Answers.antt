-- One method more.
use Rattle.std.proofs.Common.{List, map, refl}
use Rattle.std.specs.List.{list_any}
use Rattle.core_program.specs.declared.program.CoreMethod.{CoreMethod}
use Rattle.core_program.specs.Views.{method_of, stmt_of}
use Rattle.explain.specs.FinalFields.{sets_field}
use Rattle.explain.specs.OneFinal.{has_mark}
use Rattle.explain.proofs.OneFinal.{marked_all, marked_next}
use Rattle.explain.proofs.final_fields.mark_assigned.Goals as goal

pub loop-method-preserved : goal.loop-method-preserved
loop-method-preserved c =
    λ f.
    marked_next (λ (ms : List CoreMethod). list_any (λ m. sets_field f m.body) (map method_of ms)) (λ (m : CoreMethod). sets_field f (stmt_of m.body)) (λ m ms. refl)
    c.args.methods.now c.loop-method.method-index c.method-item.result (has_mark c.loop-method.marks.items f) c.loop-method-test.true c.method-item.is (c.in_ok-mark_set.ensures f) (c.loop-method.invariant f)

pub returns : goal.returns
returns c =
    λ f.
    marked_all (λ (ms : List CoreMethod). list_any (λ m. sets_field f m.body) (map method_of ms)) refl c.args.methods.now c.loop-method.method-index c.loop-method-test.false (c.loop-method.invariant f)
