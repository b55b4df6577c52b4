use Rattle.std.proofs.Common.{◌≡◌, ◌||◌, ℕ, drop, map}
use Rattle.std.specs.List.{list_any}
use Rattle.core_program.specs.Views.{method_of}
use Rattle.explain.specs.FinalFields.{sets_field}
use Rattle.explain.specs.OneFinal.{has_mark}
use Rattle.explain.proofs.final_fields.mark_assigned.Given as goal

-- the marks so far, with those of the methods that are left, are those of all
abbrev pub invariant-loop-method : goal.invariant-loop-method
invariant-loop-method l =
    (f : ℕ) → (has_mark l.marks.items f || list_any (λ m. sets_field f m.body) (map method_of (drop l.method-index l.methods))) ≡ (has_mark l.fn.marks.items f || list_any (λ m. sets_field f m.body) (map method_of l.methods))
