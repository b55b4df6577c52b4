use Rattle.std.proofs.Common.{◌≡◌, ◌==◌, ◌||◌, ℕ, drop}
use Rattle.std.specs.List.{list_any}
use Rattle.explain.specs.OneFinal.{has_mark}
use Rattle.explain.proofs.final_fields.mark_all.Given as goal

-- the marks so far, with those of the fields that are left, are those of all
abbrev pub invariant-loop-field : goal.invariant-loop-field
invariant-loop-field l = (f : ℕ) → (has_mark l.marks.items f || list_any (λ g. g == f) (drop l.field-index l.fields)) ≡ (has_mark l.fn.marks.items f || list_any (λ g. g == f) l.fields)
