-- A program of which one field at a time is made final: what of it is kept for that.
use Rattle.std.specs.Prelude.{◌≡◌, ℕ, zero, suc, Bool, false, not, List, [], ◌∷◌, slice_get, unwrap_or}
use Rattle.core_program.specs.Core.{Field, Program}
use Rattle.rules.specs.Effect.{required_paths}
use Rattle.explain.specs.FinalFields.{can_be_final}

-- whether a number is marked; one without a mark isn't
abbrev pub has_mark : List Bool → ℕ → Bool
has_mark marks n = unwrap_or (slice_get marks n) false

-- these fields, with the one at this place final or not
abbrev pub with_finality : (place : ℕ) → (is_final : Bool) → List Field → List Field
with_finality place is_final [] = []
with_finality zero is_final (field ∷ fields) = record field { is_final = is_final } ∷ fields
with_finality (suc place) is_final (field ∷ fields) = field ∷ with_finality place is_final fields

-- another program has the fields of this one, and what each of its methods requires; and those fields are marked that can't be made final
pub record KeepsFields (P other : Program) (marks : List Bool) : Type 0 where
  pub fields : other.fields ≡ P.fields
  pub required : (m : ℕ) → required_paths (slice_get other.methods m) ≡ required_paths (slice_get P.methods m)
  pub fixed : (f : ℕ) → can_be_final P f ≡ not (has_mark marks f)
