-- What overriding methods tell the methods that they override: from rows of them all, or of the nearest, where these pass each path on.
use Rattle.std.specs.Prelude.{◌≡◌, ◌↔◌, ◌⊎◌, ℕ, zero, suc, ◌+◌, Bool, true, false, ◌==◌, ◌&&◌, List, [], ◌∷◌, ◌++◌, length, nat_le, Option, Some, None, slice_get}
use Rattle.paths.specs.Paths.{PathData}
use Rattle.core_program.specs.Core.{Program, Method}
use Rattle.core_program.specs.Dispatch.{class_fields}
use Rattle.rules.specs.Near.{Near}
use Rattle.rules.specs.declared.clauses.Clause.{Clause}
use Rattle.rules.specs.Clauses.{params_of, method_class, kept_clauses, ReachedPath}
use Rattle.rules.specs.Search.{row_at}
use Rattle.rules.specs.Nearest.{AreNearest}
use Rattle.rules.specs.Overriding.{AreOverriders}

-- what is reached by these clauses are exactly the near paths
abbrev pub GiveNear : Program → List Clause → Type 0
GiveNear P clauses = (m : ℕ) (p : PathData) → ReachedPath P clauses m p ↔ Near P m p

-- what the overriding methods of a row tell this method
abbrev pub row_clauses : Program → ℕ → List ℕ → List Clause
row_clauses P m [] = []
row_clauses P m (over ∷ rest) = kept_clauses over m (params_of (slice_get P.methods over)) (method_class (slice_get P.methods m)) ++ row_clauses P m rest

-- what those of the rows tell so many methods from this one on
abbrev pub rows_clauses : Program → List (List ℕ) → (m count : ℕ) → List Clause
rows_clauses P rows m zero = []
rows_clauses P rows m (suc count) = row_clauses P m (row_at rows m) ++ rows_clauses P rows (m + 1) count

-- the first list is a front of the second
abbrev pub is_front : List ℕ → List ℕ → Bool
is_front [] ys = true
is_front (x ∷ xs) [] = false
is_front (x ∷ xs) (y ∷ ys) = (x == y) && is_front xs ys

-- of two methods that are there, the second has no more parameters, and its class has the fields of the first one's class and then its own
abbrev pub pass_on : Program → (first second : Option Method) → Bool
pass_on P None second = false
pass_on P (Some first) None = false
pass_on P (Some first) (Some second) = nat_le (length second.params) (length first.params)
    && is_front (class_fields (slice_get P.classes first.class)) (class_fields (slice_get P.classes second.class))

-- each overriding method of a row does so
abbrev pub row_passes : Program → ℕ → List ℕ → Bool
row_passes P m [] = true
row_passes P m (over ∷ rest) = pass_on P (slice_get P.methods m) (slice_get P.methods over) && row_passes P m rest

-- those of the rows of so many methods from this one on
abbrev pub rows_pass : Program → List (List ℕ) → (m count : ℕ) → Bool
rows_pass P rows m zero = true
rows_pass P rows m (suc count) = row_passes P m (row_at rows m) && rows_pass P rows (m + 1) count

-- these rows are enough: they have all that override, or the nearest, and those pass each path on to the next
abbrev pub AreEnough : Program → List (List ℕ) → Type 0
AreEnough P rows = AreOverriders P rows ⊎ (AreNearest P rows × (rows_pass P rows 0 (length P.methods) ≡ true))

-- the clauses of such rows were added
pub record HasPassing (P : Program) (old new : List Clause) : Type 0 where
  pub rows : List (List ℕ)
  pub enough : AreEnough P rows
  pub are : new ≡ old ++ rows_clauses P rows 0 (length P.methods)
