-- A cell that is found, or added at the end.
use Rattle.std.proofs.Common.{◌≡◌, ◌==◌, inl, inr, ℕ, Bool, true, false, not, List, [], ◌∷◌, ◌++◌, Some, slice_get, refl, sym, ◌∙◌, ap, eqb-true, if◌then◌else◌}
use Rattle.std.specs.Cmp.{first_so, second_so, booleans_Decides}
use Rattle.std.proofs.lemmas.Bool.{not-true, not-false}
use Rattle.std.specs.List.{list_any}
use Rattle.std.proofs.Math.Bool.{beq}
use Rattle.std.specs.Bool.{Decides}
use Rattle.std.specs.Cmp.Lexicographic.{pointwise}
use Rattle.std.proofs.lemmas.Slice.Eq.{slice_eq-Decides}
use Rattle.indexmap.specs.IndexSet.{insert_key}
use Rattle.paths.specs.Paths.{PathData, path_eq}
use Rattle.algebra.specs.HeldPaths.{has_path}
use Rattle.paths.proofs.PathOrder.{eq_is, is_eq}
use Rattle.level_check.specs.declared.cells.Cell.{Cell}
use Rattle.level_check.specs.contracts.cells.CellPartialEq.TheImpl as cells
use Rattle.level_check.specs.contracts.told.CalleePartialEq.TheImpl as callees
use Rattle.level_check.specs.Cells.{set_of, IsAt, IsAdded}

abbrev pub same : Cell → Cell → Bool
same = cells.eq-value.it

-- no cell is added
pub kept_keys : (keys new : List Cell) (n : Cell) (is_new : Bool) → is_new ≡ not (list_any (same n) keys) → is_new ≡ false → new ≡ insert_key same keys n → new ≡ keys
kept_keys keys new n is_new told old kept = kept ∙ ap (λ b. if b then keys else keys ++ (n ∷ [])) (not-false (list_any (same n) keys) (sym told ∙ old))

-- one is
pub more_keys : (keys new : List Cell) (n : Cell) (is_new : Bool) → is_new ≡ not (list_any (same n) keys) → is_new ≡ true → new ≡ insert_key same keys n → new ≡ keys ++ (n ∷ [])
more_keys keys new n is_new told fresh more = more ∙ ap (λ b. if b then keys else keys ++ (n ∷ [])) (not-true (list_any (same n) keys) (sym told ∙ fresh))

paths_decide : (p q : PathData) → Decides (path_eq p q) (p ≡ q)
paths_decide p q = (eq_is p q, is_eq p q)

-- equal cells have the same callee and the same paths
pub same_is : (a b : Cell) → same a b ≡ true → (b.callee ≡ a.callee) × (set_of b ≡ set_of a)
same_is a b told =
    let callee = first_so (callees.eq-value.it a.callee b.callee) (pointwise path_eq a.held.items b.held.items) told in
    let method = eqb-true a.callee.method b.callee.method (first_so (a.callee.method == b.callee.method) (beq a.callee.alone b.callee.alone) callee) in
    let alone = (booleans_Decides a.callee.alone b.callee.alone).0 (second_so (a.callee.method == b.callee.method) (beq a.callee.alone b.callee.alone) callee) in
    let held = (slice_eq-Decides paths_decide a.held.items b.held.items (pointwise path_eq a.held.items b.held.items) refl).0 (second_so (callees.eq-value.it a.callee b.callee) (pointwise path_eq a.held.items b.held.items) told) in
    (λ i. record { method = sym method i; alone = sym alone i }, ap has_path (sym held))

-- the cell at the place that insertion tells
stored_at : (new : List Cell) (cell : Cell) (at : ℕ) → (k : Cell) × (slice_get new at ≡ Some k) × (same cell k ≡ true) → IsAt new at cell.callee (set_of cell)
stored_at new cell at (k, there, equal) = let e = same_is cell k equal in record { cell = k; there = there; of_callee = e.0; set = e.1 }

pub found_kept : (keys new : List Cell) (levels : List ℕ) (cell : Cell) (level at : ℕ) → (k : Cell) × (slice_get new at ≡ Some k) × (same cell k ≡ true) → new ≡ keys
    → IsAdded (record { cells = keys; levels = levels }) cell.callee (set_of cell) level at (record { cells = new; levels = levels })
found_kept keys new levels cell level at stored kept = record { found = stored_at new cell at stored; more = inl (λ i. record { cells = kept i; levels = levels }) }

pub found_more : (keys new : List Cell) (levels longer : List ℕ) (cell : Cell) (level at : ℕ) → (k : Cell) × (slice_get new at ≡ Some k) × (same cell k ≡ true) → new ≡ keys ++ (cell ∷ []) → longer ≡ levels ++ (level ∷ [])
    → IsAdded (record { cells = keys; levels = levels }) cell.callee (set_of cell) level at (record { cells = new; levels = longer })
found_more keys new levels longer cell level at stored more long = record { found = stored_at new cell at stored; more = inr (cell, refl, refl, λ i. record { cells = more i; levels = long i }) }
