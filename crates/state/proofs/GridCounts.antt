-- How many entries of a table a thread has.
use Rattle.std.proofs.Common.{◌≡◌, ℕ, zero, suc, ◌+◌, ◌<◌, false, cond, List, [], ◌∷◌, ◌++◌, refl, ap, ◌∙◌, arith, ◌==◌}
use Rattle.std.specs.Prelude.{Option, Some, None, map, count_by, slice_get}
use Rattle.std.specs.FinMap as M
use Rattle.std.proofs.lemmas.List.Sums.{sum_by-cons}
use Rattle.std.proofs.lemmas.Bool.{eq-eqb}
use Rattle.base.proofs.NumberLemmas.{other_below, other_above}
use Rattle.state.specs.declared.value.Address.{Address}
use Rattle.state.specs.Slots.{filled_in, filled_row, slots_entries, rows_entries, grid_map}
use Rattle.state.proofs.GridMaps.{entries_grid}

module _ {X : Type 0} (thread : ℕ) where
  abbrev count : List (Address × X) → ℕ
  count es = count_by (λ a. a.thread == thread) (map (λ e. e.0) es)

  count-cons : (e : Address × X) (es : List (Address × X)) → count (e ∷ es) ≡ cond (e.0.thread == thread) 1 0 + count es
  count-cons e es = sum_by-cons (λ (x : Address). cond (x.thread == thread) 1 0) e.0 (map (λ e. e.0) es)

  count-append : (xs ys : List (Address × X)) → count (xs ++ ys) ≡ count xs + count ys
  count-append [] ys = omega arith
  count-append (e ∷ xs) ys = count-cons e (xs ++ ys) ∙ omega (arith, count-append xs ys, count-cons e xs)

  count_own : (c : ℕ) (slots : List (Option X)) → count (slots_entries thread c slots) ≡ filled_in slots
  count_own c [] = refl
  count_own c (None ∷ slots) = count_own (c + 1) slots
  count_own c (Some v ∷ slots) =
      count-cons (record { thread = thread; count = c }, v) (slots_entries thread (c + 1) slots)
      ∙ (λ j. cond (eq-eqb thread thread refl j) 1 0 + count_own (c + 1) slots j)

  count_other : (t c : ℕ) (slots : List (Option X)) → (t == thread) ≡ false → count (slots_entries t c slots) ≡ 0
  count_other t c [] other = refl
  count_other t c (None ∷ slots) other = count_other t (c + 1) slots other
  count_other t c (Some v ∷ slots) other =
      count-cons (record { thread = t; count = c }, v) (slots_entries t (c + 1) slots)
      ∙ (λ j. cond (other j) 1 0 + count_other t (c + 1) slots other j)

  count_later : (t : ℕ) (rows : List (List (Option X))) → thread < t → count (rows_entries t rows) ≡ 0
  count_later t [] less = refl
  count_later t (slots ∷ rows) less =
      count-append (slots_entries t 0 slots) (rows_entries (t + 1) rows)
      ∙ (λ j. count_other t 0 slots (other_above t thread less) j + count_later (t + 1) rows (omega arith) j)

  count_rows : (t k : ℕ) (rows : List (List (Option X))) → thread ≡ t + k → count (rows_entries t rows) ≡ filled_row (slice_get rows k)
  count_rows t k [] is = refl
  count_rows t zero (slots ∷ rows) is =
      let same : t ≡ thread = omega arith in
      count-append (slots_entries t 0 slots) (rows_entries (t + 1) rows)
      ∙ (λ j. count (slots_entries (same j) 0 slots) + count_later (t + 1) rows (omega arith) j)
      ∙ ap (λ n. n + 0) (count_own 0 slots) ∙ omega arith
  count_rows t (suc k) (slots ∷ rows) is =
      let less : t < thread = omega arith in
      count-append (slots_entries t 0 slots) (rows_entries (t + 1) rows)
      ∙ ap (λ n. n + count (rows_entries (t + 1) rows)) (count_other t 0 slots (other_below t thread less))
      ∙ omega (arith, count_rows (t + 1) k rows (omega arith))

  pub count_grid : (rows : List (List (Option X))) → count_by (λ a. a.thread == thread) (M.keys (grid_map rows)) ≡ filled_row (slice_get rows thread)
  count_grid rows = ap (λ es. count es) (entries_grid rows) ∙ count_rows 0 thread rows (omega arith)
