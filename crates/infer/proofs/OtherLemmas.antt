-- After a rise the demands of the methods that don't call the risen one, and which it doesn't override, are met as they were, and its own is met.
use Rattle.std.proofs.Common.{◌≡◌, ℕ, zero, suc, ◌<◌, Bool, true, false, ◌==◌, List, [], ◌∷◌, length, map, slice_get, slice_set, Some, None, refl, sym, ap, subst, ◌∙◌, arith, inl, inr, ◌⊎◌}
use Rattle.std.specs.Prelude.{Option}
use Rattle.std.proofs.lemmas.Bool.{and_from, eq-eqb}
use Rattle.base.proofs.Lists.{set_here}
use Rattle.paths.specs.Paths.{PathData}
use Rattle.algebra.specs.declared.basic.Basic.{Basic}
use Rattle.algebra.specs.declared.basic.Basic.TheVariants.{Const, Mover, Atomic, Cmpd, Error}
use Rattle.algebra.specs.Basics.{below_of, join_of}
use Rattle.algebra.specs.HeldPaths.{Held, has_path}
use Rattle.core_program.specs.Core.{Program, Method}
use Rattle.rules.proofs.SetLemmas.{second}
use Rattle.fixpoint.proofs.NoteLemmas.{set_at}
use Rattle.rules.specs.Called.{method_calls, counts_as_caller}
use Rattle.infer.specs.Tables.{chosen, table_or_empty, table_assignment}
use Rattle.infer.specs.Cells.{at_parts, demands_of, demands_at, are_below, joined_tables, table_falls, is_met_by, AreTables}
use Rattle.infer.proofs.RunLemmas.{run_same}
use Rattle.infer.proofs.CellLemmas.{each_falls}

not_true : (b : Bool) → b ≡ true → b ≡ false → ⊥
not_true b e f = let k : true ≡ false = sym e ∙ f in absurd cc

same_or : (k m : ℕ) → (k ≡ m) ⊎ (k ≡ m → ⊥)
same_or zero zero = inl refl
same_or zero (suc m) = inr (λ e. omega (arith, e))
same_or (suc k) zero = inr (λ e. omega (arith, e))
same_or (suc k) (suc m) = elim (same_or k m) as (λ _. (suc k ≡ suc m) ⊎ (suc k ≡ suc m → ⊥)) [
  | inl same ↦ inl (ap suc same)
  | inr other ↦ inr (λ e. other (omega (arith, e)))
]

-- a row is at most what it is joined to
under_join : (b c : Basic) → below_of b (join_of b c) ≡ true
under_join Const Const = refl
under_join Const Mover = refl
under_join Const Atomic = refl
under_join Const Cmpd = refl
under_join Const Error = refl
under_join Mover Const = refl
under_join Mover Mover = refl
under_join Mover Atomic = refl
under_join Mover Cmpd = refl
under_join Mover Error = refl
under_join Atomic Const = refl
under_join Atomic Mover = refl
under_join Atomic Atomic = refl
under_join Atomic Cmpd = refl
under_join Atomic Error = refl
under_join Cmpd Const = refl
under_join Cmpd Mover = refl
under_join Cmpd Atomic = refl
under_join Cmpd Cmpd = refl
under_join Cmpd Error = refl
under_join Error Const = refl
under_join Error Mover = refl
under_join Error Atomic = refl
under_join Error Cmpd = refl
under_join Error Error = refl

pub joined_covers : (xs ys : List Basic) → length xs ≡ length ys → are_below xs (joined_tables xs ys) ≡ true
joined_covers [] ys same = refl
joined_covers (x ∷ xs) [] same = absurd (omega (arith, same))
joined_covers (x ∷ xs) (y ∷ ys) same = and_from (below_of x (join_of x y)) (are_below xs (joined_tables xs ys)) (under_join x y) (joined_covers xs ys (omega (arith, same)))

module _ (P : Program) (overs : ℕ → List ℕ) (rel : ℕ → List PathData) (tables : List (List Basic)) (m : ℕ) (risen : List Basic) (within : m < length tables) where
  abbrev pub tables_now : List (List Basic)
  tables_now = slice_set tables m risen

  table_same : (k : ℕ) → (k ≡ m → ⊥) → slice_get tables_now k ≡ slice_get tables k
  table_same k differs = elim (set_at tables m risen k) as (λ _. slice_get tables_now k ≡ slice_get tables k) [
    | inl here ↦ absurd (differs (sym here.0))
    | inr other ↦ other
  ]

  assigned_same : (k : ℕ) → (k == m) ≡ false → (H : Held) → table_assignment rel tables k H ≡ table_assignment rel tables_now k H
  assigned_same k differs H = ap (λ o. chosen (map H (rel k)) (table_or_empty o)) (sym (table_same k (λ e. not_true (k == m) (subst (λ n. (k == n) ≡ true) e (eq-eqb k k refl)) differs)))

  -- what a method demands that doesn't call the risen one
  demands_same : (k : ℕ) (o : Option Method) → method_calls o (overs k) m ≡ false → demands_of P overs rel (table_assignment rel tables) k o ≡ demands_of P overs rel (table_assignment rel tables_now) k o
  demands_same k None quiet = refl
  demands_same k (Some method) quiet = λ i. at_parts (λ held. run_same P rel (overs k) method (table_assignment rel tables) (table_assignment rel tables_now) m assigned_same quiet (has_path held) i) method.requires_ (rel k)

  met_other : (k : ℕ) → counts_as_caller P overs k m ≡ false → (k ≡ m → ⊥) → are_below (demands_at P overs rel (table_assignment rel tables) k) (table_or_empty (slice_get tables k)) ≡ true
      → are_below (demands_at P overs rel (table_assignment rel tables_now) k) (table_or_empty (slice_get tables_now k)) ≡ true
  met_other k quiet differs met =
      subst (λ o. are_below (demands_at P overs rel (table_assignment rel tables_now) k) (table_or_empty o) ≡ true) (sym (table_same k differs))
      (subst (λ d. are_below d (table_or_empty (slice_get tables k)) ≡ true) (demands_same k (slice_get P.methods k) quiet) met)

  met_itself : counts_as_caller P overs m m ≡ false → are_below (demands_at P overs rel (table_assignment rel tables) m) risen ≡ true
      → are_below (demands_at P overs rel (table_assignment rel tables_now) m) (table_or_empty (slice_get tables_now m)) ≡ true
  met_itself quiet met =
      subst (λ o. are_below (demands_at P overs rel (table_assignment rel tables_now) m) (table_or_empty o) ≡ true) (sym (set_here tables m risen within))
      (subst (λ d. are_below d risen ≡ true) (demands_same m (slice_get P.methods m) quiet) met)

  pub others_met : AreTables P rel tables_now → are_below (demands_at P overs rel (table_assignment rel tables) m) risen ≡ true → (k : ℕ) → counts_as_caller P overs k m ≡ false
      → ((k ≡ m → ⊥) → is_met_by P overs rel tables k ≡ true) → is_met_by P overs rel tables_now k ≡ true
  others_met each covered k quiet before =
      and_from (table_falls (rel k) (table_or_empty (slice_get tables_now k))) (are_below (demands_at P overs rel (table_assignment rel tables_now) k) (table_or_empty (slice_get tables_now k)))
      (each_falls P rel tables_now each k)
      (elim (same_or k m) as (λ _. are_below (demands_at P overs rel (table_assignment rel tables_now) k) (table_or_empty (slice_get tables_now k)) ≡ true) [
        | inl same ↦ subst (λ n. are_below (demands_at P overs rel (table_assignment rel tables_now) n) (table_or_empty (slice_get tables_now n)) ≡ true) (sym same)
            (met_itself (subst (λ n. counts_as_caller P overs n m ≡ false) same quiet) covered)
        | inr differs ↦ met_other k quiet differs
            (second (table_falls (rel k) (table_or_empty (slice_get tables k))) (are_below (demands_at P overs rel (table_assignment rel tables) k) (table_or_empty (slice_get tables k))) (before differs))
      ])
