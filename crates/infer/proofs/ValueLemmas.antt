-- The values of tables: what is read through the relevant paths themselves, and values one method at a time.
use Rattle.std.proofs.Common.{◌≡◌, ℕ, zero, suc, ◌+◌, ◌-◌, ◌<◌, ◌≤◌, Bool, true, false, List, [], ◌∷◌, ◌++◌, length, map, slice_get, Some, None, refl, sym, ap, subst, ◌∙◌, arith, append_assoc}
use Rattle.std.specs.Prelude.{Option, IfSome, nat_lt}
use Rattle.std.proofs.lemmas.Bool.Decides.{nat_tests}
use Rattle.std.proofs.lemmas.List.{length-append}
use Rattle.std.proofs.lemmas.Option.{slice_get_past}
use Rattle.paths.specs.Paths.{PathData}
use Rattle.algebra.specs.declared.basic.Basic.{Basic}
use Rattle.algebra.specs.declared.basic.Basic.TheVariants.{Const}
use Rattle.algebra.specs.HeldPaths.{Held}
use Rattle.algebra.specs.Values.{Keeps}
use Rattle.rules.specs.Effect.{Assignment}
use Rattle.infer.specs.Tables.{chosen, table_or_empty, table_assignment}
use Rattle.infer.specs.Cells.{table_in, tables_in}
use Rattle.infer.specs.Verdicts.{AreKnown, basic_at, assignment_of}
use Rattle.infer.proofs.TableParts.{chosen_none}

-- one table more
pub tables_more : (rel : ℕ → List PathData) (A : Assignment) (old new all : List (List Basic)) (table : List Basic) (m count : ℕ) → m < count → table ≡ table_in rel A m → new ≡ old ++ table ∷ []
    → old ++ tables_in rel A m (count - m) ≡ all → new ++ tables_in rel A (m + 1) (count - (m + 1)) ≡ all
tables_more rel A old new all table m count below is new_is so_far =
    let left : count - m ≡ suc (count - (m + 1)) = omega arith in
    let next : suc m ≡ m + 1 = omega arith in
    ap (λ ts. ts ++ tables_in rel A (m + 1) (count - (m + 1))) new_is ∙ append_assoc old (table ∷ []) (tables_in rel A (m + 1) (count - (m + 1)))
    ∙ (λ i. old ++ (is i ∷ tables_in rel A (sym next i) (count - (m + 1)))) ∙ ap (λ n. old ++ tables_in rel A m n) (sym left) ∙ so_far

module _ {S A : Type 0} (k : S → A → Type 0) (v : S → A → Held → Basic) (f : Assignment) where
  -- so many methods have known values, and these are the assignment's
  pub record AreValues (store : S) (values : List A) (most : ℕ) : Type 0 where
    pub count : length values ≡ most
    pub known : AreKnown k store values
    pub same : (m : ℕ) → m < most → (H : Held) → assignment_of v store values m H ≡ f m H

  pub no_values : (store : S) (values : List A) → values ≡ [] → AreValues store values 0
  no_values store values none = record {
    count = ap length none;
    known = λ m. subst (λ xs. IfSome (slice_get xs m) (λ a. k store a)) (sym none) tt;
    same = λ m below H. absurd (omega arith);
  }

  known_at : (old new : S) → Keeps k v old new → (o : Option A) → IfSome o (λ a. k old a) → IfSome o (λ a. k new a)
  known_at old new keeps None known = tt
  known_at old new keeps (Some a) known = keeps.known a known

  kept_at : (old new : S) → Keeps k v old new → (o : Option A) → IfSome o (λ a. k old a) → (H : Held) → basic_at v new o H ≡ basic_at v old o H
  kept_at old new keeps None known H = refl
  kept_at old new keeps (Some a) known H = keeps.same a known H

  -- the items of a list with one more at its end
  last_or : (P : Option A → Type 0) (xs : List A) (x : A) (m : ℕ) → P (Some x) → P None → (m < length xs → P (slice_get xs m)) → P (slice_get (xs ++ x ∷ []) m)
  last_or P [] x zero last none before = last
  last_or P [] x (suc m) last none before = none
  last_or P (y ∷ xs) x zero last none before = before (omega arith)
  last_or P (y ∷ xs) x (suc m) last none before = last_or P xs x m last none (λ below. before (omega arith))

  front_of : (xs : List A) (x : A) (m : ℕ) → m < length xs → slice_get (xs ++ x ∷ []) m ≡ slice_get xs m
  front_of [] x m below = absurd (omega arith)
  front_of (y ∷ xs) x zero below = refl
  front_of (y ∷ xs) x (suc m) below = front_of xs x m (omega arith)

  end_of : (xs : List A) (x : A) → slice_get (xs ++ x ∷ []) (length xs) ≡ Some x
  end_of [] x = refl
  end_of (y ∷ xs) x = end_of xs x

  same_at : (old new : S) (values : List A) (x : A) (most m : ℕ) → Keeps k v old new → AreValues old values most → ((H : Held) → v new x H ≡ f most H) → (b : Bool) → nat_lt m most ≡ b → m < most + 1 → (H : Held) → assignment_of v new (values ++ x ∷ []) m H ≡ f m H
  same_at old new values x most m keeps so_far is true test below H =
      let before : m < most = grind (arith, nat_tests) in
      ap (λ o. basic_at v new o H) (front_of values x m (omega (arith, so_far.count, before))) ∙ kept_at old new keeps (slice_get values m) (so_far.known m) H ∙ so_far.same m before H
  same_at old new values x most m keeps so_far is false test below H =
      let past : most ≤ m = grind (arith, nat_tests) in
      let last : m ≡ most = omega arith in
      let place : m ≡ length values = omega (arith, so_far.count) in
      ap (λ n. basic_at v new (slice_get (values ++ x ∷ []) n) H) place ∙ ap (λ o. basic_at v new o H) (end_of values x) ∙ is H ∙ ap (λ n. f n H) (sym last)

  -- one value more
  pub values_more : (old new : S) (values longer : List A) (x : A) (most : ℕ) → longer ≡ values ++ x ∷ [] → Keeps k v old new → k new x → ((H : Held) → v new x H ≡ f most H) → AreValues old values most → AreValues new longer (most + 1)
  values_more old new values longer x most longer_is keeps known is so_far = subst (λ xs. AreValues new xs (most + 1)) (sym longer_is) (record {
    count = length-append values (x ∷ []) ∙ ap (λ n. n + 1) so_far.count;
    known = λ m. last_or (λ o. IfSome o (λ a. k new a)) values x m known tt (λ below. known_at old new keeps (slice_get values m) (so_far.known m));
    same = λ m below H. same_at old new values x most m keeps so_far is (nat_lt m most) refl below H;
  })

  -- past the last method both have const
  pub all_values : (store : S) (values : List A) (most : ℕ) → AreValues store values most → ((m : ℕ) (H : Held) → most ≤ m → f m H ≡ Const) → (m : ℕ) (H : Held) → assignment_of v store values m H ≡ f m H
  all_values store values most all past m H = value_at (nat_lt m most) refl
    where
      value_at : (b : Bool) → nat_lt m most ≡ b → assignment_of v store values m H ≡ f m H
      value_at true test = all.same m (grind (arith, nat_tests)) H
      value_at false test =
          let beyond : most ≤ m = grind (arith, nat_tests) in
          ap (λ o. basic_at v store o H) (slice_get_past values m (omega (arith, all.count, beyond))) ∙ sym (past m H beyond)

-- a method without a table has const
pub assigned_past : (rel : ℕ → List PathData) (tables : List (List Basic)) (m : ℕ) (H : Held) → length tables ≤ m → table_assignment rel tables m H ≡ Const
assigned_past rel tables m H past = ap (λ o. chosen (map H (rel m)) (table_or_empty o)) (slice_get_past tables m past) ∙ chosen_none (map H (rel m))
