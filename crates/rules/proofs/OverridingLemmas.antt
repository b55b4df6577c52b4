-- Rows that get one method after the other, and in the end have exactly the methods that override.
use Rattle.std.proofs.Common.{◌≡◌, ◌↔◌, ◌⊎◌, ℕ, ◌+◌, Bool, true, false, ◌==◌, ◌<◌, ◌≤◌, List, [], ◌∷◌, ◌++◌, length, refl, sym, ap, subst, ◌∙◌, append_assoc, arith, inl, inr, if◌then◌else◌}
use Rattle.std.specs.Prelude.{Contains, Vec}
use Rattle.std.specs.declared.alloc.Global.{Global}
use Rattle.std.proofs.lemmas.List.Elements.{Contains-append_left, Contains-append_right, Contains-append_cases}
use Rattle.std.proofs.lemmas.Bool.{eqb-true, eqb-false, eq-eqb}
use Rattle.std.proofs.lemmas.Option.{slice_get_within}
use Rattle.base.proofs.Lists.{contains_cases, contains_later}
use Rattle.core_program.specs.Core.{Program}
use Rattle.core_program.specs.Dispatch.{Overrides}
use Rattle.rules.specs.Overriding.{told_each, AreOverriders, HaveFirst, IsAddedTo}
use Rattle.rules.specs.Search.{row_at, rows_of}
use Rattle.rules.proofs.Reaching.{contains_none, contains_one, contains_here}

-- ---- one method more

told_is : (over : ℕ) (xs : List ℕ) (m n : ℕ) → Contains (told_each over xs m) n → (n ≡ over) × Contains xs m
told_is over [] m n has = contains_none n has
told_is over (x ∷ xs) m n has = by_test (m == x) refl (λ h. let r = told_is over xs m n h in (r.0, contains_later x m xs r.1)) has
  where
    by_test : (b : Bool) → (m == x) ≡ b → (Contains (told_each over xs m) n → (n ≡ over) × Contains (x ∷ xs) m) → Contains ((if b then over ∷ [] else []) ++ told_each over xs m) n → (n ≡ over) × Contains (x ∷ xs) m
    by_test true same later h = elim (contains_cases over n (told_each over xs m) h) as (λ _. (n ≡ over) × Contains (x ∷ xs) m) [
      | inl e ↦ (sym e, subst (λ z. Contains (z ∷ xs) m) (eqb-true m x same) (contains_here m xs))
      | inr h ↦ later h
    ]
    by_test false other later h = later h

is_told : (over : ℕ) (xs : List ℕ) (m : ℕ) → Contains xs m → Contains (told_each over xs m) over
is_told over [] m has = contains_none m has
is_told over (x ∷ xs) m has = elim (contains_cases x m xs has) as (λ _. Contains (told_each over (x ∷ xs) m) over) [
  | inl e ↦ Contains-append_left (if m == x then over ∷ [] else []) (told_each over xs m) over
      (subst (λ b. Contains (if b then over ∷ [] else []) over) (sym (eq-eqb m x (sym e))) (contains_here over []))
  | inr later ↦ Contains-append_right (if m == x then over ∷ [] else []) (told_each over xs m) over (is_told over xs m later)
]

-- a method that is added to the rows of these, which are those for which something holds
pub added_to_each : (Holds : ℕ → Type 0) (over : ℕ) (xs : List ℕ) (rows more : List (List ℕ)) → ((m : ℕ) → Contains xs m ↔ Holds m)
    → ((m : ℕ) → row_at more m ≡ row_at rows m ++ told_each over xs m) → IsAddedTo Holds over rows more
added_to_each Holds over xs rows more are added m n = (
  (λ has. elim (Contains-append_cases (row_at rows m) (told_each over xs m) n (subst (λ row. Contains row n) (added m) has)) as (λ _. Contains (row_at rows m) n ⊎ ((n ≡ over) × Holds m)) [
    | inl old ↦ inl old
    | inr told ↦ let r = told_is over xs m n told in inr (r.0, (are m).0 r.1)
  ]),
  (λ either. subst (λ row. Contains row n) (sym (added m)) (elim either as (λ _. Contains (row_at rows m ++ told_each over xs m) n) [
    | inl old ↦ Contains-append_left (row_at rows m) (told_each over xs m) n old
    | inr (e, holds) ↦ subst (λ z. Contains (row_at rows m ++ told_each over xs m) z) (sym e)
        (Contains-append_right (row_at rows m) (told_each over xs m) over (is_told over xs m ((are m).1 holds)))
  ])),
)

-- the first of these is done, and the rest are left
pub told_more : (over x m : ℕ) (row more rest whole : List ℕ) → more ≡ (if m == x then row ++ over ∷ [] else row)
    → row ++ ((if m == x then over ∷ [] else []) ++ rest) ≡ whole → more ++ rest ≡ whole
told_more over x m row more rest whole added so_far = by_test (m == x) added so_far
  where
    by_test : (b : Bool) → more ≡ (if b then row ++ over ∷ [] else row) → row ++ ((if b then over ∷ [] else []) ++ rest) ≡ whole → more ++ rest ≡ whole
    by_test true e h = ap (λ z. z ++ rest) e ∙ append_assoc row (over ∷ []) rest ∙ h
    by_test false e h = ap (λ z. z ++ rest) e ∙ h

-- a method that is added to one row
pub added_to_one : (Holds : ℕ → Type 0) (over next : ℕ) (rows more : List (List ℕ)) → ((m : ℕ) → (next ≡ m) ↔ Holds m)
    → ((m : ℕ) → row_at more m ≡ (if m == next then row_at rows m ++ over ∷ [] else row_at rows m)) → IsAddedTo Holds over rows more
added_to_one Holds over next rows more is added m n = by_test (m == next) refl (added m)
  where
    by_test : (b : Bool) → (m == next) ≡ b → row_at more m ≡ (if b then row_at rows m ++ over ∷ [] else row_at rows m)
        → Contains (row_at more m) n ↔ (Contains (row_at rows m) n ⊎ ((n ≡ over) × Holds m))
    by_test true same e = (
      (λ has. elim (Contains-append_cases (row_at rows m) (over ∷ []) n (subst (λ row. Contains row n) e has)) as (λ _. Contains (row_at rows m) n ⊎ ((n ≡ over) × Holds m)) [
        | inl old ↦ inl old
        | inr new ↦ inr (sym (contains_one over n new), (is m).0 (sym (eqb-true m next same)))
      ]),
      (λ either. subst (λ row. Contains row n) (sym e) (elim either as (λ _. Contains (row_at rows m ++ over ∷ []) n) [
        | inl old ↦ Contains-append_left (row_at rows m) (over ∷ []) n old
        | inr (f, holds) ↦ Contains-append_right (row_at rows m) (over ∷ []) n (subst (λ z. Contains (over ∷ []) z) (sym f) (contains_here over []))
      ])),
    )
    by_test false other e = (
      (λ has. inl (subst (λ row. Contains row n) e has)),
      (λ either. subst (λ row. Contains row n) (sym e) (elim either as (λ _. Contains (row_at rows m) n) [
        | inl old ↦ old
        | inr (f, holds) ↦ absurd (let t : true ≡ false = sym (eq-eqb m next (sym ((is m).1 holds))) ∙ other in cc)
      ])),
    )

-- a method that is added to no row
pub added_to_none : (Holds : ℕ → Type 0) (over : ℕ) (rows : List (List ℕ)) → ((m : ℕ) → Holds m → ⊥) → IsAddedTo Holds over rows rows
added_to_none Holds over rows none m n = (
  (λ has. inl has),
  (λ either. elim either as (λ _. Contains (row_at rows m) n) [ inl old ↦ old | inr (e, holds) ↦ absurd (none m holds) ]),
)

-- ---- one after the other

-- none yet
pub have_none : (Holds : ℕ → ℕ → Type 0) (items : List (Vec ℕ Global)) → items ≡ [] → HaveFirst Holds (rows_of items) 0
have_none Holds items none m over = (
  (λ has. contains_none over (subst (λ z. Contains (row_at (rows_of z) m) over) none has)),
  (λ (below, holds). absurd (omega (arith, below))),
)

pub have_more : (Holds : ℕ → ℕ → Type 0) (rows more : List (List ℕ)) (place over : ℕ) → over ≡ place → IsAddedTo (Holds over) over rows more
    → HaveFirst Holds rows place → HaveFirst Holds more (place + 1)
have_more Holds rows more place over at added so_far m n = (
  (λ has. elim ((added m n).0 has) as (λ _. (n < place + 1) × Holds n m) [
    | inl old ↦ let r = (so_far m n).0 old in let low = r.0 in (omega (arith, low), r.1)
    | inr (e, holds) ↦ (omega (arith, e, at), subst (λ z. Holds z m) (sym e) holds)
  ]),
  (λ (below, holds). by_test (n == over) refl below holds),
)
  where
    by_test : (b : Bool) → (n == over) ≡ b → n < place + 1 → Holds n m → Contains (row_at more m) n
    by_test true same below holds = let e = eqb-true n over same in (added m n).1 (inr (e, subst (λ z. Holds z m) e holds))
    by_test false other below holds = let apart = eqb-false n over other in (added m n).1 (inl ((so_far m n).1 (below_it (λ e. apart (e ∙ sym at)), holds)))
      where
        below_it : (n ≡ place → ⊥) → n < place
        below_it differs = omega (arith, below, differs)

-- all
pub rows_exact : (P : Program) (rows : List (List ℕ)) (place : ℕ) → length P.methods ≤ place → HaveFirst (λ over m. Overrides P over m) rows place → AreOverriders P rows
rows_exact P rows place past have m over = (
  (λ has. ((have m over).0 has).1),
  (λ o. let low = slice_get_within P.methods over o.method o.is in (have m over).1 (omega (arith, low, past), o)),
)
