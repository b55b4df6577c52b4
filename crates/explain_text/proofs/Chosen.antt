-- Each explanation is told or counted.
use Rattle.std.proofs.Common.{◌≡◌, ℕ, suc, ◌+◌, ◌==◌, Bool, true, false, ◌||◌, List, [], ◌∷◌, ◌++◌, Option, Some, None, length, refl, sym, ap, ◌∙◌, if◌then◌else◌, arith}
use Rattle.std.specs.Prelude.{count_by}
use Rattle.std.proofs.lemmas.Bool.{eqb-true}
use Rattle.std.proofs.lemmas.Bool.Decides.{nat_tests}
use Rattle.std.proofs.lemmas.List.Folds.{list_any-append}
use Rattle.std.proofs.lemmas.List.Recursion.{is_count_by}
use Rattle.std.specs.List.{list_any}
use Rattle.core_program.specs.Core.{Program}
use Rattle.explain.specs.Whys.{ExplainedData}
use Rattle.paths.specs.Paths.{PathData}
use Rattle.explain_text.specs.Arrangements.{ArrangedData, BlamingData, alone, arranged, behind, blamed, told_or_counted, first_blaming, firsthand, how_many, secondhand}

-- how many pass a test
abbrev many : (BlamingData → Bool) → List BlamingData → ℕ
many p [] = 0
many p (y ∷ ys) = if p y then 1 + many p ys else many p ys

many_is : (p : BlamingData → Bool) (ys : List BlamingData) → many p ys ≡ count_by p ys
many_is p ys = is_count_by (many p) p refl (λ y rest. refl) ys

-- whether the method that one blames is among these
abbrev is_seen : List ℕ → BlamingData → Bool
is_seen seen y = list_any (λ m. m == y.callee) seen

one_step : (both before here : Bool) (x y z : ℕ) → both ≡ (before || here) → (before ≡ true → here ≡ true → ⊥) → x ≡ y + z → (if both then 1 + x else x) ≡ (if here then 1 + y else y) + (if before then 1 + z else z)
one_step both true true x y z is apart e = absurd (apart refl refl)
one_step both true false x y z is apart e = rw (is) (omega (arith, e))
one_step both false true x y z is apart e = rw (is) (omega (arith, e))
one_step both false false x y z is apart e = rw (is) (omega (arith, e))

-- one of these methods, or the last
last_seen : (seen : List ℕ) (c : ℕ) (y : BlamingData) → is_seen (seen ++ c ∷ []) y ≡ (is_seen seen y || (y.callee == c))
last_seen seen c y = list_any-append (λ m. m == y.callee) seen (c ∷ []) ∙ ap (λ b. is_seen seen y || b) (only (c == y.callee) refl)
  where
    only : (b : Bool) → (c == y.callee) ≡ b → list_any (λ m. m == y.callee) (c ∷ []) ≡ (y.callee == c)
    only b is = grind (arith, nat_tests)

apart_at : (seen : List ℕ) (c : ℕ) (y : BlamingData) → list_any (λ m. m == c) seen ≡ false → is_seen seen y ≡ true → (y.callee == c) ≡ true → ⊥
apart_at seen c y unseen before here =
    let same : y.callee ≡ c = eqb-true y.callee c here in
    let e : true ≡ false = sym before ∙ ap (λ k. list_any (λ m. m == k) seen) same ∙ unseen in
    cc

one_more_seen : (seen : List ℕ) (c : ℕ) (ys : List BlamingData) → list_any (λ m. m == c) seen ≡ false
    → many (is_seen (seen ++ c ∷ [])) ys ≡ many (λ y. y.callee == c) ys + many (is_seen seen) ys
one_more_seen seen c [] unseen = omega arith
one_more_seen seen c (y ∷ ys) unseen =
    one_step (is_seen (seen ++ c ∷ []) y) (is_seen seen y) (y.callee == c) (many (is_seen (seen ++ c ∷ [])) ys) (many (λ z. z.callee == c) ys) (many (is_seen seen) ys)
    (last_seen seen c y) (apart_at seen c y unseen) (one_more_seen seen c ys unseen)

count_one : (b : Bool) (y : BlamingData) (ys : List BlamingData) (one other : List ArrangedData) (n k : ℕ) → (b ≡ true → told_or_counted one + n ≡ length ys) → (b ≡ false → 1 + k + told_or_counted other + n ≡ suc (length ys))
    → told_or_counted (if b then one else record { told = y.told; more = k } ∷ other) + (if b then 1 + n else n) ≡ suc (length ys)
count_one true y ys one other n k seen unseen = let e = seen refl in omega (arith, e)
count_one false y ys one other n k seen unseen = let e = unseen refl in omega (arith, e)

all_blaming : (seen : List ℕ) (ys : List BlamingData) → told_or_counted (first_blaming seen ys) + many (is_seen seen) ys ≡ length ys
all_blaming seen [] = omega arith
all_blaming seen (y ∷ ys) =
    count_one (is_seen seen y) y ys (first_blaming seen ys) (first_blaming (seen ++ y.callee ∷ []) ys) (many (is_seen seen) ys) (how_many y.callee ys)
    (λ is. all_blaming seen ys)
    (λ is. let rest = all_blaming (seen ++ y.callee ∷ []) ys in let split = one_more_seen seen y.callee ys is in let same = many_is (λ z. z.callee == y.callee) ys in omega (arith, rest, split, same))

none_seen : (ys : List BlamingData) → many (is_seen []) ys ≡ 0
none_seen [] = refl
none_seen (y ∷ ys) = none_seen ys

counted_both : (xs ys : List ArrangedData) → told_or_counted (xs ++ ys) ≡ told_or_counted xs + told_or_counted ys
counted_both [] ys = omega arith
counted_both (x ∷ xs) ys = let e = counted_both xs ys in omega (arith, e)

module _ (P : Program) (rel : ℕ → List PathData) where
  each_once : (xs : List ExplainedData) → told_or_counted (firsthand P rel xs) + length (secondhand P rel xs) ≡ length xs
  each_once [] = omega arith
  each_once (x ∷ xs) = by (blamed P rel x.why) (each_once xs)
    where
      by : (o : Option ℕ) → told_or_counted (firsthand P rel xs) + length (secondhand P rel xs) ≡ length xs
          → told_or_counted (alone x o ++ firsthand P rel xs) + length (behind x o ++ secondhand P rel xs) ≡ suc (length xs)
      by None e = omega (arith, e)
      by (Some m) e = omega (arith, e)

  -- as many are told or counted as there are explanations
  pub all_counted : (xs : List ExplainedData) → told_or_counted (arranged P rel xs) ≡ length xs
  all_counted xs =
      let ys = secondhand P rel xs in
      let both = counted_both (firsthand P rel xs) (first_blaming [] ys) in
      let blaming = all_blaming [] ys in
      let none = none_seen ys in
      let once = each_once xs in
      omega (arith, both, blaming, none, once)
