-- What is told is of methods that are there.
use Rattle.std.proofs.Common.{ℕ, ◌<◌, ◌==◌, Bool, true, false, List, [], ◌∷◌, ◌++◌, Option, Some, None, if◌then◌else◌}
use Rattle.std.specs.List.{list_any}
use Rattle.core_program.specs.Core.{Program}
use Rattle.explain.specs.Whys.{ExplainedData}
use Rattle.paths.specs.Paths.{PathData}
use Rattle.explain_text.specs.Arrangements.{ArrangedData, BlamingData, alone, arranged, behind, blamed, first_blaming, firsthand, how_many, secondhand}
use Rattle.explain_commands.specs.Explained.{AreAmongMethods, told_of}

within_both : (n : ℕ) (xs ys : List ArrangedData) → AreAmongMethods n (told_of xs) → AreAmongMethods n (told_of ys) → AreAmongMethods n (told_of (xs ++ ys))
within_both n [] ys one two = two
within_both n (x ∷ xs) ys one two = (one.0, within_both n xs ys one.1 two)

-- those that blame a method are
abbrev AreBlamingWithin : ℕ → List BlamingData → Type 0
AreBlamingWithin n [] = Unit {0}
AreBlamingWithin n (y ∷ ys) = (y.told.method < n) × AreBlamingWithin n ys

first_within : (n : ℕ) (seen : List ℕ) (ys : List BlamingData) → AreBlamingWithin n ys → AreAmongMethods n (told_of (first_blaming seen ys))
first_within n seen [] w = tt
first_within n seen (y ∷ ys) w = by (list_any (λ m. m == y.callee) seen) (first_within n seen ys w.1) (first_within n (seen ++ y.callee ∷ []) ys w.1)
  where
    by : (b : Bool) → AreAmongMethods n (told_of (first_blaming seen ys)) → AreAmongMethods n (told_of (first_blaming (seen ++ y.callee ∷ []) ys))
        → AreAmongMethods n (told_of (if b then first_blaming seen ys else record { told = y.told; more = how_many y.callee ys } ∷ first_blaming (seen ++ y.callee ∷ []) ys))
    by true one two = one
    by false one two = (w.0, two)

module _ (P : Program) (rel : ℕ → List PathData) where
  own_within : (n : ℕ) (xs : List ExplainedData) → AreAmongMethods n xs → AreAmongMethods n (told_of (firsthand P rel xs))
  own_within n [] w = tt
  own_within n (x ∷ xs) w = within_both n (alone x (blamed P rel x.why)) (firsthand P rel xs) (by (blamed P rel x.why)) (own_within n xs w.1)
    where
      by : (o : Option ℕ) → AreAmongMethods n (told_of (alone x o))
      by None = (w.0, tt)
      by (Some m) = tt

  blaming_within : (n : ℕ) (xs : List ExplainedData) → AreAmongMethods n xs → AreBlamingWithin n (secondhand P rel xs)
  blaming_within n [] w = tt
  blaming_within n (x ∷ xs) w = by (blamed P rel x.why) (blaming_within n xs w.1)
    where
      by : (o : Option ℕ) → AreBlamingWithin n (secondhand P rel xs) → AreBlamingWithin n (behind x o ++ secondhand P rel xs)
      by None rest = rest
      by (Some m) rest = (w.0, rest)

  pub arranged_within : (n : ℕ) (xs : List ExplainedData) → AreAmongMethods n xs → AreAmongMethods n (told_of (arranged P rel xs))
  arranged_within n xs w = within_both n (firsthand P rel xs) (first_blaming [] (secondhand P rel xs)) (own_within n xs w) (first_within n [] (secondhand P rel xs) (blaming_within n xs w))
