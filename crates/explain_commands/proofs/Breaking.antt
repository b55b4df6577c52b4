-- Explanations tell as refused exactly the methods that break their bounds, and only methods that are there.
use Rattle.std.proofs.Common.{◌≡◌, ◌<◌, ◌≤◌, ℕ, zero, suc, ◌+◌, Bool, true, false, not, ◌||◌, List, [], ◌∷◌, ◌++◌, Option, Some, None, if◌then◌else◌, length, replicate, slice_get, slice_set, unwrap_or, refl, sym, ap, subst, ◌∙◌, arith}
use Rattle.std.proofs.lemmas.Option.{slice_get_within}
use Rattle.core_program.specs.Core.{Program, Method}
use Rattle.explain.specs.Programs.{explanations, explanations_from, led, led_to, if_untold, compound, refused, marked, explained_methods, keeps}
use Rattle.explain.specs.declared.grounds.Ground.{Ground}
use Rattle.explain.specs.Whys.{ExplainedData}
use Rattle.infer.specs.Verdicts.{HoldBounds, IsFirstBroken}
use Rattle.algebra.specs.declared.basic.Basic.{Basic}
use Rattle.paths.specs.Paths.{PathData}
use Rattle.rules.specs.Effect.{Assignment}
use Rattle.sources.specs.declared.refusal.Ending.TheVariants.{Done, Inadmissible}
use Rattle.explain_commands.specs.Broken.{broken_from, broken_methods, refused_in, ending_for}
use Rattle.explain_commands.specs.Explained.{AreAmongMethods}

-- of fewer methods, so of more
pub within_more : (n k : ℕ) (xs : List ExplainedData) → n ≤ k → AreAmongMethods n xs → AreAmongMethods k xs
within_more n k [] le w = tt
within_more n k (x ∷ xs) le w = (let below = w.0 in omega (arith, below, le), within_more n k xs le w.1)

-- none of them is told as refused, and all of them are there
abbrev pub AreLed : ℕ → List ExplainedData → Type 0
AreLed n [] = Unit {0}
AreLed n (x ∷ xs) = (x.is_refused ≡ false) × (x.method < n) × AreLed n xs

unless : (n : ℕ) (b : Bool) (xs : List ExplainedData) → AreLed n xs → AreLed n (if b then [] else xs)
unless n true xs a = tt
unless n false xs a = a

pub none_refused : (n : ℕ) (more rest : List ExplainedData) → AreLed n more → refused_in (more ++ rest) ≡ refused_in rest
none_refused n [] rest a = refl
none_refused n (x ∷ xs) rest a = rw (a.0) (none_refused n xs rest a.2)

pub all_within : (n : ℕ) (more rest : List ExplainedData) → AreLed n more → AreAmongMethods n rest → AreAmongMethods n (more ++ rest)
all_within n [] rest a w = w
all_within n (x ∷ xs) rest a w = (a.1, all_within n xs rest a.2 w)

-- what is told as refused, by whether the method keeps its bound
by_bound : (n m : ℕ) (b : Bool) (x : ExplainedData) (more rest later : List ExplainedData) (ms : List ℕ) → x.is_refused ≡ true → x.method ≡ m → AreLed n more
    → refused_in later ≡ ms → refused_in rest ≡ ms → refused_in (if b then later else (x ∷ (more ++ rest))) ≡ (if b then ms else m ∷ ms)
by_bound n m true x more rest later ms is its fine one two = one
by_bound n m false x more rest later ms is its fine one two = rw (is) (ap (λ k. k ∷ refused_in (more ++ rest)) its ∙ ap (λ l. m ∷ l) (none_refused n more rest fine ∙ two))

there_by_bound : (n : ℕ) (b : Bool) (x : ExplainedData) (more rest later : List ExplainedData) → x.method < n → AreLed n more → AreAmongMethods n later → AreAmongMethods n rest
    → AreAmongMethods n (if b then later else (x ∷ (more ++ rest)))
there_by_bound n true x more rest later below fine one two = one
there_by_bound n false x more rest later below fine one two = (below, all_within n more rest fine two)

module _ (P : Program) (rel : ℕ → List PathData) (A : Assignment) (overs : ℕ → List ℕ) (grounds : List Ground) where
  of_method : (told : List Bool) (m : ℕ) (o : Option Method) (more : Method → List ExplainedData) → slice_get P.methods m ≡ o
      → ((method : Method) → m < length P.methods → AreLed (length P.methods) (more method)) → AreLed (length P.methods) (if_untold A told m o more)
  of_method told m None more is each = tt
  of_method told m (Some method) more is each =
      unless (length P.methods) (unwrap_or (slice_get told m) true || not (keeps A m method)) (more method) (each method (slice_get_within P.methods m method is))

  pub led_fine : (fuel : ℕ) (told : List Bool) (next : Option ℕ) → AreLed (length P.methods) (led P rel A overs grounds fuel told next)
  led_fine zero told next = tt
  led_fine (suc fuel) told None = tt
  led_fine (suc fuel) told (Some m) =
      of_method told m (slice_get P.methods m) (λ method. compound P rel A overs grounds m method ∷ led P rel A overs grounds fuel (slice_set told m true) (led_to (compound P rel A overs grounds m method).why)) refl
      (λ method below. (refl, below, led_fine fuel (slice_set told m true) (led_to (compound P rel A overs grounds m method).why)))

  refused_from : (told : List Bool) (m : ℕ) (methods : List Method) → refused_in (explanations_from P rel A overs grounds told m methods) ≡ broken_from A m methods
  refused_from told m [] = refl
  refused_from told m (method ∷ methods) =
      let more = led P rel A overs grounds (length P.methods) told (led_to (refused P rel A overs grounds m method).why) in
      let later = marked told (explained_methods more) in
      by_bound (length P.methods) m (keeps A m method) (refused P rel A overs grounds m method) more (explanations_from P rel A overs grounds later (m + 1) methods)
      (explanations_from P rel A overs grounds told (m + 1) methods) (broken_from A (m + 1) methods) refl refl (led_fine (length P.methods) told (led_to (refused P rel A overs grounds m method).why))
      (refused_from told (m + 1) methods) (refused_from later (m + 1) methods)

  within_from : (told : List Bool) (m : ℕ) (methods : List Method) → m + length methods ≡ length P.methods → AreAmongMethods (length P.methods) (explanations_from P rel A overs grounds told m methods)
  within_from told m [] e = tt
  within_from told m (method ∷ methods) e =
      let more = led P rel A overs grounds (length P.methods) told (led_to (refused P rel A overs grounds m method).why) in
      let later = marked told (explained_methods more) in
      let next : (m + 1) + length methods ≡ length P.methods = omega (arith, e) in
      there_by_bound (length P.methods) (keeps A m method) (refused P rel A overs grounds m method) more (explanations_from P rel A overs grounds later (m + 1) methods)
      (explanations_from P rel A overs grounds told (m + 1) methods) (omega (arith, e)) (led_fine (length P.methods) told (led_to (refused P rel A overs grounds m method).why))
      (within_from told (m + 1) methods next) (within_from later (m + 1) methods next)

  -- the explanations are of exactly the methods that break their bounds
  pub exactly_broken : refused_in (explanations P rel A overs grounds) ≡ broken_methods P A
  exactly_broken = refused_from (replicate (length P.methods) false) 0 P.methods

  -- and all their methods are there
  pub all_there : AreAmongMethods (length P.methods) (explanations P rel A overs grounds)
  all_there = within_from (replicate (length P.methods) false) 0 P.methods (omega arith)

-- where no method breaks its bound, nothing is explained
none_explained : (b : Bool) (m : ℕ) (ms : List ℕ) (x : ExplainedData) (xs later : List ExplainedData) → (ms ≡ [] → later ≡ []) → (if b then ms else m ∷ ms) ≡ [] → (if b then later else (x ∷ xs)) ≡ []
none_explained true m ms x xs later rest e = rest e
none_explained false m ms x xs later rest e = absurd cc

module _ (P : Program) (rel : ℕ → List PathData) (A : Assignment) (overs : ℕ → List ℕ) (grounds : List Ground) where
  nothing_from : (told : List Bool) (m : ℕ) (methods : List Method) → broken_from A m methods ≡ [] → explanations_from P rel A overs grounds told m methods ≡ []
  nothing_from told m [] e = refl
  nothing_from told m (method ∷ methods) e =
      let more = led P rel A overs grounds (length P.methods) told (led_to (refused P rel A overs grounds m method).why) in
      none_explained (keeps A m method) m (broken_from A (m + 1) methods) (refused P rel A overs grounds m method)
      (more ++ explanations_from P rel A overs grounds (marked told (explained_methods more)) (m + 1) methods) (explanations_from P rel A overs grounds told (m + 1) methods) (nothing_from told (m + 1) methods) e

  pub nothing_explained : broken_methods P A ≡ [] → explanations P rel A overs grounds ≡ []
  nothing_explained e = nothing_from (replicate (length P.methods) false) 0 P.methods e

-- where every method keeps its bound, none breaks it
kept : (A : Assignment) (m : ℕ) (methods : List Method) → ((k j : ℕ) (method : Method) → j ≡ m + k → slice_get methods k ≡ Some method → keeps A j method ≡ true) → broken_from A m methods ≡ []
kept A m [] all = refl
kept A m (method ∷ methods) all =
    rw (all 0 m method (omega arith) refl) (kept A (m + 1) methods (λ k j its number is. all (suc k) j its (omega (arith, number)) is))

pub none_broken : (P : Program) (A : Assignment) → HoldBounds P A → Done ≡ ending_for (broken_methods P A)
none_broken P A holds =
    ap ending_for (sym (kept A 0 P.methods (λ k j method number is. let same : k ≡ j = omega (arith, number) in holds j method (subst (λ n. slice_get P.methods n ≡ Some method) same is))))

-- where one breaks it, it ends so
one_more_broken : (b : Bool) (m : ℕ) (ms : List ℕ) → ending_for ms ≡ Inadmissible → ending_for (if b then ms else m ∷ ms) ≡ Inadmissible
one_more_broken true m ms e = e
one_more_broken false m ms e = refl

breaks : (A : Assignment) (m k j : ℕ) (methods : List Method) (method : Method) → j ≡ m + k → slice_get methods k ≡ Some method → keeps A j method ≡ false → ending_for (broken_from A m methods) ≡ Inadmissible
breaks A m k j [] method number is broken = absurd cc
breaks A m zero j (first ∷ methods) method number is broken =
    let same : first ≡ method = cc in
    let here : j ≡ m = omega (arith, number) in
    let so : keeps A m first ≡ false = subst (λ n. keeps A n first ≡ false) here (subst (λ x. keeps A j x ≡ false) (sym same) broken) in
    rw (so) refl
breaks A m (suc k) j (first ∷ methods) method number is broken =
    one_more_broken (keeps A m first) m (broken_from A (m + 1) methods) (breaks A (m + 1) k j methods method (omega (arith, number)) is broken)

pub some_broken : (P : Program) (A : Assignment) (m : ℕ) (declared found : Basic) → IsFirstBroken P A m declared found → Inadmissible ≡ ending_for (broken_methods P A)
some_broken P A m declared found first =
    sym (breaks A 0 m m P.methods first.method (omega arith) first.is (rw (sym first.found_is, sym first.declared_is) first.breaks))
