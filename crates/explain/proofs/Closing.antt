-- The methods that are told are closed: each to which an explanation leads is told too, unless it is atomic.
use Rattle.std.proofs.Common.{◌≡◌, ℕ, zero, suc, ◌+◌, Bool, true, false, not, ◌||◌, List, [], ◌∷◌, ◌++◌, Some, Contains, filter, length, slice_get, refl, sym, ap, subst, arith, inl, inr, if◌then◌else◌}
use Rattle.std.proofs.lemmas.List.Elements.{Contains-append_left, Contains-append_right, Contains-append_cases}
use Rattle.std.proofs.lemmas.Bool.{false≢true}
use Rattle.base.proofs.Lists.{contains_cases, contains_later}
use Rattle.paths.specs.Paths.{PathData}
use Rattle.algebra.specs.declared.basic.Basic.{Basic}
use Rattle.algebra.specs.declared.basic.Basic.TheVariants.{Const, Mover, Atomic, Cmpd, Error}
use Rattle.algebra.specs.Basics.{below_of}
use Rattle.core_program.specs.Core.{Program, Method}
use Rattle.rules.specs.Effect.{Assignment}
use Rattle.rules.specs.Rules.{declared_bound}
use Rattle.explain.specs.declared.grounds.Ground.{Ground}
use Rattle.explain.specs.Leads.{LeadsAreTold}
use Rattle.explain.specs.Programs.{compound, explained, explanations, found_of, keeps, refused, refused_from}
use Rattle.explain.specs.Strict.{entries_behind, is_settled, is_thread_entry, keeps_strictly, refused_strictly, settled_from, strict_bound, strict_explanations, strict_from, strictly_told}
use Rattle.explain.specs.Whys.{ExplainedData}
use Rattle.explain.proofs.FollowedEntries.{behind_complete}
use Rattle.explain.proofs.Telling.{all_led, all_refused}
use Rattle.explain.proofs.Untold.{left_most, untold}

contains_head : {X : Type 0} (x : X) (xs : List X) → Contains (x ∷ xs) x
contains_head x xs = (zero, omega arith, refl)

-- what is among those that pass a test is among all
unfiltered : {X : Type 0} (test : X → Bool) (xs : List X) (x : X) → Contains (filter test xs) x → Contains xs x
unfiltered test [] x c = c
unfiltered test (y ∷ ys) x c = by (test y) (unfiltered test ys x) c
  where
    by : (b : Bool) → (Contains (filter test ys) x → Contains ys x) → Contains (if b then y ∷ filter test ys else filter test ys) x → Contains (y ∷ ys) x
    by true rest c = elim (contains_cases y x (filter test ys) c) as (λ _. Contains (y ∷ ys) x) [
      | inl same ↦ subst (λ z. Contains (y ∷ ys) z) same (contains_head y ys)
      | inr more ↦ contains_later y x ys (rest more)
    ]
    by false rest c = contains_later y x ys (rest c)

-- ---- bounds

atomic_is_less : (b : Basic) → below_of b Atomic ≡ true → below_of b Cmpd ≡ true
atomic_is_less Const is = refl
atomic_is_less Mover is = refl
atomic_is_less Atomic is = refl
atomic_is_less Cmpd is = refl
atomic_is_less Error is = absurd (false≢true is)

-- a method that keeps the bound that it has where each counts as `atomic` keeps the one that it declares
keeps_declared : (P : Program) (A : Assignment) (m : ℕ) (method : Method) → keeps_strictly P A m method ≡ true → keeps A m method ≡ true
keeps_declared P A m method is = by method.annotated (is_thread_entry P m) is
  where
    by : (a e : Bool) → below_of (found_of A m method) (declared_bound (a || not e)) ≡ true → below_of (found_of A m method) (declared_bound a) ≡ true
    by true e is = is
    by false true is = is
    by false false is = atomic_is_less (found_of A m method) is

module _ (P : Program) (A : Assignment) where
  settled_many : (methods : List Method) (m : ℕ) → length (settled_from P A m methods) ≡ length methods
  settled_many [] m = refl
  settled_many (method ∷ methods) m = ap suc (settled_many methods (m + 1))

  -- a method that isn't settled isn't marked
  unmarked : (methods : List Method) (m k j : ℕ) (method : Method) → j ≡ m + k → slice_get methods k ≡ Some method → is_settled P A j method ≡ false → untold (settled_from P A m methods) k ≡ true
  unmarked [] m k j method number there is = absurd cc
  unmarked (first ∷ methods) m zero j method number there is =
      let same : method ≡ first = cc in
      let here : j ≡ m = omega (arith, number) in
      ap not (subst (λ x. is_settled P A m x ≡ false) same (subst (λ n. is_settled P A n method ≡ false) here is))
  unmarked (first ∷ methods) m (suc k) j method number there is = unmarked methods (m + 1) k j method (omega (arith, number)) there is

module _ (P : Program) (rel : ℕ → List PathData) (A : Assignment) (overs : ℕ → List ℕ) (grounds : List Ground) where
  -- ---- by the bounds that methods declare

  refused_there : (methods : List Method) (m k j : ℕ) (method : Method) → j ≡ m + k → slice_get methods k ≡ Some method → keeps A j method ≡ false
      → Contains (refused_from P rel A overs grounds m methods) (refused P rel A overs grounds j method)
  refused_there [] m k j method number there broken = absurd cc
  refused_there (first ∷ methods) m zero j method number there broken =
      let same : first ≡ method = cc in
      let here : m ≡ j = omega (arith, number) in
      subst (λ x. keeps A j x ≡ false → Contains (refused_from P rel A overs grounds m (first ∷ methods)) (refused P rel A overs grounds j x)) same
      (subst (λ n. keeps A n first ≡ false → Contains (refused_from P rel A overs grounds m (first ∷ methods)) (refused P rel A overs grounds n first)) here
      (λ is. subst (λ b. Contains (if b then refused_from P rel A overs grounds (m + 1) methods else refused P rel A overs grounds m first ∷ refused_from P rel A overs grounds (m + 1) methods) (refused P rel A overs grounds m first)) (sym is)
      (contains_head (refused P rel A overs grounds m first) (refused_from P rel A overs grounds (m + 1) methods)))) broken
  refused_there (first ∷ methods) m (suc k) j method number there broken =
      by (keeps A m first) (refused_there methods (m + 1) k j method (omega (arith, number)) there broken)
    where
      by : (b : Bool) → Contains (refused_from P rel A overs grounds (m + 1) methods) (refused P rel A overs grounds j method)
          → Contains (if b then refused_from P rel A overs grounds (m + 1) methods else refused P rel A overs grounds m first ∷ refused_from P rel A overs grounds (m + 1) methods) (refused P rel A overs grounds j method)
      by true c = c
      by false c = contains_later (refused P rel A overs grounds m first) (refused P rel A overs grounds j method) (refused_from P rel A overs grounds (m + 1) methods) c

  pub leads_are_told : LeadsAreTold P A (explanations P rel A overs grounds)
  leads_are_told x c m method leads there above = by (keeps A m method) refl
    where
      by : (b : Bool) → keeps A m method ≡ b → (y : ExplainedData) × Contains (explanations P rel A overs grounds) y × (y.method ≡ m)
      by true kept = (compound P rel A overs grounds m method, all_led P rel A overs grounds x c m method leads there kept, refl)
      by false broken = (
        refused P rel A overs grounds m method,
        unfiltered (λ (z : ExplainedData). z.is_refused) (explanations P rel A overs grounds) (refused P rel A overs grounds m method)
            (subst (λ xs. Contains xs (refused P rel A overs grounds m method)) (sym (all_refused P rel A overs grounds)) (refused_there P.methods 0 m m method (omega arith) there broken)),
        refl,
      )

  -- ---- where each counts as `atomic`

  abbrev told_as : ℕ → Method → ExplainedData
  told_as m method = explained P rel A overs grounds true (strict_bound P m method) m method

  broken_there : (methods : List Method) (m k j : ℕ) (method : Method) → j ≡ m + k → slice_get methods k ≡ Some method → keeps_strictly P A j method ≡ false
      → Contains (strict_from P rel A overs grounds m methods) (told_as j method)
  broken_there [] m k j method number there broken = absurd cc
  broken_there (first ∷ methods) m zero j method number there broken =
      let same : first ≡ method = cc in
      let here : m ≡ j = omega (arith, number) in
      Contains-append_left (strictly_told P rel A overs grounds m first) (strict_from P rel A overs grounds (m + 1) methods) (told_as j method)
      (subst (λ x. keeps_strictly P A j x ≡ false → Contains (strictly_told P rel A overs grounds m first) (told_as j x)) same
      (subst (λ n. keeps_strictly P A n first ≡ false → Contains (strictly_told P rel A overs grounds m first) (told_as n first)) here
      (λ is. subst (λ b. Contains (if b then [] else told_as m first ∷ []) (told_as m first)) (sym is) (contains_head (told_as m first) []))) broken)
  broken_there (first ∷ methods) m (suc k) j method number there broken =
      Contains-append_right (strictly_told P rel A overs grounds m first) (strict_from P rel A overs grounds (m + 1) methods) (told_as j method)
      (broken_there methods (m + 1) k j method (omega (arith, number)) there broken)

  abbrev marks : List Bool
  marks = settled_from P A 0 P.methods

  abbrev first : List ExplainedData
  first = refused_strictly P rel A overs grounds

  abbrev behind : List ExplainedData
  behind = entries_behind P rel A overs grounds marks first

  pub strict_leads_are_told : LeadsAreTold P A (strict_explanations P rel A overs grounds)
  strict_leads_are_told x c m method leads there above = by (keeps_strictly P A m method) refl
    where
      by : (b : Bool) → keeps_strictly P A m method ≡ b → (y : ExplainedData) × Contains (first ++ behind) y × (y.method ≡ m)
      by false broken = (told_as m method, Contains-append_left first behind (told_as m method) (broken_there P.methods 0 m m method (omega arith) there broken), refl)
      by true kept =
          let goal = compound P rel A overs grounds m method in
          let many = settled_many P A P.methods 0 in
          let few = left_most marks in
          let done = behind_complete P rel A overs grounds first marks (omega (arith, many, few)) in
          let fresh = unmarked P A P.methods 0 m m method (omega arith) there ((λ i. not (kept i) || above i)) in
          let declared = keeps_declared P A m method kept in (
            goal,
            Contains-append_right first behind goal (elim (Contains-append_cases first behind x c) as (λ _. Contains behind goal) [
              | inl c2 ↦ done.first x c2 m method leads there fresh declared
              | inr c2 ↦ done.later x c2 m method leads there fresh declared
            ]),
            refl,
          )
