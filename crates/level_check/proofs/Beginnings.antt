-- Origins of paths, one path and one method after the other.
use Rattle.std.proofs.Common.{◌≡◌, ◌<◌, ◌≤◌, ◌+◌, inl, inr, cond, ℕ, Bool, true, false, List, [], ◌∷◌, ◌++◌, Some, length, take, get_or, refl, sym, ap, subst, ◌∙◌, arith}
use Rattle.std.proofs.lemmas.Bool.{or_left, or_right, or_cases}
use Rattle.std.proofs.lemmas.List.{take_all}
use Rattle.std.proofs.lemmas.List.Elements.{Contains-append_cases}
use Rattle.std.proofs.lemmas.List.Folds.{list_any-append, list_any_at}
use Rattle.std.proofs.lemmas.Option.{slice_get_within}
use Rattle.std.proofs.Math.Bool.{or-false}
use Rattle.std.proofs.Math.Nat.{eq-or-lt_of_le}
use Rattle.base.proofs.Lists.{contains_cases, next_take}
use Rattle.paths.specs.Paths.{PathData, path_eq}
use Rattle.paths.proofs.PathOrder.{eq_is, is_eq}
use Rattle.algebra.specs.HeldPaths.{Held, has_path}
use Rattle.core_program.specs.declared.program.CoreProgram.{CoreProgram}
use Rattle.core_program.specs.Views.{program_of}
use Rattle.core_program.proofs.OverridesLemmas.{is_over}
use Rattle.rules.specs.Nearest.{AreNearest}
use Rattle.rules.specs.Search.{row_at}
use Rattle.level_check.specs.Told.{OriginOf, known_to_origin, known_to}
use Rattle.level_check.specs.Origins.{AreOriginsFor, AreOrigins, KeepsOrigins, AddsPaths, AddsOrigins}
use Rattle.level_check.proofs.Tells.{nothing_there}

module _ (rel : ℕ → List PathData) where
  abbrev knows : ℕ → Held
  knows j = has_path (rel j)

  still : (m : ℕ) (old new : OriginOf) → KeepsOrigins rel old new → (p : PathData) → known_to m old knows p ≡ true → known_to m new knows p ≡ true
  still m old new kept p is = elim (or_cases (knows m p) (known_to_origin (old p) knows p) is) as (λ _. known_to m new knows p ≡ true) [
    | inl own ↦ or_left (knows m p) (known_to_origin (new p) knows p) own
    | inr later ↦ or_right (knows m p) (known_to_origin (new p) knows p) (kept p later)
  ]

  more_origins : (m : ℕ) (next : List ℕ) (old new : OriginOf) → KeepsOrigins rel old new → AreOriginsFor rel m next old → AreOriginsFor rel m next new
  more_origins m next old new kept are k p has own = still m old new kept p (are k p has own)

  -- One path after the other.

  pub paths_none : (m : ℕ) (origin : OriginOf) → AddsPaths rel m [] origin origin
  paths_none m origin = record { kept = λ p is. is; origins = λ p has. absurd (let e : false ≡ true = has in cc) }

  -- a path of the method itself
  pub path_own : (m : ℕ) (x : PathData) (origin : OriginOf) → has_path (rel m) x ≡ true → AddsPaths rel m (x ∷ []) origin origin
  path_own m x origin own = record {
    kept = λ p is. is;
    origins = λ p has. or_left (knows m p) (known_to_origin (origin p) knows p) (subst (λ z. has_path (rel m) z ≡ true) (eq_is x p (sym (or-false (path_eq x p)) ∙ has)) own);
  }

  -- a path that gets this origin
  pub path_put : (m k : ℕ) (x : PathData) (old new : OriginOf) → has_path (rel k) x ≡ true → ((p : PathData) → new p ≡ cond (path_eq x p) (Some k) (old p)) → AddsPaths rel m (x ∷ []) old new
  path_put m k x old new own puts = record {
    kept = λ p is. by_same p (path_eq x p) refl (puts p) is;
    origins = λ p has.
        let same = sym (or-false (path_eq x p)) ∙ has in
        or_right (knows m p) (known_to_origin (new p) knows p) (subst (λ o. known_to_origin o knows p ≡ true) (sym (puts p ∙ ap (λ b. cond b (Some k) (old p)) same)) (subst (λ z. has_path (rel k) z ≡ true) (eq_is x p same) own));
  }
    where
      by_same : (p : PathData) (b : Bool) → path_eq x p ≡ b → new p ≡ cond b (Some k) (old p) → known_to_origin (old p) knows p ≡ true → known_to_origin (new p) knows p ≡ true
      by_same p true same e is = subst (λ o. known_to_origin o knows p ≡ true) (sym e) (subst (λ z. has_path (rel k) z ≡ true) (eq_is x p same) own)
      by_same p false other e is = subst (λ o. known_to_origin o knows p ≡ true) (sym e) is

  pub paths_step : (m : ℕ) (paths : List PathData) (i : ℕ) (x : PathData) (old now new : OriginOf) → i < length paths → x ≡ get_or paths i x → AddsPaths rel m (take i paths) old now
      → (has_path paths x ≡ true → AddsPaths rel m (x ∷ []) now new) → AddsPaths rel m (take (i + 1) paths) old new
  paths_step m paths i x old now new below is adds more = subst (λ l. AddsPaths rel m l old new) (sym (next_take paths i x below is)) longer
    where
      there : has_path paths x ≡ true
      there = list_any_at (λ p. path_eq p x) paths i x below (is_eq (get_or paths i x) x (sym is))

      one : AddsPaths rel m (x ∷ []) now new
      one = more there

      longer : AddsPaths rel m (take i paths ++ x ∷ []) old new
      longer = record {
        kept = λ p is. one.kept p (adds.kept p is);
        origins = λ p has. elim (or_cases (has_path (take i paths) p) (has_path (x ∷ []) p) (sym (list_any-append (λ q. path_eq q p) (take i paths) (x ∷ [])) ∙ has)) as (λ _. known_to m new knows p ≡ true) [
          | inl before ↦ still m now new one.kept p (adds.origins p before)
          | inr last ↦ one.origins p last
        ];
      }

  pub paths_all : (m : ℕ) (paths : List PathData) (i : ℕ) (old now : OriginOf) → length paths ≤ i → AddsPaths rel m (take i paths) old now → AddsPaths rel m paths old now
  paths_all m paths i old now past adds = subst (λ l. AddsPaths rel m l old now) (take_all i paths past) adds

  -- One method after the other.

  pub adds_none : (m : ℕ) (origin : OriginOf) → AddsOrigins rel m [] origin origin
  adds_none m origin = record { kept = λ p is. is; origins = λ k p has own. absurd (nothing_there k has) }

  adds_more : (m : ℕ) (done : List ℕ) (k : ℕ) (old now new : OriginOf) → AddsOrigins rel m done old now → AddsPaths rel m (rel k) now new → AddsOrigins rel m (done ++ k ∷ []) old new
  adds_more m done k old now new adds more = record {
    kept = λ p is. more.kept p (adds.kept p is);
    origins = λ j p has own. elim (Contains-append_cases done (k ∷ []) j has) as (λ _. known_to m new knows p ≡ true) [
      | inl before ↦ more_origins m done now new more.kept adds.origins j p before own
      | inr last ↦ elim (contains_cases k j [] last) as (λ _. known_to m new knows p ≡ true) [
        | inl same ↦ more.origins p (subst (λ z. has_path (rel z) p ≡ true) (sym same) own)
        | inr none ↦ absurd (nothing_there j none)
      ]
    ];
  }

  pub adds_step : (m : ℕ) (next : List ℕ) (i k : ℕ) (old now new : OriginOf) → i < length next → k ≡ get_or next i k → AddsOrigins rel m (take i next) old now → AddsPaths rel m (rel k) now new → AddsOrigins rel m (take (i + 1) next) old new
  adds_step m next i k old now new below is adds more = subst (λ l. AddsOrigins rel m l old new) (sym (next_take next i k below is)) (adds_more m (take i next) k old now new adds more)

  pub adds_all : (m : ℕ) (next : List ℕ) (i : ℕ) (old now : OriginOf) → length next ≤ i → AddsOrigins rel m (take i next) old now → AddsOrigins rel m next old now
  adds_all m next i old now past adds = subst (λ l. AddsOrigins rel m l old now) (take_all i next past) adds

  module _ (over : ℕ → List ℕ) where
    -- the origins for the first methods
    abbrev pub AreFirst : ℕ → OriginOf → Type 0
    AreFirst count origin = (m : ℕ) → m < count → AreOriginsFor rel m (over m) origin

    pub first_step : (count at : ℕ) (old new : OriginOf) → at ≡ count → AreFirst count old → AddsOrigins rel at (over at) old new → AreFirst (count + 1) new
    first_step count at old new same first adds m below = elim (eq-or-lt_of_le {n = m} {m = count} (within m count below)) as (λ _. AreOriginsFor rel m (over m) new) [
      | inl last ↦ subst (λ z. AreOriginsFor rel z (over z) new) (same ∙ sym last) adds.origins
      | inr before ↦ more_origins m (over m) old new adds.kept (first m before)
    ]
      where
        within : (m n : ℕ) → m < n + 1 → m ≤ n
        within m n below = omega (arith, below)

  -- past the methods that have names none is overridden
  pub first_all : (p : CoreProgram) (rows : List (List ℕ)) → AreNearest (program_of p) rows → (count : ℕ) (origin : OriginOf) → length p.names.items ≤ count → AreFirst (row_at rows) count origin → AreOrigins rel (row_at rows) origin
  first_all p rows nearest count origin past first m k q has own =
      first m (further m (length p.names.items) count (slice_get_within p.names.items m (is_over p k m (nearest.sound m k has)).name (is_over p k m (nearest.sound m k has)).other) past) k q has own
    where
      further : (m n c : ℕ) → m < n → n ≤ c → m < c
      further m n c one two = omega (arith, one, two)
