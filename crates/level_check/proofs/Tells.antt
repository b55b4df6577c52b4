-- What a walk tells, and the visits from which it does.
use Rattle.std.proofs.Common.{◌≡◌, inl, inr, ◌<◌, ◌≤◌, ◌==◌, ℕ, length, get_or, Bool, true, false, List, [], ◌∷◌, map, Some, None, refl, sym, ap, subst, ◌∙◌, arith, if◌then◌else◌}
use Rattle.std.specs.Prelude.{Option, Contains, slice_get}
use Rattle.std.specs.Option.{option_map}
use Rattle.std.proofs.lemmas.List.{length-map}
use Rattle.std.proofs.lemmas.Option.{slice_get-map, slice_get-get_or, slice_get_past}
use Rattle.base.proofs.Lists.{contains_cases, contains_later}
use Rattle.paths.specs.Paths.{PathData}
use Rattle.algebra.specs.HeldPaths.{Held}
use Rattle.core_program.specs.Core.{Program, Method}
use Rattle.core_program.specs.declared.program.CoreMethod.{CoreMethod}
use Rattle.core_program.specs.Views.{method_of}
use Rattle.levels.specs.Walks.{LevelVisit, Comes, Bad, body_visits}
use Rattle.level_check.specs.declared.told.Callee.{Callee}
use Rattle.level_check.specs.Told.{ToldLevel, Calls, Wrong, itself, any_of, OriginOf, known_to, tell_call, visit_tells, told}
use Rattle.level_check.specs.Bodies.{body_told}

pub nothing_there : {A : Type 0} (v : A) → Contains [] v → ⊥
nothing_there v (k, below, is) = omega (arith, below)

pub first_there : {A : Type 0} (x : A) (xs : List A) → Contains (x ∷ xs) x
first_there x xs = (0, omega arith, refl)

pub mapped_from : {A B : Type 0} (f : A → B) (xs : List A) (y : B) → Contains (map f xs) y → (x : A) × Contains xs x × (f x ≡ y)
mapped_from f [] y has = absurd (nothing_there y has)
mapped_from f (x ∷ xs) y has = elim (contains_cases (f x) y (map f xs) has) as (λ _. (z : _) × Contains (x ∷ xs) z × (f z ≡ y)) [
  | inl same ↦ (x, first_there x xs, same)
  | inr later ↦ let r = mapped_from f xs y later in (r.0, contains_later x r.0 xs r.1, r.2)
]

pub mapped_to : {A B : Type 0} (f : A → B) (xs : List A) (x : A) → Contains xs x → Contains (map f xs) (f x)
mapped_to f [] x has = absurd (nothing_there x has)
mapped_to f (y ∷ xs) x has = elim (contains_cases y x xs has) as (λ _. Contains (f y ∷ map f xs) (f x)) [
  | inl same ↦ (0, omega arith, ap f same)
  | inr later ↦ contains_later (f y) (f x) (map f xs) (mapped_to f xs x later)
]

abbrev pub told_callee : ToldLevel → Callee
told_callee (Calls k K w) = k
told_callee (Wrong p c u) = itself 0

abbrev pub told_set : ToldLevel → Held
told_set (Calls k K w) = K
told_set (Wrong p c u) = λ q. false

abbrev pub told_level : ToldLevel → ℕ
told_level (Calls k K w) = w
told_level (Wrong p c u) = 0

abbrev pub told_is_call : ToldLevel → Bool
told_is_call (Calls k K w) = true
told_is_call (Wrong p c u) = false

abbrev pub wrong_place : ToldLevel → ℕ
wrong_place (Calls k K w) = 0
wrong_place (Wrong p c u) = p

abbrev pub wrong_class : ToldLevel → ℕ
wrong_class (Calls k K w) = 0
wrong_class (Wrong p c u) = c

abbrev pub wrong_under : ToldLevel → ℕ
wrong_under (Calls k K w) = 0
wrong_under (Wrong p c u) = u

module _ (over : ℕ → List ℕ) (origin : OriginOf) where
  -- a call tells of a callee, under its own level
  call_is_call : (m : ℕ) (known : ℕ → Held) (u : ℕ) → told_is_call (tell_call over origin m known u) ≡ true
  call_is_call m known u = by_row (length (over m) == 0)
    where
      by_row : (b : Bool) → told_is_call (if b then Calls (itself m) (known m) u else Calls (any_of m) (known_to m origin known) u) ≡ true
      by_row true = refl
      by_row false = refl

  call_level : (m : ℕ) (known : ℕ → Held) (u : ℕ) → told_level (tell_call over origin m known u) ≡ u
  call_level m known u = by_row (length (over m) == 0)
    where
      by_row : (b : Bool) → told_level (if b then Calls (itself m) (known m) u else Calls (any_of m) (known_to m origin known) u) ≡ u
      by_row true = refl
      by_row false = refl

  -- a call that is told comes from a visit
  pub record IsCall (vs : List LevelVisit) (k : Callee) (K : Held) (w : ℕ) : Type 0 where
    pub callee : ℕ
    pub known : ℕ → Held
    pub visit : Contains vs (Comes callee known w)
    pub tells : tell_call over origin callee known w ≡ Calls k K w

  pub told_call : (vs : List LevelVisit) (k : Callee) (K : Held) (w : ℕ) → Contains (told (tell_call over origin) vs) (Calls k K w) → IsCall vs k K w
  told_call vs k K w has = let r = mapped_from (visit_tells (tell_call over origin)) vs (Calls k K w) has in by_visit r.0 r.1 r.2
    where
      by_visit : (v : LevelVisit) → Contains vs v → visit_tells (tell_call over origin) v ≡ Calls k K w → IsCall vs k K w
      by_visit (Comes m known u) there same =
          let level : u ≡ w = sym (call_level m known u) ∙ ap told_level same in
          record {
            callee = m;
            known = known;
            visit = subst (λ n. Contains vs (Comes m known n)) level there;
            tells = subst (λ n. tell_call over origin m known n ≡ Calls k K w) level same;
          }
      by_visit (Bad p c u) there same = absurd (let e : false ≡ true = ap told_is_call same in cc)

  -- a visit is told
  pub visit_told : (vs : List LevelVisit) (v : LevelVisit) → Contains vs v → Contains (told (tell_call over origin) vs) (visit_tells (tell_call over origin) v)
  visit_told vs v has = mapped_to (visit_tells (tell_call over origin)) vs v has

  -- what is told as bad is a bad visit
  pub told_bad : (vs : List LevelVisit) (p c u : ℕ) → Contains (told (tell_call over origin) vs) (Wrong p c u) → Contains vs (Bad p c u)
  told_bad vs p c u has = let r = mapped_from (visit_tells (tell_call over origin)) vs (Wrong p c u) has in by_visit r.0 r.1 r.2
    where
      by_visit : (v : LevelVisit) → Contains vs v → visit_tells (tell_call over origin) v ≡ Wrong p c u → Contains vs (Bad p c u)
      by_visit (Comes m known w) there same = absurd (let e : true ≡ false = sym (call_is_call m known w) ∙ ap told_is_call same in cc)
      by_visit (Bad q d v) there same = subst (λ x. Contains vs x) (λ i. Bad (wrong_place (same i)) (wrong_class (same i)) (wrong_under (same i))) there

  -- where something is told there is the method
  pub told_body : (P : Program) (rel : ℕ → List PathData) (level : ℕ → ℕ) (o : Option Method) (H : Held) (u : ℕ) (t : ToldLevel) → Contains (body_told P rel level (tell_call over origin) o H u) t
      → (method : Method) × (o ≡ Some method) × Contains (told (tell_call over origin) (body_visits P rel level method H u)) t
  told_body P rel level None H u t has = absurd (nothing_there t has)
  told_body P rel level (Some method) H u t has = (method, refl, has)

-- Methods in memory and as plain data, by their places.

pub found_method : (xs : List CoreMethod) (methods : List Method) (k m : ℕ) (x : CoreMethod) → map method_of xs ≡ methods → k ≡ m → k < length xs → x ≡ get_or xs k x → slice_get methods m ≡ Some (method_of x)
found_method xs methods k m x all same below is = subst (λ ms. slice_get ms m ≡ Some (method_of x)) all (ap (slice_get (map method_of xs)) (sym same)
    ∙ slice_get-map method_of xs k ∙ ap (option_map method_of) (slice_get-get_or xs k x below ∙ ap Some (sym is)))

pub no_method : (xs : List CoreMethod) (methods : List Method) (k m : ℕ) → map method_of xs ≡ methods → k ≡ m → length xs ≤ k → slice_get methods m ≡ None
no_method xs methods k m all same past = subst (λ ms. slice_get ms m ≡ None) all (ap (slice_get (map method_of xs)) (sym same) ∙ slice_get_past (map method_of xs) k (omega (arith, length-map xs method_of, past)))
