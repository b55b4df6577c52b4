-- What the steps of a part say of it.
use Rattle.std.proofs.Common.{◌≡◌, ◌≢◌, ◌↔◌, ℕ, Bool, true, false, not, ◌||◌, List, [], ◌∷◌, Option, Some, None, is_some, refl, sym, ap, ◌∙◌}
use Rattle.std.specs.List.{list_all}
use Rattle.std.proofs.lemmas.Bool.{and_parts}
use Rattle.paths.specs.Paths.{PathData}
use Rattle.algebra.specs.declared.basic.Basic.{Basic}
use Rattle.algebra.specs.declared.basic.Basic.TheVariants.{Const, Mover, Atomic, Cmpd, Error}
use Rattle.algebra.specs.Basics.{below_of, seq_of, star_of}
use Rattle.algebra.specs.HeldPaths.{Held}
use Rattle.core_program.specs.Core.{Program, Stmt}
use Rattle.rules.specs.Effect.{Assignment, effect}
use Rattle.rules.specs.Rules.{AtMost}
use Rattle.rules.proofs.BasicLemmas.{every, each, implies, follows}
use Rattle.effects.specs.Parts.{Part}
use Rattle.explain.specs.PartEffects.{effect_of_part}
use Rattle.explain.specs.Visits.{Visit}
use Rattle.explain.specs.Steps.{movable_steps, stmt_steps}
use Rattle.explain.specs.StepReadings.{is_cmpd, is_error, own_at, are_many, IsOne}
use Rattle.explain.proofs.Weights.{weight, repeated}
use Rattle.explain.proofs.Totals.{charge, charged, part_weighs, stmt_weighs}
use Rattle.explain.proofs.Heavy.{is_heavy, part_heavy, stmt_heavy}

abbrev is_atomic : Basic → Bool
is_atomic Const = false
is_atomic Mover = false
is_atomic Atomic = true
is_atomic Cmpd = false
is_atomic Error = false

-- tests and the basics that pass them
pub cmpd_is : (b : Basic) → is_cmpd b ≡ true → b ≡ Cmpd
cmpd_is Const e = absurd cc
cmpd_is Mover e = absurd cc
cmpd_is Atomic e = absurd cc
cmpd_is Cmpd e = refl
cmpd_is Error e = absurd cc

atomic_is : (b : Basic) → is_atomic b ≡ true → b ≡ Atomic
atomic_is Const e = absurd cc
atomic_is Mover e = absurd cc
atomic_is Atomic e = refl
atomic_is Cmpd e = absurd cc
atomic_is Error e = absurd cc

no_error : (b : Basic) → b ≢ Error → is_error b ≡ false
no_error Const n = refl
no_error Mover n = refl
no_error Atomic n = refl
no_error Cmpd n = refl
no_error Error n = absurd (n refl)

-- basics that weigh the same pass the same tests
error_weight : (b : Basic) → is_error (weight b) ≡ is_error b
error_weight Const = refl
error_weight Mover = refl
error_weight Atomic = refl
error_weight Cmpd = refl
error_weight Error = refl

cmpd_weight : (b : Basic) → is_cmpd (weight b) ≡ is_cmpd b
cmpd_weight Const = refl
cmpd_weight Mover = refl
cmpd_weight Atomic = refl
cmpd_weight Cmpd = refl
cmpd_weight Error = refl

atomic_weight : (b : Basic) → is_atomic (weight b) ≡ is_atomic b
atomic_weight Const = refl
atomic_weight Mover = refl
atomic_weight Atomic = refl
atomic_weight Cmpd = refl
atomic_weight Error = refl

below_weight : (b : Basic) → below_of (weight b) Mover ≡ below_of b Mover
below_weight Const = refl
below_weight Mover = refl
below_weight Atomic = refl
below_weight Cmpd = refl
below_weight Error = refl

-- a step that can't be moved, alone
one_cmpd : (loop : Option ℕ) (b : Basic) → not (below_of b Mover) ≡ true → is_error (seq_of (repeated loop b) Const) ≡ false
    → is_cmpd (seq_of (repeated loop b) Const) ≡ (false || ((is_some loop || false) || (is_cmpd b || false)))
one_cmpd loop Const heavy good = absurd cc
one_cmpd loop Mover heavy good = absurd cc
one_cmpd (Some k) Atomic heavy good = refl
one_cmpd None Atomic heavy good = refl
one_cmpd (Some k) Cmpd heavy good = refl
one_cmpd None Cmpd heavy good = refl
one_cmpd (Some k) Error heavy good = absurd cc
one_cmpd None Error heavy good = absurd cc

one_atomic : (loop : Option ℕ) (b : Basic) → is_atomic (seq_of (repeated loop b) Const) ≡ true → (loop ≡ None) × (b ≡ Atomic)
one_atomic (Some k) Const e = absurd cc
one_atomic (Some k) Mover e = absurd cc
one_atomic (Some k) Atomic e = absurd cc
one_atomic (Some k) Cmpd e = absurd cc
one_atomic (Some k) Error e = absurd cc
one_atomic None Const e = absurd cc
one_atomic None Mover e = absurd cc
one_atomic None Atomic e = (refl, refl)
one_atomic None Cmpd e = absurd cc
one_atomic None Error e = absurd cc

-- a loop doesn't make a step lighter
heavy_charge : (loop : Option ℕ) (b : Basic) → not (below_of b Mover) ≡ true → not (below_of (repeated loop b) Mover) ≡ true
heavy_charge None b heavy = heavy
heavy_charge (Some k) b heavy = follows _ _ (each (λ b. implies (not (below_of b Mover)) (not (below_of (star_of b) Mover))) refl b) heavy

-- nor what can be moved heavier
light_repeated : (loop : Option ℕ) (b : Basic) → below_of b Mover ≡ true → below_of (repeated loop b) Mover ≡ true
light_repeated None b low = low
light_repeated (Some k) b low = follows _ _ (each (λ b. implies (below_of b Mover) (below_of (star_of b) Mover)) refl b) low

-- what begins with such a step can't be moved; two are compound or an error
first_heavy : (a c : Basic) → not (below_of a Mover) ≡ true → below_of (seq_of a c) Mover ≡ true → ⊥
first_heavy a c heavy low =
    absurd (let e : not (below_of (seq_of a c) Mover) ≡ true = follows _ _ (each (λ c. implies (not (below_of a Mover)) (not (below_of (seq_of a c) Mover)))
    (each (λ a. every (λ c. implies (not (below_of a Mover)) (not (below_of (seq_of a c) Mover)))) refl a) c) heavy in
    let f : not (below_of (seq_of a c) Mover) ≡ not true = ap not low in cc)

abbrev two_test : Basic → Basic → Basic → Bool
two_test a b c = implies (not (below_of a Mover)) (implies (not (below_of b Mover)) (is_cmpd (seq_of a (seq_of b c)) || is_error (seq_of a (seq_of b c))))

two_heavy : (a b c : Basic) → not (below_of a Mover) ≡ true → not (below_of b Mover) ≡ true → (is_cmpd (seq_of a (seq_of b c)) || is_error (seq_of a (seq_of b c))) ≡ true
two_heavy a b c heavy more = follows _ _ (follows _ _ (each (two_test a b) (each (λ b. every (two_test a b)) (each (λ a. every (λ b. every (two_test a b))) refl a) b) c) heavy) more

cmpd_or : (b : Basic) → (is_cmpd b || is_error b) ≡ true → is_error b ≡ false → is_cmpd b ≡ true
cmpd_or Const e f = absurd cc
cmpd_or Mover e f = absurd cc
cmpd_or Atomic e f = absurd cc
cmpd_or Cmpd e f = refl
cmpd_or Error e f = absurd cc

never_atomic : (b : Basic) → (is_cmpd b || is_error b) ≡ true → is_atomic b ≡ true → ⊥
never_atomic Const e f = absurd cc
never_atomic Mover e f = absurd cc
never_atomic Atomic e f = absurd cc
never_atomic Cmpd e f = absurd cc
never_atomic Error e f = absurd cc

below_const : (b : Basic) → weight Const ≡ weight b → AtMost b Mover
below_const b e = sym (below_weight b) ∙ ap (λ w. below_of w Mover) (sym e)

module _ (P : Program) (rel : ℕ → List PathData) (A : Assignment) where
  -- the first two of a list
  two_first : (v w : Visit) (vs : List Visit) → list_all (is_heavy P rel A) (v ∷ w ∷ vs) ≡ true → (is_cmpd (charged P rel A (v ∷ w ∷ vs)) || is_error (charged P rel A (v ∷ w ∷ vs))) ≡ true
  two_first v w vs heavy =
      let parts = and_parts _ _ heavy in
      two_heavy (charge P rel A v) (charge P rel A w) (charged P rel A vs) (heavy_charge v.loop (own_at P rel A v) parts.0) (heavy_charge w.loop (own_at P rel A w) (and_parts _ _ parts.1).0)

  list_cmpd : (xs : List Visit) → list_all (is_heavy P rel A) xs ≡ true → is_error (charged P rel A xs) ≡ false → is_cmpd (charged P rel A xs) ≡ are_many P rel A xs
  list_cmpd [] heavy good = refl
  list_cmpd (v ∷ []) heavy good = one_cmpd v.loop (own_at P rel A v) (and_parts _ _ heavy).0 good
  list_cmpd (v ∷ w ∷ vs) heavy good = cmpd_or _ (two_first v w vs heavy) good

  list_atomic : (xs : List Visit) → list_all (is_heavy P rel A) xs ≡ true → is_atomic (charged P rel A xs) ≡ true → IsOne P rel A xs
  list_atomic [] heavy e = absurd cc
  list_atomic (v ∷ []) heavy e = let one = one_atomic v.loop (own_at P rel A v) e in record { step = v; only = refl; once = one.0; atomic = one.1 }
  list_atomic (v ∷ w ∷ vs) heavy e = absurd (never_atomic _ (two_first v w vs heavy) e)

  one_charged : (xs : List Visit) → IsOne P rel A xs → charged P rel A xs ≡ Atomic
  one_charged xs one = ap (charged P rel A) one.only ∙ (λ i. seq_of (repeated (one.once i) (one.atomic i)) Const)

  list_below : (xs : List Visit) → list_all (is_heavy P rel A) xs ≡ true → below_of (charged P rel A xs) Mover ≡ true → xs ≡ []
  list_below [] heavy low = refl
  list_below (v ∷ vs) heavy low = absurd (first_heavy (charge P rel A v) (charged P rel A vs) (heavy_charge v.loop (own_at P rel A v) (and_parts _ _ heavy).0) low)

  -- a statement that can be moved has no steps, whether or not a loop repeats it
  pub stmt_moved : (s : Stmt) (n : ℕ) (H : Held) (loop : Option ℕ) → AtMost (effect P rel A s H) Mover → stmt_steps P rel A s n H loop ≡ []
  stmt_moved s n H loop low =
      list_below (stmt_steps P rel A s n H loop) (stmt_heavy P rel A s n H loop).is
      (sym (below_weight _) ∙ ap (λ w. below_of w Mover) (stmt_weighs P rel A s n H loop).is ∙ below_weight _ ∙ light_repeated loop (effect P rel A s H) low)

  module _ (x : Part) (n : ℕ) (H : Held) (good : effect_of_part P rel A x H ≢ Error) where
    weighs : weight (charged P rel A (movable_steps P rel A x n H)) ≡ weight (effect_of_part P rel A x H)
    weighs = part_weighs P rel A x n H

    fine : is_error (charged P rel A (movable_steps P rel A x n H)) ≡ false
    fine = sym (error_weight _) ∙ ap is_error weighs ∙ error_weight _ ∙ no_error _ good

    cmpd_same : is_cmpd (effect_of_part P rel A x H) ≡ are_many P rel A (movable_steps P rel A x n H)
    cmpd_same = sym (cmpd_weight _) ∙ ap is_cmpd (sym weighs) ∙ cmpd_weight _ ∙ list_cmpd (movable_steps P rel A x n H) (part_heavy P rel A x n H) fine

    pub cmpd_reads : (effect_of_part P rel A x H ≡ Cmpd) ↔ (are_many P rel A (movable_steps P rel A x n H) ≡ true)
    cmpd_reads = (λ e. sym cmpd_same ∙ ap is_cmpd e, λ e. cmpd_is _ (cmpd_same ∙ e))

    pub atomic_reads : (effect_of_part P rel A x H ≡ Atomic) ↔ IsOne P rel A (movable_steps P rel A x n H)
    atomic_reads = (
      λ e. list_atomic (movable_steps P rel A x n H) (part_heavy P rel A x n H) (sym (atomic_weight _) ∙ ap is_atomic weighs ∙ atomic_weight _ ∙ ap is_atomic e),
      λ one. atomic_is _ (sym (atomic_weight _) ∙ ap is_atomic (sym weighs) ∙ atomic_weight _ ∙ ap is_atomic (one_charged (movable_steps P rel A x n H) one)),
    )

    pub below_reads : AtMost (effect_of_part P rel A x H) Mover ↔ (movable_steps P rel A x n H ≡ [])
    below_reads = (
      λ low. list_below (movable_steps P rel A x n H) (part_heavy P rel A x n H) (sym (below_weight _) ∙ ap (λ w. below_of w Mover) weighs ∙ below_weight _ ∙ low),
      λ empty. below_const _ (sym (ap (λ l. weight (charged P rel A l)) empty) ∙ weighs),
    )
