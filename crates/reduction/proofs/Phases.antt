-- The words of units, from the phases of their entries.
use Rattle.std.proofs.Common.{◌≡◌, ℕ, zero, suc, Bool, true, false, ◌&&◌, ◌||◌, ◌==◌, List, [], ◌∷◌, Some, None, refl, sym, ap, subst, ◌∙◌, arith}
use Rattle.std.specs.Prelude.{slice_get, if◌then◌else◌}
use Rattle.std.specs.List.{list_all}
use Rattle.std.proofs.lemmas.Bool.Decides.{nat_tests}
use Rattle.std.proofs.lemmas.Bool.{and_from, eq-eqb}
use Rattle.std.proofs.lemmas.Option.{same_Some}
use Rattle.base.proofs.NumberLemmas.{eqb_turned}
use Rattle.state.specs.declared.value.StepKind.{StepKind}
use Rattle.state.specs.declared.value.StepKind.TheVariants.{Both, Right, Left, Other, Bare}
use Rattle.semantics.specs.Units.{Entry, added, is_of_thread, is_commit, word_of, units}
use Rattle.semantics.specs.Words.{IsReducible, is_reducible, moves_left, fits_phase, next_phase, FitPhases}
use Rattle.semantics.proofs.WordLemmas.{reducible_is, left_reducible}

-- a block admits a word, one step after the other; the flag tells whether it made a Left or Other step before
abbrev pub accepts : (committed : Bool) → List StepKind → Bool
accepts c [] = true
accepts c (k ∷ ks) = fits_phase c k && accepts (c || is_commit k) ks

lefts : (word : List StepKind) → accepts true word ≡ true → list_all moves_left word ≡ true
lefts [] e = refl
lefts (Both ∷ ks) e = lefts ks e
lefts (Left ∷ ks) e = lefts ks e
lefts (Right ∷ ks) e = absurd cc
lefts (Other ∷ ks) e = absurd cc
lefts (Bare ∷ ks) e = absurd cc

opened_word : (word : List StepKind) → accepts false word ≡ true → is_reducible word ≡ true
opened_word [] e = refl
opened_word (Both ∷ ks) e = opened_word ks e
opened_word (Right ∷ ks) e = opened_word ks e
opened_word (Left ∷ ks) e = lefts ks e
opened_word (Other ∷ ks) e = lefts ks e
opened_word (Bare ∷ ks) e = absurd cc

pub accepted_word : (c : Bool) (word : List StepKind) → accepts c word ≡ true → IsReducible word
accepted_word true word e = reducible_is word (left_reducible word (lefts word e))
accepted_word false word e = reducible_is word (opened_word word e)

-- the first unit of each thread is accepted from where its call stands, each further one from the beginning of a call
abbrev pub Judged : (ℕ → Bool) → List (List Entry) → Type 0
Judged S [] = Unit {0}
Judged S (u ∷ us) = ((v : ℕ) → is_of_thread v u ≡ true → accepts (S v) (word_of u) ≡ true) × Judged (λ v. if is_of_thread v u then false else S v) us

pub judged_same : (S T : ℕ → Bool) → ((v : ℕ) → S v ≡ T v) → (us : List (List Entry)) → Judged S us → Judged T us
judged_same S T same us j = subst (λ x. Judged x us) (λ i v. same v i) j

-- a unit of another thread isn't of this one
other_unit : (u : List Entry) (t v : ℕ) → is_of_thread t u ≡ true → (v == t) ≡ false → is_of_thread v u ≡ false
other_unit [] t v is other = absurd (let e : false ≡ true = is in cc)
other_unit (e ∷ u) t v is other = not_two e.thread t v is other
  where
    not_two : (a t v : ℕ) → (a == t) ≡ true → (v == t) ≡ false → (a == v) ≡ false
    not_two a t v e k = grind (arith, nat_tests)

pub same_thread : (t v : ℕ) → (v == t) ≡ true → v ≡ t
same_thread t v e = grind (arith, nat_tests)

-- one more entry at the front of the first unit of its thread
module _ (e : Entry) where
  -- S before the entry, T after it
  pub judged_added : (us : List (List Entry)) (S T : ℕ → Bool) → ((v : ℕ) → (v == e.thread) ≡ false → S v ≡ T v) → T e.thread ≡ (S e.thread || is_commit e.kind)
      → fits_phase (S e.thread) e.kind ≡ true → Judged T us → Judged S (added e us)
  judged_added [] S T others own allow j = ((λ v is. first_word v (same_thread e.thread v (eqb_turned v e.thread ∙ is))), tt)
    where
      first_word : (v : ℕ) → v ≡ e.thread → (fits_phase (S v) e.kind && true) ≡ true
      first_word v same = and_from _ true (ap (λ w. fits_phase (S w) e.kind) same ∙ allow) refl
  judged_added (u ∷ us) S T others own allow j = by_thread (is_of_thread e.thread u) refl (λ S2 T2 o w. judged_added us S2 T2 o w)
    where
      -- the first unit is of the entry's thread
      whole_word : is_of_thread e.thread u ≡ true → (v : ℕ) → v ≡ e.thread → (fits_phase (S v) e.kind && accepts (S v || is_commit e.kind) (word_of u)) ≡ true
      whole_word mine v same = and_from _ _ (ap (λ w. fits_phase (S w) e.kind) same ∙ allow)
          (ap (λ w. accepts (S w || is_commit e.kind) (word_of u)) same ∙ ap (λ b. accepts b (word_of u)) (sym own) ∙ j.0 e.thread mine)

      rest_same : is_of_thread e.thread u ≡ true → (v : ℕ) (b : Bool) → (v == e.thread) ≡ b → (if is_of_thread v u then false else T v) ≡ (if e.thread == v then false else S v)
      rest_same mine v true is =
          ap (λ x. if x then false else T v) (ap (λ w. is_of_thread w u) (same_thread e.thread v is) ∙ mine) ∙ sym (ap (λ x. if x then false else S v) (eqb_turned e.thread v ∙ is))
      rest_same mine v false is =
          ap (λ x. if x then false else T v) (other_unit u e.thread v mine is) ∙ sym (others v is) ∙ sym (ap (λ x. if x then false else S v) (eqb_turned e.thread v ∙ is))

      apart_thread : is_of_thread e.thread u ≡ false → (v : ℕ) → is_of_thread v u ≡ true → (b : Bool) → (v == e.thread) ≡ b → (v == e.thread) ≡ false
      apart_thread other v is true same = absurd (let k : true ≡ false = sym is ∙ ap (λ w. is_of_thread w u) (same_thread e.thread v same) ∙ other in cc)
      apart_thread other v is false same = same

      later : (ℕ → Bool) → ℕ → Bool
      later S v = if is_of_thread v u then false else S v

      by_thread : (b : Bool) → is_of_thread e.thread u ≡ b
          → ((S2 T2 : ℕ → Bool) → ((v : ℕ) → (v == e.thread) ≡ false → S2 v ≡ T2 v) → T2 e.thread ≡ (S2 e.thread || is_commit e.kind) → fits_phase (S2 e.thread) e.kind ≡ true → Judged T2 us → Judged S2 (added e us))
          → Judged S (if b then (e ∷ u) ∷ us else u ∷ added e us)
      by_thread true mine rec = ((λ v is. whole_word mine v (same_thread e.thread v (eqb_turned v e.thread ∙ is))), judged_same _ _ (λ v. rest_same mine v (v == e.thread) refl) us j.1)
      by_thread false other rec = (
        (λ v is. ap (λ b. accepts b (word_of u)) (others v (apart_thread other v is (v == e.thread) refl)) ∙ j.0 v is),
        rec (λ v. if is_of_thread v u then false else S v) (λ v. if is_of_thread v u then false else T v) (λ v is. ap (λ x. if is_of_thread v u then false else x) (others v is))
            (ap (λ x. if x then false else T e.thread) other ∙ own ∙ sym (ap (λ x. (if x then false else S e.thread) || is_commit e.kind) other))
            (ap (λ x. fits_phase (if x then false else S e.thread) e.kind) other ∙ allow) j.1,
      )

-- an entry before units that are judged
pub added_entry : (e : Entry) (us : List (List Entry)) (S T : ℕ → Bool) → ((v : ℕ) → (v == e.thread) ≡ false → S v ≡ T v) → (after : Bool) → (after ≡ true → T e.thread ≡ (S e.thread || is_commit e.kind)) → (after ≡ false → T e.thread ≡ false)
    → fits_phase (S e.thread) e.kind ≡ true → Judged T us → Judged S (if after then added e us else (e ∷ []) ∷ us)
added_entry e us S T others true stays leaves allow j = judged_added e us S T others (stays refl) allow j
added_entry e us S T others false stays leaves allow j = (
  (λ v is. and_from _ true (ap (λ w. fits_phase (S w) e.kind) (same_thread e.thread v (eqb_turned v e.thread ∙ is)) ∙ allow) refl),
  judged_same T (λ v. if e.thread == v then false else S v) (λ v. rest v (v == e.thread) refl) us j,
)
  where
    rest : (v : ℕ) (b : Bool) → (v == e.thread) ≡ b → T v ≡ (if e.thread == v then false else S v)
    rest v true is = ap T (same_thread e.thread v is) ∙ leaves refl ∙ sym (ap (λ x. if x then false else S v) (eqb_turned e.thread v ∙ is))
    rest v false is = sym (others v is) ∙ sym (ap (λ x. if x then false else S v) (eqb_turned e.thread v ∙ is))

-- units that are judged have reducible words
pub judged_words : (us : List (List Entry)) (S : ℕ → Bool) → Judged S us → (n : ℕ) (u : List Entry) → slice_get us n ≡ Some u → IsReducible (word_of u)
judged_words [] S j n u is = absurd (let e : None ≡ Some u = is in cc)
judged_words ([] ∷ us) S j zero u is = subst (λ x. IsReducible (word_of x)) (same_Some _ _ is) (reducible_is [] refl)
judged_words ((e ∷ u) ∷ us) S j zero w is = subst (λ x. IsReducible (word_of x)) (same_Some _ _ is) (accepted_word (S e.thread) (word_of (e ∷ u)) (j.0 e.thread (eq-eqb e.thread e.thread refl)))
judged_words (u ∷ us) S j (suc n) w is = judged_words us (λ v. if is_of_thread v u then false else S v) j.1 n w is

-- Phases.

and_true : (a b : Bool) → a ≡ true → (a && b) ≡ b
and_true true b e = refl
and_true false b e = absurd cc

and_false : (a b : Bool) → a ≡ false → (a && b) ≡ false
and_false true b e = absurd cc
and_false false b e = refl

other_phase : (committed : ℕ → Bool) (e : Entry) (v : ℕ) → (v == e.thread) ≡ false → committed v ≡ next_phase committed e v
other_phase committed e v other = sym (ap (λ b. if b then e.inside && (committed e.thread || is_commit e.kind) else committed v) other)

own_phase : (committed : ℕ → Bool) (e : Entry) → next_phase committed e e.thread ≡ (e.inside && (committed e.thread || is_commit e.kind))
own_phase committed e = ap (λ b. if b then e.inside && (committed e.thread || is_commit e.kind) else committed e.thread) (eq-eqb e.thread e.thread refl)

phases_judged : (es : List Entry) (committed : ℕ → Bool) → FitPhases committed es → Judged committed (units es)
phases_judged [] committed f = tt
phases_judged (e ∷ es) committed f = added_entry e (units es) committed (next_phase committed e) (λ v other. other_phase committed e v other) e.inside
    (λ stays. own_phase committed e ∙ and_true e.inside (committed e.thread || is_commit e.kind) stays) (λ leaves. own_phase committed e ∙ and_false e.inside (committed e.thread || is_commit e.kind) leaves)
    f.0 (phases_judged es (next_phase committed e) f.1)

-- entries that fit their phases have reducible words
pub phases_words : (es : List Entry) (committed : ℕ → Bool) → FitPhases committed es → (n : ℕ) (u : List Entry) → slice_get (units es) n ≡ Some u → IsReducible (word_of u)
phases_words es committed f n u is = judged_words (units es) committed (phases_judged es committed f) n u is
