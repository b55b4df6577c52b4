-- What is known of the cells that wait, step by step.
use Rattle.std.proofs.Common.{◌≡◌, ◌≢◌, ◌⊎◌, ℕ, zero, suc, ◌+◌, ◌<◌, ◌==◌, Bool, true, false, IsTrue, List, [], ◌∷◌, ◌++◌, length, take, drop, get_or, replicate, slice_get, slice_set, Some, ◌∙◌, refl, ap, subst, sym, arith, inl, inr}
use Rattle.std.specs.Prelude.{Result, Ok, Err, OnOk, Contains}
use Rattle.std.proofs.lemmas.List.Elements.{Contains-push, Contains-append_left, Contains-append_right, Contains-append_cases}
use Rattle.std.proofs.lemmas.Bool.Decides.{nat_tests}
use Rattle.std.proofs.lemmas.List.{drop_more, length-set}
use Rattle.std.proofs.lemmas.Option.{slice_get_within}
use Rattle.base.proofs.Lists.{set_here}
use Rattle.fixpoint.specs.Assignments.{CellNumbers, IsAbove, AreAllMet, IsBetween}
use Rattle.fixpoint.specs.Waiting.{IsNoted, AreWaiting}
use Rattle.fixpoint.proofs.AssignmentLemmas.{IsAbove-trans, length-above}
use Rattle.fixpoint.proofs.NoteLemmas.{set_at, contains_none, contains_cases, flag, not_both}

-- between the start and each closed assignment, and on from there
pub between_then : (met : CellNumbers → ℕ → Bool) (start x y : CellNumbers) → IsBetween met start x → IsBetween met x y → IsBetween met start y
between_then met start x y first second = record {
  above = IsAbove-trans y x start second.above first.above;
  below = λ z closed above. second.below z closed (first.below z closed above);
}

-- where it begins, all cells wait
pub all_wait : (met : CellNumbers → ℕ → Bool) (x : CellNumbers) (count : ℕ) (start waits : List Bool) (none listed : List ℕ) → count ≡ length x → start ≡ replicate count false → none ≡ [] → IsNoted (λ c. Unit {0}) start waits none listed → AreWaiting met x waits listed
all_wait met x count start waits none listed is start_is none_is was_noted =
    let noted : IsNoted (λ c. Unit {0}) (replicate count false) waits [] listed = subst (λ xs. IsNoted (λ c. Unit {0}) (replicate count false) waits xs listed) none_is (subst (λ xs. IsNoted (λ c. Unit {0}) xs waits none listed) start_is was_noted) in
    let size : length waits ≡ length x = noted.size ∙ length_replicate count ∙ is in
    record {
      size = size;
      quiet = λ c e. absurd (not_both (noted.all c (subst (λ n. c < n) noted.size (slice_get_within waits c false e)) tt) e);
      found = λ c e. elim (noted.found c e) as (λ _. Contains listed c) [
        | inl before ↦ absurd (none_yet count c before)
        | inr has ↦ has
      ];
      within = λ c has. elim (noted.within c has) as (λ _. c < length x) [
        | inl none ↦ absurd (contains_none c none)
        | inr below ↦ subst (λ n. c < n) (length_replicate count ∙ is) below
      ];
    }
  where
    length_replicate : (count : ℕ) → length (replicate count false) ≡ count
    length_replicate zero = refl
    length_replicate (suc count) = ap suc (length_replicate count)

    none_yet : (count c : ℕ) → slice_get (replicate count false) c ≡ Some true → ⊥
    none_yet zero c e = absurd cc
    none_yet (suc count) zero e = absurd cc
    none_yet (suc count) (suc c) e = none_yet count c e

-- where none waits, every demand is met
pub none_waits : (met : CellNumbers → ℕ → Bool) (x : CellNumbers) (waits : List Bool) (listed : List ℕ) (size : ℕ) → AreWaiting met x waits listed → (size == 0) ≡ true → size ≡ length listed → AreAllMet met x
none_waits met x waits listed size waiting empty is = λ c below. elim (flag waits c (subst (λ n. c < n) (sym waiting.size) below)) as (λ _. IsTrue (met x c)) [
  | inl wait ↦ absurd (let none : size ≡ 0 = grind (arith, nat_tests) in let has = waiting.found c wait in omega (arith, none, is, has.1))
  | inr quiet ↦ waiting.quiet c quiet
]

module _ (met : CellNumbers → ℕ → Bool) (x : CellNumbers) (waits : List Bool) (cell : ℕ) (rest next : List ℕ) (waiting : AreWaiting met x waits (cell ∷ (rest ++ next))) where
  -- the cell doesn't wait any longer
  abbrev pub without : List Bool
  without = slice_set waits cell false

  below_length : cell < length waits → slice_get without cell ≡ Some false
  below_length below = set_here waits cell false below

  found_without : cell < length waits → (c : ℕ) → slice_get without c ≡ Some true → Contains (rest ++ next) c
  found_without below c e = elim (set_at waits cell false c) as (λ _. Contains (rest ++ next) c) [
    | inl here ↦ absurd (not_both e here.1)
    | inr other ↦ elim (contains_cases cell (rest ++ next) c (waiting.found c (sym other ∙ e))) as (λ _. Contains (rest ++ next) c) [
      | inl same ↦ absurd (not_both e (subst (λ k. slice_get without k ≡ Some false) same (below_length below)))
      | inr later ↦ later
    ]
  ]

  later_within : (c : ℕ) → Contains (rest ++ next) c → c < length x
  later_within c has = waiting.within c (Contains-append_right (cell ∷ []) (rest ++ next) c has)

  quiet_without : (c : ℕ) → slice_get without c ≡ Some false → c ≢ cell → IsTrue (met x c)
  quiet_without c e differs = elim (set_at waits cell false c) as (λ _. IsTrue (met x c)) [
    | inl here ↦ absurd (differs (sym here.0))
    | inr other ↦ waiting.quiet c (sym other ∙ e)
  ]

  -- its demand was met
  pub waiting_met : cell < length waits → IsTrue (met x cell) → AreWaiting met x without (rest ++ next)
  waiting_met below here = record {
    size = length-set waits cell false ∙ waiting.size;
    quiet = λ c e. elim (set_at waits cell false c) as (λ _. IsTrue (met x c)) [
      | inl same ↦ subst (λ k. IsTrue (met x k)) same.0 here
      | inr other ↦ waiting.quiet c (sym other ∙ e)
    ];
    found = found_without below;
    within = later_within;
  }

  -- it rose
  pub waiting_risen : (looks : ℕ → ℕ → Bool) (risen : CellNumbers) (now : List Bool) (longer : List ℕ) → cell < length waits → IsAbove risen x
      → ((other : ℕ) → looks other cell ≡ false → (other ≢ cell → IsTrue (met x other)) → IsTrue (met risen other))
      → IsNoted (λ c. looks c cell ≡ true) without now next longer → AreWaiting met risen now (rest ++ longer)
  waiting_risen looks risen now longer below above others noted =
      let same = length-above risen x above in
      let size : length without ≡ length x = length-set waits cell false ∙ waiting.size in
      record {
        size = noted.size ∙ size ∙ sym same;
        quiet = λ c e. elim (flag without c (subst (λ n. c < n) noted.size (slice_get_within now c false e))) as (λ _. IsTrue (met risen c)) [
          | inl wait ↦ absurd (not_both (noted.still c wait) e)
          | inr before ↦ elim (two (looks c cell)) as (λ _. IsTrue (met risen c)) [
            | inl reads ↦ absurd (not_both (noted.all c (slice_get_within without c false before) reads) e)
            | inr quiet ↦ others c quiet (quiet_without c before)
          ]
        ];
        found = λ c e. elim (noted.found c e) as (λ _. Contains (rest ++ longer) c) [
          | inr has ↦ Contains-append_right rest longer c has
          | inl before ↦ elim (Contains-append_cases rest next c (found_without below c before)) as (λ _. Contains (rest ++ longer) c) [
            | inl first ↦ Contains-append_left rest longer c first
            | inr second ↦ Contains-append_right rest longer c (noted.kept c second)
          ]
        ];
        within = λ c has. subst (λ n. c < n) (sym same) (elim (Contains-append_cases rest longer c has) as (λ _. c < length x) [
          | inl first ↦ later_within c (Contains-append_left rest next c first)
          | inr second ↦ elim (noted.within c second) as (λ _. c < length x) [
            | inl before ↦ later_within c (Contains-append_right rest next c before)
            | inr under ↦ subst (λ n. c < n) size under
          ]
        ]);
      }
    where
      two : (b : Bool) → (b ≡ true) ⊎ (b ≡ false)
      two true = inl refl
      two false = inr refl

-- after an answer of its callee
pub on_ok : {A E : Type 0} {B C : Type 0} (r : Result A E) → (B → C) → OnOk r B → OnOk r C
on_ok (Ok a) f b = f b
on_ok (Err e) f b = b

-- the first cell that is left is one
pub first_within : (met : CellNumbers → ℕ → Bool) (x : CellNumbers) (waits : List Bool) (cells : List ℕ) (place : ℕ) (next : List ℕ) → place < length cells → AreWaiting met x waits (drop place cells ++ next) → get_or cells place 0 < length x
first_within met x waits cells place next below waiting =
    waiting.within (get_or cells place 0) (subst (λ xs. Contains (xs ++ next) (get_or cells place 0)) (sym (drop_more cells place 0 below))
    (Contains-append_left (get_or cells place 0 ∷ []) (drop (place + 1) cells ++ next) (get_or cells place 0) (Contains-push [] (get_or cells place 0))))

-- the same for a demand that is told by an equal test
pub between_on : (met now : CellNumbers → ℕ → Bool) (start x y : CellNumbers) → now ≡ met → IsBetween met start x → IsBetween now x y → IsBetween met start y
between_on met now start x y same first second = between_then met start x y first (subst (λ m. IsBetween m x y) same second)

-- one cell more was asked
pub waiting_more : (met now : CellNumbers → ℕ → Bool) (x y : CellNumbers) (waits later : List Bool) (cells next longer : List ℕ) (place : ℕ) → now ≡ met → place < length cells → AreWaiting met x waits (drop place cells ++ next)
    → (AreWaiting now x waits (get_or cells place 0 ∷ (drop (place + 1) cells ++ next)) → AreWaiting now y later (drop (place + 1) cells ++ longer)) → AreWaiting met y later (drop (place + 1) cells ++ longer)
waiting_more met now x y waits later cells next longer place same below waiting step =
    subst (λ m. AreWaiting m y later (drop (place + 1) cells ++ longer)) same
    (step (subst (λ m. AreWaiting m x waits (get_or cells place 0 ∷ (drop (place + 1) cells ++ next))) (sym same)
    (subst (λ xs. AreWaiting met x waits (xs ++ next)) (drop_more cells place 0 below) waiting)))

-- what was written over the whole of a list
pub written : (new rest : List Bool) (size : ℕ) → size ≡ length new → take size (new ++ rest) ≡ new
written new rest size is = ap (λ n. take n (new ++ rest)) is ∙ all_of new
  where
    all_of : (xs : List Bool) → take (length xs) (xs ++ rest) ≡ xs
    all_of [] = refl
    all_of (x ∷ xs) = ap (λ ys. x ∷ ys) (all_of xs)
