-- Noting cells that wait, one after the other.
use Rattle.std.proofs.Common.{◌≡◌, ◌⊎◌, ℕ, zero, suc, ◌+◌, ◌<◌, Bool, true, false, List, [], ◌∷◌, ◌++◌, length, take, get_or, slice_get, slice_set, Some, ◌∙◌, refl, ap, subst, sym, arith, inl, inr}
use Rattle.std.specs.Prelude.{Option, Contains}
use Rattle.std.proofs.lemmas.List.Elements.{Contains-push, Contains-push_cases, Contains-append_left, Contains-append_cases}
use Rattle.std.proofs.lemmas.List.{take_more, length-set}
use Rattle.base.proofs.Lists.{set_here}
use Rattle.fixpoint.specs.Waiting.{IsNoted}

-- an item of a list that had one item set
pub set_at : {A : Type 0} (xs : List A) (m : ℕ) (x : A) (k : ℕ) → ((m ≡ k) × (slice_get (slice_set xs m x) k ≡ Some x)) ⊎ (slice_get (slice_set xs m x) k ≡ slice_get xs k)
set_at [] m x k = inr refl
set_at (y ∷ xs) zero x zero = inl (refl, refl)
set_at (y ∷ xs) zero x (suc k) = inr refl
set_at (y ∷ xs) (suc m) x zero = inr refl
set_at (y ∷ xs) (suc m) x (suc k) = elim (set_at xs m x k) as (λ _. ((suc m ≡ suc k) × (slice_get (slice_set (y ∷ xs) (suc m) x) (suc k) ≡ Some x)) ⊎ (slice_get (slice_set (y ∷ xs) (suc m) x) (suc k) ≡ slice_get (y ∷ xs) (suc k))) [
  | inl same ↦ inl (ap suc same.0, same.1)
  | inr other ↦ inr other
]

-- what lists contain
pub contains_none : (c : ℕ) → Contains [] c → ⊥
contains_none c h = omega (arith, h.1)

pub contains_one : (y c : ℕ) → Contains (y ∷ []) c → y ≡ c
contains_one y c h = elim (Contains-push_cases [] y c h) as (λ _. y ≡ c) [
  | inl none ↦ absurd (contains_none c none)
  | inr same ↦ same
]

pub contains_cases : (y : ℕ) (ys : List ℕ) (c : ℕ) → Contains (y ∷ ys) c → (y ≡ c) ⊎ Contains ys c
contains_cases y ys c h = elim (Contains-append_cases (y ∷ []) ys c h) as (λ _. (y ≡ c) ⊎ Contains ys c) [
  | inl one ↦ inl (contains_one y c one)
  | inr later ↦ inr later
]

-- a flag that is there
pub flag : (waits : List Bool) (c : ℕ) → c < length waits → (slice_get waits c ≡ Some true) ⊎ (slice_get waits c ≡ Some false)
flag [] c below = absurd (omega arith)
flag (true ∷ waits) zero below = inl refl
flag (false ∷ waits) zero below = inr refl
flag (b ∷ waits) (suc c) below = flag waits c (omega arith)

pub not_both : {o : Option Bool} → o ≡ Some true → o ≡ Some false → ⊥
not_both {o} e f = let k : Some true ≡ Some false = sym e ∙ f in absurd (cc)

-- one cell was noted
pub noted_one : (cell : ℕ) (waits : List Bool) (listed : List ℕ) → cell < length waits → IsNoted (λ c. c ≡ cell) waits (slice_set waits cell true) listed (listed ++ cell ∷ [])
noted_one cell waits listed below = record {
  size = length-set waits cell true;
  all = λ c within same. subst (λ k. slice_get (slice_set waits cell true) k ≡ Some true) (sym same) (set_here waits cell true below);
  still = λ c e. elim (set_at waits cell true c) as (λ _. slice_get (slice_set waits cell true) c ≡ Some true) [
    | inl here ↦ here.1
    | inr other ↦ other ∙ e
  ];
  found = λ c e. elim (set_at waits cell true c) as (λ _. (slice_get waits c ≡ Some true) ⊎ Contains (listed ++ cell ∷ []) c) [
    | inl here ↦ inr (subst (Contains (listed ++ cell ∷ [])) here.0 (Contains-push listed cell))
    | inr other ↦ inl (sym other ∙ e)
  ];
  kept = λ c h. Contains-append_left listed (cell ∷ []) c h;
  within = λ c h. elim (Contains-push_cases listed cell c h) as (λ _. Contains listed c ⊎ (c < length waits)) [
    | inl before ↦ inl before
    | inr same ↦ inr (subst (λ k. k < length waits) same below)
  ];
}

-- cells were noted, and then others
pub noted_more : (these those all : ℕ → Type 0) (waits between now : List Bool) (listed more longer : List ℕ) → IsNoted these waits between listed more → IsNoted those between now more longer
    → ((c : ℕ) → c < length waits → all c → these c ⊎ those c) → IsNoted all waits now listed longer
noted_more these those all waits between now listed more longer first second cases = record {
  size = second.size ∙ first.size;
  all = λ c within is. elim (cases c within is) as (λ _. slice_get now c ≡ Some true) [
    | inl a ↦ second.still c (first.all c within a)
    | inr b ↦ second.all c (subst (λ n. c < n) (sym first.size) within) b
  ];
  still = λ c e. second.still c (first.still c e);
  found = λ c e. elim (second.found c e) as (λ _. (slice_get waits c ≡ Some true) ⊎ Contains longer c) [
    | inr h ↦ inr h
    | inl f ↦ elim (first.found c f) as (λ _. (slice_get waits c ≡ Some true) ⊎ Contains longer c) [
      | inl g ↦ inl g
      | inr h ↦ inr (second.kept c h)
    ]
  ];
  kept = λ c h. second.kept c (first.kept c h);
  within = λ c h. elim (second.within c h) as (λ _. Contains listed c ⊎ (c < length waits)) [
    | inr below ↦ inr (subst (λ n. c < n) first.size below)
    | inl k ↦ first.within c k
  ];
}

-- one cell more of all
pub noted_next : (cell : ℕ) (waits between now : List Bool) (listed more longer : List ℕ) → IsNoted (λ c. c < cell) waits between listed more → IsNoted (λ c. c ≡ cell) between now more longer → IsNoted (λ c. c < cell + 1) waits now listed longer
noted_next cell waits between now listed more longer first second = noted_more (λ c. c < cell) (λ c. c ≡ cell) (λ c. c < cell + 1) waits between now listed more longer first second
    (λ c within below. below_cases c cell below)
  where
    below_cases : (c cell : ℕ) → c < cell + 1 → (c < cell) ⊎ (c ≡ cell)
    below_cases zero zero below = inr refl
    below_cases zero (suc cell) below = inl (omega arith)
    below_cases (suc c) zero below = absurd (omega (arith, below))
    below_cases (suc c) (suc cell) below = elim (below_cases c cell (omega (arith, below))) as (λ _. (suc c < suc cell) ⊎ (suc c ≡ suc cell)) [
      | inl less ↦ inl (omega (arith, less))
      | inr same ↦ inr (ap suc same)
    ]

-- one cell more of a list
pub noted_step : (cells : List ℕ) (place : ℕ) (waits between now : List Bool) (listed more longer : List ℕ) → place < length cells → IsNoted (Contains (take place cells)) waits between listed more
    → IsNoted (λ c. c ≡ get_or cells place 0) between now more longer → IsNoted (Contains (take (place + 1) cells)) waits now listed longer
noted_step cells place waits between now listed more longer below first second = noted_more (Contains (take place cells)) (λ c. c ≡ get_or cells place 0) (Contains (take (place + 1) cells)) waits between now listed more longer first second
    (λ c within has. elim (Contains-push_cases (take place cells) (get_or cells place 0) c (subst (λ xs. Contains xs c) (take_more cells place 0 below) has)) as (λ _. Contains (take place cells) c ⊎ (c ≡ get_or cells place 0)) [
      | inl before ↦ inl before
      | inr same ↦ inr (sym same)
    ])
