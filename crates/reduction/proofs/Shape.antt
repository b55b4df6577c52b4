-- Units: each is of one thread and has places of its own, and a thread's units stand in turn.
use Rattle.std.proofs.Common.{◌≡◌, ℕ, ◌<◌, ◌≤◌, Bool, true, false, List, [], ◌∷◌, ◌++◌, refl, sym, subst, arith}
use Rattle.std.specs.Prelude.{nat_le, if◌then◌else◌}
use Rattle.std.proofs.lemmas.Bool.{leb-true, leb-false}
use Rattle.semantics.specs.Units.{Entry, is_of_thread, is_commit, commit_place, placed, in_order}

-- each element is so
abbrev pub Each : {A : Type 0} → (A → Type 0) → List A → Type 0
Each Q [] = Unit {0}
Each Q (x ∷ xs) = Q x × Each Q xs

pub each_more : {A : Type 0} (Q R : A → Type 0) → ((x : A) → Q x → R x) → (xs : List A) → Each Q xs → Each R xs
each_more Q R more [] h = tt
each_more Q R more (x ∷ xs) h = (more x h.0, each_more Q R more xs h.1)

pub each_both : {A : Type 0} (Q : A → Type 0) (xs ys : List A) → Each Q xs → Each Q ys → Each Q (xs ++ ys)
each_both Q [] ys g h = h
each_both Q (x ∷ xs) ys g h = (g.0, each_both Q xs ys g.1 h)

pub each_left : {A : Type 0} (Q : A → Type 0) (xs ys : List A) → Each Q (xs ++ ys) → Each Q xs
each_left Q [] ys h = tt
each_left Q (x ∷ xs) ys h = (h.0, each_left Q xs ys h.1)

pub each_right : {A : Type 0} (Q : A → Type 0) (xs ys : List A) → Each Q (xs ++ ys) → Each Q ys
each_right Q [] ys h = h
each_right Q (x ∷ xs) ys h = each_right Q xs ys h.1

-- the entries of units, one unit after the other
abbrev pub flat : List (List Entry) → List Entry
flat [] = []
flat (u ∷ us) = u ++ flat us

-- whether there is a unit of this thread, the first one of it, and the others
abbrev pub has : ℕ → List (List Entry) → Bool
has t [] = false
has t (u ∷ us) = if is_of_thread t u then true else has t us

abbrev pub got : ℕ → List (List Entry) → List Entry
got t [] = []
got t (u ∷ us) = if is_of_thread t u then u else got t us

abbrev pub without : ℕ → List (List Entry) → List (List Entry)
without t [] = []
without t (u ∷ us) = if is_of_thread t u then us else u ∷ without t us

-- a unit: it has an entry, all are of one thread, and all places are at least n
abbrev pub IsOf : ℕ → Entry → Type 0
IsOf t e = e.thread ≡ t

pub record IsFine (n : ℕ) (u : List Entry) : Type 0 where
  pub first : Entry
  pub rest : List Entry
  pub is : u ≡ first ∷ rest
  pub one : Each (IsOf first.thread) u
  pub places : Each (λ e. n ≤ e.place) u

-- a commit place is the place of an entry of the unit
pub commit_above : (n : ℕ) (e : Entry) (u : List Entry) → n ≤ e.place → Each (λ x. n ≤ x.place) u → n ≤ commit_place (e ∷ u)
commit_above n e [] low h = low
commit_above n e (f ∷ u) low h = by (is_commit e.kind) (commit_above n f u h.0 h.1)
  where
    by : (b : Bool) → n ≤ commit_place (f ∷ u) → n ≤ (if b then e.place else commit_place (f ∷ u))
    by true later = low
    by false later = later

pub fine_above : (n : ℕ) (u : List Entry) → IsFine n u → n ≤ commit_place u
fine_above n u fine =
    let places = subst (λ v. Each (λ (x : Entry). n ≤ x.place) v) fine.is fine.places in
    subst (λ v. n ≤ commit_place v) (sym fine.is) (commit_above n fine.first fine.rest places.0 places.1)

-- an entry put before a unit that isn't empty
pub commit_added : (e : Entry) (u : List Entry) (n : ℕ) → IsFine n u → commit_place (e ∷ u) ≡ (if is_commit e.kind then e.place else commit_place u)
commit_added e u n fine = subst (λ v. commit_place (e ∷ v) ≡ (if is_commit e.kind then e.place else commit_place v)) (sym fine.is) refl

-- among these units each of the thread commits after this place
abbrev pub IsLater : ℕ → ℕ → List Entry → Type 0
IsLater t c u = is_of_thread t u ≡ true → c < commit_place u

-- the units of each thread stand in ascending order of their commit places
abbrev pub InTurn : List (List Entry) → Type 0
InTurn [] = Unit {0}
InTurn (u ∷ us) = ((t : ℕ) → is_of_thread t u ≡ true → Each (IsLater t (commit_place u)) us) × InTurn us

-- units in ascending order of their commit places
abbrev pub Sorted : List (List Entry) → Type 0
Sorted [] = Unit {0}
Sorted (u ∷ us) = Each (λ v. commit_place u ≤ commit_place v) us × Sorted us

-- Insertion keeps what holds of each unit, and order.

pub each_placed : (Q : List Entry → Type 0) (u : List Entry) (us : List (List Entry)) → Q u → Each Q us → Each Q (placed u us)
each_placed Q u [] q h = (q, tt)
each_placed Q u (v ∷ us) q h = by (nat_le (commit_place u) (commit_place v)) (each_placed Q u us q h.1)
  where
    by : (b : Bool) → Each Q (placed u us) → Each Q (if b then u ∷ v ∷ us else v ∷ placed u us)
    by true later = (q, h)
    by false later = (h.0, later)

pub each_in_order : (Q : List Entry → Type 0) (us : List (List Entry)) → Each Q us → Each Q (in_order us)
each_in_order Q [] h = tt
each_in_order Q (u ∷ us) h = each_placed Q u (in_order us) h.0 (each_in_order Q us h.1)

pub sorted_placed : (u : List Entry) (us : List (List Entry)) → Sorted us → Sorted (placed u us)
sorted_placed u [] h = (tt, tt)
sorted_placed u (v ∷ us) h = by (nat_le (commit_place u) (commit_place v)) refl (sorted_placed u us h.1)
  where
    by : (b : Bool) → nat_le (commit_place u) (commit_place v) ≡ b → Sorted (placed u us) → Sorted (if b then u ∷ v ∷ us else v ∷ placed u us)
    by true e later = let low = leb-true (commit_place u) (commit_place v) e in
        ((low, each_more (λ w. commit_place v ≤ commit_place w) (λ w. commit_place u ≤ commit_place w) (λ w k. omega (arith, low, k)) us h.0), h)
    by false e later = let high = leb-false (commit_place u) (commit_place v) e in
        (each_placed (λ w. commit_place v ≤ commit_place w) u us (omega (arith, high)) h.0, later)

pub sorted_in_order : (us : List (List Entry)) → Sorted (in_order us)
sorted_in_order [] = tt
sorted_in_order (u ∷ us) = sorted_placed u (in_order us) (sorted_in_order us)
