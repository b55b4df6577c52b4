-- The units in order, when one entry more stands before the run: four equations.
use Rattle.std.proofs.Common.{◌≡◌, ℕ, ◌<◌, ◌≤◌, Bool, true, false, List, [], ◌∷◌, refl, sym, ap, ◌∙◌, arith}
use Rattle.std.specs.Prelude.{nat_le, if◌then◌else◌}
use Rattle.std.proofs.lemmas.Bool.{leb-false, le-leb, lt-leb}
use Rattle.semantics.specs.Units.{Entry, is_of_thread, added, is_commit, commit_place, placed, in_order}
use Rattle.reduction.proofs.Shape.{Each, has, got, without, IsFine, IsLater, InTurn, Sorted, commit_added, fine_above, each_in_order, each_more, sorted_in_order}

-- an insertion, by its test
placed_by : (u v : List Entry) (us : List (List Entry)) (b : Bool) → nat_le (commit_place u) (commit_place v) ≡ b → placed u (v ∷ us) ≡ (if b then u ∷ v ∷ us else v ∷ placed u us)
placed_by u v us b e = ap (λ (x : Bool). if x then u ∷ v ∷ us else v ∷ placed u us) e

-- a unit that commits before all others comes first
pub least_first : (u : List Entry) (us : List (List Entry)) → Each (λ v. commit_place u ≤ commit_place v) us → placed u us ≡ u ∷ us
least_first u [] h = refl
least_first u (v ∷ us) h = placed_by u v us true (le-leb (commit_place u) (commit_place v) h.0)

-- the first unit of a thread, by whether it is the first of all
pub added_by : (e : Entry) (u : List Entry) (us : List (List Entry)) (b : Bool) → is_of_thread e.thread u ≡ b → added e (u ∷ us) ≡ (if b then (e ∷ u) ∷ us else u ∷ added e us)
added_by e u us b is = ap (λ (x : Bool). if x then (e ∷ u) ∷ us else u ∷ added e us) is

pub has_by : (t : ℕ) (u : List Entry) (us : List (List Entry)) (b : Bool) → is_of_thread t u ≡ b → has t (u ∷ us) ≡ (if b then true else has t us)
has_by t u us b is = ap (λ (x : Bool). if x then true else has t us) is

pub got_by : (t : ℕ) (u : List Entry) (us : List (List Entry)) (b : Bool) → is_of_thread t u ≡ b → got t (u ∷ us) ≡ (if b then u else got t us)
got_by t u us b is = ap (λ (x : Bool). if x then u else got t us) is

pub without_by : (t : ℕ) (u : List Entry) (us : List (List Entry)) (b : Bool) → is_of_thread t u ≡ b → without t (u ∷ us) ≡ (if b then us else u ∷ without t us)
without_by t u us b is = ap (λ (x : Bool). if x then us else u ∷ without t us) is

has_here : (t : ℕ) (u : List Entry) (us : List (List Entry)) → is_of_thread t u ≡ true → has t (u ∷ us) ≡ true
has_here t u us is = has_by t u us true is

has_later : (t : ℕ) (u : List Entry) (us : List (List Entry)) → has t us ≡ true → has t (u ∷ us) ≡ true
has_later t u us h = by (is_of_thread t u)
  where
    by : (b : Bool) → (if b then true else has t us) ≡ true
    by true = refl
    by false = h

pub has_placed : (t : ℕ) (u : List Entry) (us : List (List Entry)) → has t (u ∷ us) ≡ true → has t (placed u us) ≡ true
has_placed t u [] h = h
has_placed t u (v ∷ us) h = by (nat_le (commit_place u) (commit_place v)) (is_of_thread t u) refl (is_of_thread t v) refl (has_placed t u us)
  where
    by : (b : Bool) (x : Bool) → is_of_thread t u ≡ x → (y : Bool) → is_of_thread t v ≡ y → (has t (u ∷ us) ≡ true → has t (placed u us) ≡ true) → has t (if b then u ∷ v ∷ us else v ∷ placed u us) ≡ true
    by true x ex y ey later = h
    by false x ex true ey later = has_here t v (placed u us) ey
    by false true ex false ey later = has_later t v (placed u us) (later (has_here t u us ex))
    by false false ex false ey later = has_later t v (placed u us) (later (has_later t u us (sym (has_by t v us false ey) ∙ sym (has_by t u (v ∷ us) false ex) ∙ h)))

pub has_in_order : (t : ℕ) (us : List (List Entry)) → has t us ≡ true → has t (in_order us) ≡ true
has_in_order t [] h = h
has_in_order t (u ∷ us) h = has_placed t u (in_order us) (by (is_of_thread t u) refl (has_in_order t us))
  where
    by : (b : Bool) → is_of_thread t u ≡ b → (has t us ≡ true → has t (in_order us) ≡ true) → has t (u ∷ in_order us) ≡ true
    by true e later = has_here t u (in_order us) e
    by false e later = has_later t u (in_order us) (later (sym (has_by t u us false e) ∙ h))

-- what holds of each unit holds of the first of a thread
pub got_each : (Q : List Entry → Type 0) (t : ℕ) (us : List (List Entry)) → Each Q us → has t us ≡ true → Q (got t us)
got_each Q t [] f h = absurd cc
got_each Q t (u ∷ us) f h = by (is_of_thread t u) refl (got_each Q t us f.1)
  where
    by : (b : Bool) → is_of_thread t u ≡ b → (has t us ≡ true → Q (got t us)) → Q (if b then u else got t us)
    by true e later = f.0
    by false e later = later (sym (has_by t u us false e) ∙ h)

-- the last entry of a call that is left open, before units of other threads, is a unit that comes first
pub alone_in_order : (e : Entry) (n : ℕ) → e.place < n → (us : List (List Entry)) → Each (IsFine n) us → has e.thread us ≡ false → in_order (added e us) ≡ (e ∷ []) ∷ in_order us
alone_in_order e n first [] fine none = refl
alone_in_order e n first (v ∷ us) fine none = by (is_of_thread e.thread v) refl (alone_in_order e n first us fine.1)
  where
    by : (b : Bool) → is_of_thread e.thread v ≡ b → (has e.thread us ≡ false → in_order (added e us) ≡ (e ∷ []) ∷ in_order us) → in_order (added e (v ∷ us)) ≡ (e ∷ []) ∷ in_order (v ∷ us)
    by true at rest = absurd (let c : true ≡ false = sym (has_by e.thread v us true at) ∙ none in cc)
    by false at rest = ap in_order (added_by e v us false at) ∙ ap (placed v) (rest (sym (has_by e.thread v us false at) ∙ none))
        ∙ placed_by v (e ∷ []) (in_order us) false (lt-leb (commit_place v) e.place (omega (arith, first, fine_above n v fine.0)))

-- an entry of the thread before units, which commit later than its place
module _ (e : Entry) where
  -- the first unit of the thread, put in its place, and the entry before it: the thread's other units come later
  added_placed_own : (n : ℕ) (u : List Entry) → IsFine n u → is_of_thread e.thread u ≡ true → commit_place (e ∷ u) ≡ commit_place u → (us : List (List Entry)) → Each (IsLater e.thread (commit_place u)) us
      → placed (e ∷ u) us ≡ added e (placed u us)
  added_placed_own n u fine is same [] later = sym (added_by e u [] true is)
  added_placed_own n u fine is same (v ∷ us) later = by (nat_le (commit_place u) (commit_place v)) refl (is_of_thread e.thread v) refl (added_placed_own n u fine is same us later.1)
    where
      by : (b : Bool) → nat_le (commit_place u) (commit_place v) ≡ b → (c : Bool) → is_of_thread e.thread v ≡ c → placed (e ∷ u) us ≡ added e (placed u us) → placed (e ∷ u) (v ∷ us) ≡ added e (placed u (v ∷ us))
      by true low c at rest = placed_by (e ∷ u) v us true (ap (λ k. nat_le k (commit_place v)) same ∙ low) ∙ sym (added_by e u (v ∷ us) true is) ∙ sym (ap (added e) (placed_by u v us true low))
      by false high false at rest = placed_by (e ∷ u) v us false (ap (λ k. nat_le k (commit_place v)) same ∙ high) ∙ ap (λ xs. v ∷ xs) rest ∙ sym (added_by e v (placed u us) false at) ∙ sym (ap (added e) (placed_by u v us false high))
      by false high true at rest = absurd (let less = later.0 at in let more = leb-false (commit_place u) (commit_place v) high in omega (arith, less, more))

  -- a unit of another thread, put in its place
  added_placed_other : (n : ℕ) (v : List Entry) → is_of_thread e.thread v ≡ false → is_commit e.kind ≡ false → (us : List (List Entry)) → Each (IsFine n) us → has e.thread us ≡ true → placed v (added e us) ≡ added e (placed v us)
  added_placed_other n v other quiet [] fine h = absurd cc
  added_placed_other n v other quiet (y ∷ us) fine h = by (nat_le (commit_place v) (commit_place y)) refl (is_of_thread e.thread y) refl (added_placed_other n v other quiet us fine.1)
    where
      same : commit_place (e ∷ y) ≡ commit_place y
      same = commit_added e y n fine.0 ∙ ap (λ (b : Bool). if b then e.place else commit_place y) quiet

      by : (b : Bool) → nat_le (commit_place v) (commit_place y) ≡ b → (c : Bool) → is_of_thread e.thread y ≡ c → (has e.thread us ≡ true → placed v (added e us) ≡ added e (placed v us)) → placed v (added e (y ∷ us)) ≡ added e (placed v (y ∷ us))
      by true low true at rest = ap (placed v) (added_by e y us true at) ∙ placed_by v (e ∷ y) us true (ap (nat_le (commit_place v)) same ∙ low)
          ∙ sym (added_by e v (y ∷ us) false other ∙ ap (λ xs. v ∷ xs) (added_by e y us true at)) ∙ sym (ap (added e) (placed_by v y us true low))
      by true low false at rest = ap (placed v) (added_by e y us false at) ∙ placed_by v y (added e us) true low
          ∙ sym (added_by e v (y ∷ us) false other ∙ ap (λ xs. v ∷ xs) (added_by e y us false at)) ∙ sym (ap (added e) (placed_by v y us true low))
      by false high true at rest = ap (placed v) (added_by e y us true at) ∙ placed_by v (e ∷ y) us false (ap (nat_le (commit_place v)) same ∙ high)
          ∙ sym (added_by e y (placed v us) true at) ∙ sym (ap (added e) (placed_by v y us false high))
      by false high false at rest = ap (placed v) (added_by e y us false at) ∙ placed_by v y (added e us) false high ∙ ap (λ xs. y ∷ xs) (rest (sym (has_by e.thread y us false at) ∙ h))
          ∙ sym (added_by e y (placed v us) false at) ∙ sym (ap (added e) (placed_by v y us false high))

  -- an entry that commits nothing goes on with the first unit of its thread, in order too
  pub added_in_order : (n : ℕ) → is_commit e.kind ≡ false → (us : List (List Entry)) → Each (IsFine n) us → InTurn us → has e.thread us ≡ true → in_order (added e us) ≡ added e (in_order us)
  added_in_order n quiet [] fine turn h = absurd cc
  added_in_order n quiet (v ∷ us) fine turn h = by (is_of_thread e.thread v) refl (added_in_order n quiet us fine.1 turn.1)
    where
      by : (b : Bool) → is_of_thread e.thread v ≡ b → (has e.thread us ≡ true → in_order (added e us) ≡ added e (in_order us)) → in_order (added e (v ∷ us)) ≡ added e (in_order (v ∷ us))
      by true at rest = ap in_order (added_by e v us true at)
          ∙ added_placed_own n v fine.0 at (commit_added e v n fine.0 ∙ ap (λ (b : Bool). if b then e.place else commit_place v) quiet) (in_order us) (each_in_order (IsLater e.thread (commit_place v)) us (turn.0 e.thread at))
      by false at rest = let there = sym (has_by e.thread v us false at) ∙ h in
          ap in_order (added_by e v us false at) ∙ ap (placed v) (rest there) ∙ added_placed_other n v at quiet (in_order us) (each_in_order (IsFine n) us fine.1) (has_in_order e.thread us there)

  -- the first unit of the thread among units that its own was put into
  got_own : (u : List Entry) → is_of_thread e.thread u ≡ true → (us : List (List Entry)) → Each (IsLater e.thread (commit_place u)) us → (got e.thread (placed u us) ≡ u) × (without e.thread (placed u us) ≡ us)
  got_own u is [] later = (got_by e.thread u [] true is, without_by e.thread u [] true is)
  got_own u is (v ∷ us) later = by (nat_le (commit_place u) (commit_place v)) refl (is_of_thread e.thread v) refl (got_own u is us later.1)
    where
      by : (b : Bool) → nat_le (commit_place u) (commit_place v) ≡ b → (c : Bool) → is_of_thread e.thread v ≡ c → (got e.thread (placed u us) ≡ u) × (without e.thread (placed u us) ≡ us) → (got e.thread (placed u (v ∷ us)) ≡ u) × (without e.thread (placed u (v ∷ us)) ≡ v ∷ us)
      by true low c at rest = (ap (got e.thread) (placed_by u v us true low) ∙ got_by e.thread u (v ∷ us) true is, ap (without e.thread) (placed_by u v us true low) ∙ without_by e.thread u (v ∷ us) true is)
      by false high false at rest = (
        ap (got e.thread) (placed_by u v us false high) ∙ got_by e.thread v (placed u us) false at ∙ rest.0,
        ap (without e.thread) (placed_by u v us false high) ∙ without_by e.thread v (placed u us) false at ∙ ap (λ xs. v ∷ xs) rest.1,
      )
      by false high true at rest = absurd (let less = later.0 at in let more = leb-false (commit_place u) (commit_place v) high in omega (arith, less, more))

  -- and among units that another's was put into
  got_other : (v : List Entry) → is_of_thread e.thread v ≡ false → (us : List (List Entry)) → Sorted us → (got e.thread (placed v us) ≡ got e.thread us) × (without e.thread (placed v us) ≡ placed v (without e.thread us))
  got_other v other [] sorted = (got_by e.thread v [] false other, without_by e.thread v [] false other)
  got_other v other (y ∷ us) sorted = by (nat_le (commit_place v) (commit_place y)) refl (is_of_thread e.thread y) refl (got_other v other us sorted.1)
    where
      transitive : (a b : ℕ) → nat_le a b ≡ true → a ≤ b
      transitive a b e = grind (arith, Rattle.std.proofs.lemmas.Bool.Decides.nat_tests)

      by : (b : Bool) → nat_le (commit_place v) (commit_place y) ≡ b → (c : Bool) → is_of_thread e.thread y ≡ c → (got e.thread (placed v us) ≡ got e.thread us) × (without e.thread (placed v us) ≡ placed v (without e.thread us))
          → (got e.thread (placed v (y ∷ us)) ≡ got e.thread (y ∷ us)) × (without e.thread (placed v (y ∷ us)) ≡ placed v (without e.thread (y ∷ us)))
      by true low true at rest = (
        ap (got e.thread) (placed_by v y us true low) ∙ got_by e.thread v (y ∷ us) false other,
        ap (without e.thread) (placed_by v y us true low) ∙ without_by e.thread v (y ∷ us) false other ∙ ap (λ xs. v ∷ xs) (without_by e.thread y us true at)
            ∙ sym (least_first v us (each_more (λ w. commit_place y ≤ commit_place w) (λ w. commit_place v ≤ commit_place w) (λ w k. omega (arith, transitive (commit_place v) (commit_place y) low, k)) us sorted.0))
            ∙ sym (ap (placed v) (without_by e.thread y us true at)),
      )
      by true low false at rest = (
        ap (got e.thread) (placed_by v y us true low) ∙ got_by e.thread v (y ∷ us) false other,
        ap (without e.thread) (placed_by v y us true low) ∙ without_by e.thread v (y ∷ us) false other ∙ ap (λ xs. v ∷ xs) (without_by e.thread y us false at)
            ∙ sym (placed_by v y (without e.thread us) true low) ∙ sym (ap (placed v) (without_by e.thread y us false at)),
      )
      by false high true at rest = (
        ap (got e.thread) (placed_by v y us false high) ∙ got_by e.thread y (placed v us) true at ∙ sym (got_by e.thread y us true at),
        ap (without e.thread) (placed_by v y us false high) ∙ without_by e.thread y (placed v us) true at ∙ sym (ap (placed v) (without_by e.thread y us true at)),
      )
      by false high false at rest = (
        ap (got e.thread) (placed_by v y us false high) ∙ got_by e.thread y (placed v us) false at ∙ rest.0 ∙ sym (got_by e.thread y us false at),
        ap (without e.thread) (placed_by v y us false high) ∙ without_by e.thread y (placed v us) false at ∙ ap (λ xs. y ∷ xs) rest.1
            ∙ sym (placed_by v y (without e.thread us) false high) ∙ sym (ap (placed v) (without_by e.thread y us false at)),
      )

  -- an entry that commits goes to the front, and its unit with it
  pub commit_in_order : (n : ℕ) → e.place < n → is_commit e.kind ≡ true → (us : List (List Entry)) → Each (IsFine n) us → InTurn us → has e.thread us ≡ true
      → in_order (added e us) ≡ (e ∷ got e.thread (in_order us)) ∷ without e.thread (in_order us)
  commit_in_order n first commits [] fine turn h = absurd cc
  commit_in_order n first commits (v ∷ us) fine turn h = by (is_of_thread e.thread v) refl (commit_in_order n first commits us fine.1 turn.1)
    where
      low : (x : List Entry) → IsFine n x → commit_place (e ∷ x) ≡ e.place
      low x f = commit_added e x n f ∙ ap (λ (b : Bool). if b then e.place else commit_place x) commits

      by : (b : Bool) → is_of_thread e.thread v ≡ b → (has e.thread us ≡ true → in_order (added e us) ≡ (e ∷ got e.thread (in_order us)) ∷ without e.thread (in_order us))
          → in_order (added e (v ∷ us)) ≡ (e ∷ got e.thread (in_order (v ∷ us))) ∷ without e.thread (in_order (v ∷ us))
      by true at rest =
          let own = got_own v at (in_order us) (each_in_order (IsLater e.thread (commit_place v)) us (turn.0 e.thread at)) in
          ap in_order (added_by e v us true at)
          ∙ least_first (e ∷ v) (in_order us) (each_more (IsFine n) (λ w. commit_place (e ∷ v) ≤ commit_place w) (λ w f. omega (arith, first, low v fine.0, fine_above n w f)) (in_order us) (each_in_order (IsFine n) us fine.1))
          ∙ (λ i. (e ∷ sym own.0 i) ∷ sym own.1 i)
      by false at rest =
          let there = sym (has_by e.thread v us false at) ∙ h in
          let other = got_other v at (in_order us) (sorted_in_order us) in
          ap in_order (added_by e v us false at) ∙ ap (placed v) (rest there)
          ∙ placed_by v (e ∷ got e.thread (in_order us)) (without e.thread (in_order us)) false (lt-leb (commit_place v) (commit_place (e ∷ got e.thread (in_order us)))
          (omega (arith, first, low (got e.thread (in_order us)) (got_each (IsFine n) e.thread (in_order us) (each_in_order (IsFine n) us fine.1) (has_in_order e.thread us there)), fine_above n v fine.0)))
          ∙ (λ i. (e ∷ sym other.0 i) ∷ sym other.1 i)
