-- A unit that is left open is its thread's last one, in each order of the units.
use Rattle.std.proofs.Common.{◌≡◌, ◌≢◌, ℕ, suc, ◌==◌, Bool, true, false, not, List, [], ◌∷◌, ◌++◌, refl, sym, ap, subst, ◌∙◌, arith}
use Rattle.std.specs.Prelude.{nat_le, filter, cond}
use Rattle.std.specs.List.{list_any}
use Rattle.std.proofs.lemmas.Bool.{eqb-true, eq-eqb, leb-false, or_parts}
use Rattle.semantics.specs.Units.{Entry, is_of_thread, added, units, is_whole, is_commit, commit_place, placed, in_order}
use Rattle.reduction.proofs.Shape.{Each, has, IsFine, IsLater, InTurn, each_in_order}
use Rattle.reduction.proofs.Ordering.{has_by}
use Rattle.reduction.proofs.Sorting.{Rises, fine_units, turn_units}
use Rattle.reduction.specs.Committing.{commits, is_uncommitted, unit_thread, placed_by_thread, by_thread}
use Rattle.reduction.proofs.KeptUnits.{kept_by}
use Rattle.reduction.proofs.ThreadOrder.{AreApart}

-- among these units none is of a thread of this one
abbrev pub NoneOf : List Entry → List (List Entry) → Type 0
NoneOf u us = (t : ℕ) → is_of_thread t u ≡ true → has t us ≡ false

-- where the unit is left open, none behind it is of its thread
abbrev pub IsLast : List Entry → List (List Entry) → Type 0
IsLast u us = (t : ℕ) → is_of_thread t u ≡ true → is_whole u ≡ false → has t us ≡ false

abbrev pub AreLast : List (List Entry) → Type 0
AreLast [] = Unit {0}
AreLast (u ∷ us) = IsLast u us × AreLast us

-- There is none of a thread.

pub none_first : (t : ℕ) (u : List Entry) (us : List (List Entry)) → has t (u ∷ us) ≡ false → (is_of_thread t u ≡ false) × (has t us ≡ false)
none_first t u us none = by (is_of_thread t u) refl
  where
    by : (b : Bool) → is_of_thread t u ≡ b → (is_of_thread t u ≡ false) × (has t us ≡ false)
    by true is = absurd (let c : true ≡ false = sym (has_by t u us true is) ∙ none in cc)
    by false is = (is, sym (has_by t u us false is) ∙ none)

pub none_more : (t : ℕ) (u : List Entry) (us : List (List Entry)) → is_of_thread t u ≡ false → has t us ≡ false → has t (u ∷ us) ≡ false
none_more t u us is none = has_by t u us false is ∙ none

pub none_append : (t : ℕ) (us vs : List (List Entry)) → has t us ≡ false → has t vs ≡ false → has t (us ++ vs) ≡ false
none_append t [] vs none later = later
none_append t (u ∷ us) vs none later = let p = none_first t u us none in none_more t u (us ++ vs) p.0 (none_append t us vs p.1 later)

none_left : (t : ℕ) (us vs : List (List Entry)) → has t (us ++ vs) ≡ false → has t us ≡ false
none_left t [] vs none = refl
none_left t (u ∷ us) vs none = let p = none_first t u (us ++ vs) none in none_more t u us p.0 (none_left t us vs p.1)

none_right : (t : ℕ) (us vs : List (List Entry)) → has t (us ++ vs) ≡ false → has t vs ≡ false
none_right t [] vs none = none
none_right t (u ∷ us) vs none = none_right t us vs (none_first t u (us ++ vs) none).1

pub none_kept : (t : ℕ) (p : List Entry → Bool) (us : List (List Entry)) → has t us ≡ false → has t (filter p us) ≡ false
none_kept t p [] none = refl
none_kept t p (u ∷ us) none = let q = none_first t u us none in by (p u) q.0 (none_kept t p us q.1)
  where
    by : (b : Bool) → is_of_thread t u ≡ false → has t (filter p us) ≡ false → has t (cond b (u ∷ filter p us) (filter p us)) ≡ false
    by true is rest = none_more t u (filter p us) is rest
    by false is rest = rest

none_placed : (t : ℕ) (u : List Entry) (us : List (List Entry)) → is_of_thread t u ≡ false → has t us ≡ false → has t (placed u us) ≡ false
none_placed t u [] is none = none_more t u [] is refl
none_placed t u (v ∷ us) is none = let q = none_first t v us none in by (nat_le (commit_place u) (commit_place v)) q.0 (none_placed t u us is q.1)
  where
    by : (b : Bool) → is_of_thread t v ≡ false → has t (placed u us) ≡ false → has t (cond b (u ∷ v ∷ us) (v ∷ placed u us)) ≡ false
    by true at rest = none_more t u (v ∷ us) is none
    by false at rest = none_more t v (placed u us) at rest

none_in_order : (t : ℕ) (us : List (List Entry)) → has t us ≡ false → has t (in_order us) ≡ false
none_in_order t [] none = refl
none_in_order t (u ∷ us) none = let q = none_first t u us none in none_placed t u (in_order us) q.0 (none_in_order t us q.1)

pub none_put : (t : ℕ) (u : List Entry) (us : List (List Entry)) → is_of_thread t u ≡ false → has t us ≡ false → has t (placed_by_thread u us) ≡ false
none_put t u [] is none = none_more t u [] is refl
none_put t u (v ∷ us) is none = let q = none_first t v us none in by (nat_le (unit_thread u) (unit_thread v)) q.0 (none_put t u us is q.1)
  where
    by : (b : Bool) → is_of_thread t v ≡ false → has t (placed_by_thread u us) ≡ false → has t (cond b (u ∷ v ∷ us) (v ∷ placed_by_thread u us)) ≡ false
    by true at rest = none_more t u (v ∷ us) is none
    by false at rest = none_more t v (placed_by_thread u us) at rest

pub none_by_thread : (t : ℕ) (us : List (List Entry)) → has t us ≡ false → has t (by_thread us) ≡ false
none_by_thread t [] none = refl
none_by_thread t (u ∷ us) none = let q = none_first t u us none in none_put t u (by_thread us) q.0 (none_by_thread t us q.1)

pub none_added : (t : ℕ) (e : Entry) (us : List (List Entry)) → (e.thread == t) ≡ false → has t us ≡ false → has t (added e us) ≡ false
none_added t e [] other none = none_more t (e ∷ []) [] other refl
none_added t e (u ∷ us) other none = let q = none_first t u us none in by (is_of_thread e.thread u) q.0 q.1 (none_added t e us other q.1)
  where
    by : (b : Bool) → is_of_thread t u ≡ false → has t us ≡ false → has t (added e us) ≡ false → has t (cond b ((e ∷ u) ∷ us) (u ∷ added e us)) ≡ false
    by true at later rest = none_more t (e ∷ u) us other later
    by false at later rest = none_more t u (added e us) at rest

-- two units, of which one has none of its thread among some units with the other first
other_unit : (t : ℕ) (u v : List Entry) (us : List (List Entry)) → NoneOf u (v ∷ us) → is_of_thread t v ≡ true → is_of_thread t u ≡ false
other_unit t u v us none at = by (is_of_thread t u) refl
  where
    by : (b : Bool) → is_of_thread t u ≡ b → is_of_thread t u ≡ false
    by true is = absurd (let c : true ≡ false = sym at ∙ (none_first t v us (none t is)).0 in cc)
    by false is = is

-- The units of a run.

is_whole_added : (n : ℕ) (e : Entry) (u : List Entry) → IsFine n u → is_whole (e ∷ u) ≡ is_whole u
is_whole_added n e u fine = subst (λ v. is_whole (e ∷ v) ≡ is_whole v) (sym fine.is) refl

last_added : (n : ℕ) (e : Entry) (us : List (List Entry)) → Each (IsFine n) us → AreLast us → AreLast (added e us)
last_added n e [] fine last = ((λ t at open_unit. refl), tt)
last_added n e (u ∷ us) fine last = by (is_of_thread e.thread u) refl (last_added n e us fine.1 last.1)
  where
    same_thread : (t : ℕ) → is_of_thread e.thread u ≡ true → (e.thread == t) ≡ true → is_of_thread t u ≡ true
    same_thread t is at = ap (λ k. is_of_thread k u) (sym (eqb-true e.thread t at)) ∙ is

    other_thread : (t : ℕ) (b : Bool) → (e.thread == t) ≡ b → is_of_thread e.thread u ≡ false → is_of_thread t u ≡ true → (e.thread == t) ≡ false
    other_thread t true same is at = absurd (let c : false ≡ true = sym is ∙ ap (λ k. is_of_thread k u) (eqb-true e.thread t same) ∙ at in cc)
    other_thread t false differ is at = differ

    by : (b : Bool) → is_of_thread e.thread u ≡ b → AreLast (added e us) → AreLast (cond b ((e ∷ u) ∷ us) (u ∷ added e us))
    by true is rest = ((λ t at left. last.0 t (same_thread t is at) (sym (is_whole_added n e u fine.0) ∙ left)), last.1)
    by false is rest = ((λ t at left. none_added t e us (other_thread t (e.thread == t) refl is at) (last.0 t at left)), rest)

pub last_units : (es : List Entry) (n : ℕ) → Rises n es → AreLast (units es)
last_units [] n rises = tt
last_units (e ∷ es) n rises = by e.inside refl (last_units es (suc e.place) rises.1)
  where
    by : (b : Bool) → e.inside ≡ b → AreLast (units es) → AreLast (cond b (added e (units es)) ((e ∷ []) ∷ units es))
    by true is rest = last_added (suc e.place) e (units es) (fine_units es (suc e.place) rises.1) rest
    by false is rest = ((λ t at left. absurd (let c : true ≡ false = sym (ap not is) ∙ left in cc)), rest)

-- In order of their commit places.

last_placed : (u : List Entry) (us : List (List Entry)) → ((t : ℕ) → is_of_thread t u ≡ true → Each (IsLater t (commit_place u)) us) → IsLast u us → AreLast us → AreLast (placed u us)
last_placed u [] later last lasts = ((λ t at left. refl), tt)
last_placed u (v ∷ us) later last lasts =
    by (nat_le (commit_place u) (commit_place v)) refl (last_placed u us (λ t at. (later t at).1) (λ t at left. (none_first t v us (last t at left)).1) lasts.1)
  where
    other : nat_le (commit_place u) (commit_place v) ≡ false → (t : ℕ) → is_of_thread t v ≡ true → (b : Bool) → is_of_thread t u ≡ b → is_of_thread t u ≡ false
    other high t at true is = absurd (let less = (later t is).0 at in let more = leb-false (commit_place u) (commit_place v) high in omega (arith, less, more))
    other high t at false is = is

    by : (b : Bool) → nat_le (commit_place u) (commit_place v) ≡ b → AreLast (placed u us) → AreLast (cond b (u ∷ v ∷ us) (v ∷ placed u us))
    by true low rest = (last, lasts)
    by false high rest = ((λ t at left. none_placed t u us (other high t at (is_of_thread t u) refl) (lasts.0 t at left)), rest)

last_in_order : (us : List (List Entry)) → InTurn us → AreLast us → AreLast (in_order us)
last_in_order [] turn last = tt
last_in_order (u ∷ us) turn last = last_placed u (in_order us) (λ t at. each_in_order (IsLater t (commit_place u)) us (turn.0 t at)) (λ t at left. none_in_order t us (last.0 t at left)) (last_in_order us turn.1 last.1)

pub last_ordered : (es : List Entry) (n : ℕ) → Rises n es → AreLast (in_order (units es))
last_ordered es n rises = last_in_order (units es) (turn_units es n rises) (last_units es n rises)

-- The units that commit, before the others.

abbrev pub parted : List (List Entry) → List (List Entry)
parted us = filter commits us ++ filter is_uncommitted us

-- a unit that doesn't commit is left open
pub left_open : (u : List Entry) → commits u ≡ false → (is_whole u ≡ false) × (list_any (λ e. is_commit e.kind) u ≡ false)
left_open u e = or_parts (is_whole u) (list_any (λ e. is_commit e.kind) u) e

pub none_behind : (u : List Entry) (us : List (List Entry)) → commits u ≡ false → IsLast u us → NoneOf u us
none_behind u us e last t at = last t at (left_open u e).0

last_between : (u : List Entry) (us vs : List (List Entry)) → NoneOf u us → NoneOf u vs → AreLast (us ++ vs) → AreLast (us ++ u ∷ vs)
last_between u [] vs before behind last = ((λ t at left. behind t at), last)
last_between u (w ∷ us) vs before behind last = (
  (λ t at left. none_append t us (u ∷ vs) (none_left t us vs (last.0 t at left)) (none_more t u vs (other_unit t u w us before at) (none_right t us vs (last.0 t at left)))),
  last_between u us vs (λ t at. (none_first t w us (before t at)).1) behind last.1,
)

pub parted_kept : (u : List Entry) (us : List (List Entry)) → commits u ≡ true → parted (u ∷ us) ≡ u ∷ parted us
parted_kept u us is = λ i. kept_by commits u us true is i ++ kept_by is_uncommitted u us false (ap not is) i

pub parted_left : (u : List Entry) (us : List (List Entry)) → commits u ≡ false → parted (u ∷ us) ≡ filter commits us ++ u ∷ filter is_uncommitted us
parted_left u us is = λ i. kept_by commits u us false is i ++ kept_by is_uncommitted u us true (ap not is) i

last_parted : (us : List (List Entry)) → AreLast us → AreLast (parted us)
last_parted [] last = tt
last_parted (u ∷ us) last = by (commits u) refl (last_parted us last.1)
  where
    by : (b : Bool) → commits u ≡ b → AreLast (parted us) → AreLast (parted (u ∷ us))
    by true is rest = subst AreLast (sym (parted_kept u us is)) ((λ t at left. none_append t (filter commits us) (filter is_uncommitted us) (none_kept t commits us (last.0 t at left)) (none_kept t is_uncommitted us (last.0 t at left))), rest)
    by false is rest =
        let none = none_behind u us is last.0 in
        subst AreLast (sym (parted_left u us is)) (last_between u (filter commits us) (filter is_uncommitted us) (λ t at. none_kept t commits us (none t at)) (λ t at. none_kept t is_uncommitted us (none t at)) rest)

-- The units that don't commit, in order of their threads.

-- each unit has none of its thread behind it
abbrev pub AreAlone : List (List Entry) → Type 0
AreAlone [] = Unit {0}
AreAlone (u ∷ us) = NoneOf u us × AreAlone us

pub alone_left : (us : List (List Entry)) → AreLast us → AreAlone (filter is_uncommitted us)
alone_left [] last = tt
alone_left (u ∷ us) last = by (commits u) refl (alone_left us last.1)
  where
    by : (b : Bool) → commits u ≡ b → AreAlone (filter is_uncommitted us) → AreAlone (filter is_uncommitted (u ∷ us))
    by true is rest = subst AreAlone (sym (kept_by is_uncommitted u us false (ap not is))) rest
    by false is rest = subst AreAlone (sym (kept_by is_uncommitted u us true (ap not is))) ((λ t at. none_kept t is_uncommitted us (none_behind u us is last.0 t at)), rest)

last_put : (u : List Entry) (us : List (List Entry)) → NoneOf u us → AreLast us → AreLast (placed_by_thread u us)
last_put u [] none last = ((λ t at left. refl), tt)
last_put u (v ∷ us) none last = by (nat_le (unit_thread u) (unit_thread v)) (last_put u us (λ t at. (none_first t v us (none t at)).1) last.1)
  where
    by : (b : Bool) → AreLast (placed_by_thread u us) → AreLast (cond b (u ∷ v ∷ us) (v ∷ placed_by_thread u us))
    by true rest = ((λ t at left. none t at), last)
    by false rest = ((λ t at left. none_put t u us (other_unit t u v us none at) (last.0 t at left)), rest)

last_by_thread : (us : List (List Entry)) → AreAlone us → AreLast (by_thread us)
last_by_thread [] alone = tt
last_by_thread (u ∷ us) alone = last_put u (by_thread us) (λ t at. none_by_thread t us (alone.0 t at)) (last_by_thread us alone.1)

last_behind : (us vs ws : List (List Entry)) → ((t : ℕ) → has t vs ≡ false → has t ws ≡ false) → AreLast (us ++ vs) → AreLast ws → AreLast (us ++ ws)
last_behind [] vs ws none last lasts = lasts
last_behind (u ∷ us) vs ws none last lasts = (
  (λ t at left. none_append t us ws (none_left t us vs (last.0 t at left)) (none t (none_right t us vs (last.0 t at left)))),
  last_behind us vs ws none last.1 lasts,
)

pub last_opened : (us : List (List Entry)) → AreLast us → AreLast (filter commits us ++ by_thread (filter is_uncommitted us))
last_opened us last = last_behind (filter commits us) (filter is_uncommitted us) (by_thread (filter is_uncommitted us)) (λ t none. none_by_thread t (filter is_uncommitted us) none) (last_parted us last) (last_by_thread (filter is_uncommitted us) (alone_left us last))

-- units of different threads have different threads
module _ (n : ℕ) where
  thread_is : (u : List Entry) → IsFine n u → is_of_thread (unit_thread u) u ≡ true
  thread_is u fine = subst (λ v. is_of_thread (unit_thread v) v ≡ true) (sym fine.is) (eq-eqb fine.first.thread fine.first.thread refl)

  each_other : (u : List Entry) (us : List (List Entry)) → has (unit_thread u) us ≡ false → Each (IsFine n) us → Each (λ v. unit_thread u ≢ unit_thread v) us
  each_other u [] none fine = tt
  each_other u (v ∷ us) none fine =
      let p = none_first (unit_thread u) v us none in
      ((λ same. absurd (let c : true ≡ false = sym (thread_is v fine.0) ∙ ap (λ k. is_of_thread k v) (sym same) ∙ p.0 in cc)), each_other u us p.1 fine.1)

  pub alone_apart : (us : List (List Entry)) → Each (IsFine n) us → AreAlone us → AreApart us
  alone_apart [] fine alone = tt
  alone_apart (u ∷ us) fine alone = (each_other u us (alone.0 (unit_thread u) (thread_is u fine.0)) fine.1, alone_apart us fine.1 alone.1)
