-- The open order, written by the sizes of a run's units.
use Rattle.std.proofs.Common.{◌≡◌, ◌≢◌, ℕ, zero, suc, ◌+◌, ◌<◌, ◌≤◌, Bool, true, false, not, ◌==◌, List, [], ◌∷◌, ◌++◌, length, replicate, refl, sym, ap, subst, ◌∙◌, arith}
use Rattle.std.specs.Prelude.{map, nat_le, filter, cond, if◌then◌else◌}
use Rattle.std.proofs.lemmas.Bool.{eqb-true, eqb-false, ne_eqb, eq-eqb, leb-true, leb-false}
use Rattle.std.proofs.lemmas.List.{append_assoc}
use Rattle.semantics.specs.Units.{Entry, units, commit_place, placed, in_order, schedule_of}
use Rattle.reduction.proofs.Shape.{Each, each_more, IsOf, IsFine, each_in_order}
use Rattle.reduction.proofs.Sorting.{fine_units, each_units}
use Rattle.serialise.specs.Entries.{entries_of}
use Rattle.serialise.specs.Tables.{value_or, put_at}
use Rattle.serialise.specs.UnitMaps.{UnitMaps, unit_maps, spread}
use Rattle.serialise.specs.declared.step.Step.{Step}
use Rattle.serialise.proofs.Found.{size_at, CommitsApart, size_none, units_apart, maps_found}
use Rattle.serialise.proofs.Spread.{Strict, strict_in_order, size_in_order, IsAt, IsStep, are_steps, units_at, at_later, threads_of, thread_in, spread_same, spread_is, rises, strictly}
use Rattle.reduction.specs.Committing.{commits, is_uncommitted, unit_thread, placed_by_thread, by_thread, open_units}
use Rattle.serialise.specs.Spreading.{spread_committed, with_left, left_sizes, spread_threads}
use Rattle.reduction.proofs.KeptUnits.{kept_by, each_kept}
use Rattle.reduction.proofs.ThreadOrder.{AreApart}
use Rattle.reduction.proofs.LastUnits.{alone_left, alone_apart, last_units}
use Rattle.reduction.proofs.OpenMoves.{each_put, each_by_thread}
use Rattle.serialise.proofs.ToldUnits.{opens_in, opens_here, opens_later, Tells, are_told, IsTold, told_units}

-- Sizes of those that commit, and of the others.

turned : (b : Bool) (c : Bool) → c ≡ not b → b ≡ not c
turned true c is = sym (ap not is)
turned false c is = sym (ap not is)

module _ (n : ℕ) (steps : List Step) (p : ℕ) where
  opens_at : (u : List Entry) → IsTold n steps u → commit_place u ≡ p → (b : Bool) → commits u ≡ b → opens_in n steps p ≡ not b
  opens_at u told same b is = ap (opens_in n steps) (sym same) ∙ turned (opens_in n steps (commit_place u)) (commits u) told ∙ ap not is

  size_commits : (us : List (List Entry)) → Each (IsTold n steps) us → size_at (filter commits us) p ≡ cond (opens_in n steps p) 0 (size_at us p)
  size_commits [] told = none (opens_in n steps p)
    where
      none : (b : Bool) → 0 ≡ cond {A = ℕ} b 0 0
      none true = refl
      none false = refl
  size_commits (u ∷ us) told = by (commits u) refl (commit_place u == p) refl (size_commits us told.1)
    where
      by : (b : Bool) → commits u ≡ b → (d : Bool) → (commit_place u == p) ≡ d → size_at (filter commits us) p ≡ cond (opens_in n steps p) 0 (size_at us p)
          → size_at (filter commits (u ∷ us)) p ≡ cond (opens_in n steps p) 0 (cond (commit_place u == p) (length u) (size_at us p))
      by true is true at rest =
          ap (λ vs. size_at vs p) (kept_by commits u us true is) ∙ ap (λ (d : Bool). cond d (length u) (size_at (filter commits us) p)) at
          ∙ sym (ap (λ (d : Bool). cond (opens_in n steps p) 0 (cond d (length u) (size_at us p))) at ∙ ap (λ (o : Bool). cond o 0 (length u)) (opens_at u told.0 (eqb-true (commit_place u) p at) true is))
      by true is false at rest =
          ap (λ vs. size_at vs p) (kept_by commits u us true is) ∙ ap (λ (d : Bool). cond d (length u) (size_at (filter commits us) p)) at ∙ rest
          ∙ sym (ap (λ (d : Bool). cond (opens_in n steps p) 0 (cond d (length u) (size_at us p))) at)
      by false is true at rest =
          let opens = opens_at u told.0 (eqb-true (commit_place u) p at) false is in
          ap (λ vs. size_at vs p) (kept_by commits u us false is) ∙ rest ∙ ap (λ (o : Bool). cond o 0 (size_at us p)) opens
          ∙ sym (ap (λ (o : Bool). cond o 0 (cond (commit_place u == p) (length u) (size_at us p))) opens)
      by false is false at rest =
          ap (λ vs. size_at vs p) (kept_by commits u us false is) ∙ rest
          ∙ sym (ap (λ (d : Bool). cond (opens_in n steps p) 0 (cond d (length u) (size_at us p))) at)

  size_left : (us : List (List Entry)) → Each (IsTold n steps) us → size_at (filter is_uncommitted us) p ≡ cond (opens_in n steps p) (size_at us p) 0
  size_left [] told = none (opens_in n steps p)
    where
      none : (b : Bool) → 0 ≡ cond {A = ℕ} b 0 0
      none true = refl
      none false = refl
  size_left (u ∷ us) told = by (commits u) refl (commit_place u == p) refl (size_left us told.1)
    where
      by : (b : Bool) → commits u ≡ b → (d : Bool) → (commit_place u == p) ≡ d → size_at (filter is_uncommitted us) p ≡ cond (opens_in n steps p) (size_at us p) 0
          → size_at (filter is_uncommitted (u ∷ us)) p ≡ cond (opens_in n steps p) (cond (commit_place u == p) (length u) (size_at us p)) 0
      by false is true at rest =
          ap (λ vs. size_at vs p) (kept_by is_uncommitted u us true (ap not is)) ∙ ap (λ (d : Bool). cond d (length u) (size_at (filter is_uncommitted us) p)) at
          ∙ sym (ap (λ (d : Bool). cond (opens_in n steps p) (cond d (length u) (size_at us p)) 0) at ∙ ap (λ (o : Bool). cond o (length u) 0) (opens_at u told.0 (eqb-true (commit_place u) p at) false is))
      by false is false at rest =
          ap (λ vs. size_at vs p) (kept_by is_uncommitted u us true (ap not is)) ∙ ap (λ (d : Bool). cond d (length u) (size_at (filter is_uncommitted us) p)) at ∙ rest
          ∙ sym (ap (λ (d : Bool). cond (opens_in n steps p) (cond d (length u) (size_at us p)) 0) at)
      by true is true at rest =
          let opens = opens_at u told.0 (eqb-true (commit_place u) p at) true is in
          ap (λ vs. size_at vs p) (kept_by is_uncommitted u us false (ap not is)) ∙ rest ∙ ap (λ (o : Bool). cond o (size_at us p) 0) opens
          ∙ sym (ap (λ (o : Bool). cond o (cond (commit_place u == p) (length u) (size_at us p)) 0) opens)
      by true is false at rest =
          ap (λ vs. size_at vs p) (kept_by is_uncommitted u us false (ap not is)) ∙ rest
          ∙ sym (ap (λ (d : Bool). cond (opens_in n steps p) (cond d (length u) (size_at us p)) 0) at)

-- What is spread is that of the units that commit.

committed_same : (f g : ℕ → ℕ) (n : ℕ) (steps : List Step) → ((p : ℕ) → n ≤ p → g p ≡ cond (opens_in n steps p) 0 (f p)) → spread_committed f n steps ≡ spread g n steps
committed_same f g n [] same = refl
committed_same f g n (step ∷ steps) same =
    ap (λ (m : ℕ). replicate m step.thread ++ spread_committed f (n + 1) steps) (sym (same n (omega arith) ∙ ap (λ (o : Bool). cond o 0 (f n)) (opens_here n step steps)))
    ∙ ap (λ l. replicate (g n) step.thread ++ l) (committed_same f g (n + 1) steps (λ p low. same p (omega (arith, low)) ∙ ap (λ (o : Bool). cond o 0 (f p)) (opens_later n step steps p low)))

apart_kept : (test : List Entry → Bool) (us : List (List Entry)) → CommitsApart us → CommitsApart (filter test us)
apart_kept test [] apart = tt
apart_kept test (u ∷ us) apart = by (test u) (apart_kept test us apart.1)
  where
    by : (b : Bool) → CommitsApart (filter test us) → CommitsApart (cond b (u ∷ filter test us) (filter test us))
    by true rest = (each_kept (λ v. commit_place u ≢ commit_place v) test us apart.0, rest)
    by false rest = rest

module _ (steps : List Step) where
  fine_run : Each (IsFine 0) (units (entries_of 0 steps))
  fine_run = fine_units (entries_of 0 steps) 0 (rises 0 0 (omega arith) steps)

  told_run : Each (IsTold 0 steps) (units (entries_of 0 steps))
  told_run = told_units 0 steps (units (entries_of 0 steps)) fine_run (each_units (Tells 0 steps) (entries_of 0 steps) (are_told 0 steps))

  apart_run : CommitsApart (units (entries_of 0 steps))
  apart_run = units_apart (entries_of 0 steps) 0 (rises 0 0 (omega arith) steps)

  at_run : Each (IsAt 0 steps) (units (entries_of 0 steps))
  at_run = units_at 0 steps (units (entries_of 0 steps)) fine_run (each_units (IsStep 0 steps) (entries_of 0 steps) (are_steps 0 steps))

  -- the sizes of the units that pass a test are those of the same in order
  in_order_size : (test : List Entry → Bool) (p : ℕ) → size_at (in_order (filter test (units (entries_of 0 steps)))) p ≡ size_at (filter test (units (entries_of 0 steps))) p
  in_order_size test p = size_in_order p (filter test (units (entries_of 0 steps))) (apart_kept test (units (entries_of 0 steps)) apart_run)

  strict_run : (test : List Entry → Bool) → Strict (in_order (filter test (units (entries_of 0 steps))))
  strict_run test = strict_in_order (filter test (units (entries_of 0 steps))) (apart_kept test (units (entries_of 0 steps)) apart_run)

  at_steps : (test : List Entry → Bool) → Each (IsAt 0 steps) (in_order (filter test (units (entries_of 0 steps))))
  at_steps test = each_in_order (IsAt 0 steps) (filter test (units (entries_of 0 steps))) (each_kept (IsAt 0 steps) test (units (entries_of 0 steps)) at_run)

  committed_is : spread_committed (size_at (units (entries_of 0 steps))) 0 steps ≡ schedule_of (in_order (filter commits (units (entries_of 0 steps))))
  committed_is =
      committed_same (size_at (units (entries_of 0 steps))) (size_at (filter commits (units (entries_of 0 steps)))) 0 steps (λ p low. size_commits 0 steps p (units (entries_of 0 steps)) told_run)
      ∙ spread_same (size_at (filter commits (units (entries_of 0 steps)))) (size_at (in_order (filter commits (units (entries_of 0 steps))))) 0 steps (λ p low. sym (in_order_size commits p))
      ∙ spread_is 0 steps (in_order (filter commits (units (entries_of 0 steps)))) (strict_run commits) (at_steps commits)

-- The sizes by thread.

-- how many entries the first unit of this thread has; 0 where there is none
abbrev thread_size : List (List Entry) → ℕ → ℕ
thread_size [] t = 0
thread_size (u ∷ us) t = if unit_thread u == t then length u else thread_size us t

-- as left_sizes, of sizes that are 0 but for the units that don't commit
abbrev plain_sizes : (ℕ → ℕ) → (n : ℕ) → List Step → ℕ → ℕ
plain_sizes f n [] = λ t. 0
plain_sizes f n (step ∷ steps) = with_left step.thread (f n) (plain_sizes f (n + 1) steps)

with_same : (thread size other : ℕ) (f g : ℕ → ℕ) → f other ≡ g other → with_left thread size f other ≡ with_left thread size g other
with_same thread size other f g same = by (size == 0) (thread == other)
  where
    by : (b d : Bool) → cond b (f other) (cond d size (f other)) ≡ cond b (g other) (cond d size (g other))
    by true d = same
    by false true = refl
    by false false = same

left_same : (f g : ℕ → ℕ) (n : ℕ) (steps : List Step) (t : ℕ) → ((p : ℕ) → n ≤ p → g p ≡ cond (opens_in n steps p) (f p) 0) → left_sizes f n steps t ≡ plain_sizes g n steps t
left_same f g n [] t same = refl
left_same f g n (step ∷ steps) t same =
    ap (λ (m : ℕ). with_left step.thread m (left_sizes f (n + 1) steps) t) (sym (same n (omega arith) ∙ ap (λ (o : Bool). cond o (f n) 0) (opens_here n step steps)))
    ∙ with_same step.thread (g n) t (left_sizes f (n + 1) steps) (plain_sizes g (n + 1) steps) (left_same f g (n + 1) steps t (λ p low. same p (omega (arith, low)) ∙ ap (λ (o : Bool). cond o (f p) 0) (opens_later n step steps p low)))

plain_same : (f g : ℕ → ℕ) (n : ℕ) (steps : List Step) (t : ℕ) → ((p : ℕ) → n ≤ p → f p ≡ g p) → plain_sizes f n steps t ≡ plain_sizes g n steps t
plain_same f g n [] t same = refl
plain_same f g n (step ∷ steps) t same =
    ap (λ (m : ℕ). with_left step.thread m (plain_sizes f (n + 1) steps) t) (same n (omega arith))
    ∙ with_same step.thread (g n) t (plain_sizes f (n + 1) steps) (plain_sizes g (n + 1) steps) (plain_same f g (n + 1) steps t (λ p low. same p (omega (arith, low))))

-- a unit that isn't empty
abbrev IsFilled : List Entry → Type 0
IsFilled u = (length u == 0) ≡ false

filled : (n : ℕ) (u : List Entry) → IsFine n u → IsFilled u
filled n u fine = subst IsFilled (sym fine.is) (some (length fine.rest))
  where
    some : (m : ℕ) → (suc m == 0) ≡ false
    some m = ne_eqb (suc m) 0 (λ e. omega (arith, e))

thread_one : (n t : ℕ) (u : List Entry) → IsFine n u → Each (IsOf t) u → unit_thread u ≡ t
thread_one n t u fine own = ap unit_thread fine.is ∙ (subst (Each (IsOf t)) fine.is own).0

lefts_are : (n : ℕ) (steps : List Step) (us : List (List Entry)) → Strict us → Each (IsAt n steps) us → Each (IsFine 0) us → (t : ℕ) → plain_sizes (size_at us) n steps t ≡ thread_size us t
lefts_are n [] [] strict at fine t = refl
lefts_are n [] (u ∷ us) strict at fine t = let low = (at.0).low in let high = (at.0).high in absurd (omega (arith, low, high))
lefts_are n (step ∷ steps) [] strict at fine t = lefts_are (n + 1) steps [] tt tt tt t
lefts_are n (step ∷ steps) (u ∷ us) strict at fine t = by (n == commit_place u) refl (λ rest. lefts_are (n + 1) steps us strict.1 rest fine.1 t) (λ rest. lefts_are (n + 1) steps (u ∷ us) strict rest fine t)
  where
    here : n ≡ commit_place u → (Each (IsAt (n + 1) steps) us → plain_sizes (size_at us) (n + 1) steps t ≡ thread_size us t) → plain_sizes (size_at (u ∷ us)) n (step ∷ steps) t ≡ thread_size (u ∷ us) t
    here is rest =
        let less = each_more (λ v. commit_place u < commit_place v) (λ v. n < commit_place v) (λ v k. omega (arith, is, k)) us strict.0 in
        let size : size_at (u ∷ us) n ≡ length u = ap (λ (b : Bool). cond b (length u) (size_at us n)) (ap (λ (m : ℕ). commit_place u == m) is ∙ eq-eqb (commit_place u) (commit_place u) refl) in
        let own : thread_in n (step ∷ steps) (commit_place u) ≡ step.thread = ap (λ (b : Bool). cond b step.thread (thread_in (n + 1) steps (commit_place u))) (ap (λ (m : ℕ). m == commit_place u) is ∙ eq-eqb (commit_place u) (commit_place u) refl) in
        let thread : unit_thread u ≡ step.thread = thread_one 0 step.thread u fine.0 (subst (λ k. Each (IsOf k) u) own (at.0).own) in
        ap (λ (m : ℕ). with_left step.thread m (plain_sizes (size_at (u ∷ us)) (n + 1) steps) t) size
        ∙ ap (λ (b : Bool). cond b (plain_sizes (size_at (u ∷ us)) (n + 1) steps t) (put_at (plain_sizes (size_at (u ∷ us)) (n + 1) steps) step.thread (length u) t)) (filled 0 u fine.0)
        ∙ ap (λ (m : ℕ). cond (step.thread == t) (length u) m)
        (plain_same (size_at (u ∷ us)) (size_at us) (n + 1) steps t (λ p low. ap (λ (b : Bool). cond b (length u) (size_at us p)) (ne_eqb (commit_place u) p (λ same. omega (arith, is, low, same))))
        ∙ rest (at_later n step steps us less at.1))
        ∙ ap (λ (k : ℕ). cond (k == t) (length u) (thread_size us t)) (sym thread)

    later : n ≢ commit_place u → (Each (IsAt (n + 1) steps) (u ∷ us) → plain_sizes (size_at (u ∷ us)) (n + 1) steps t ≡ thread_size (u ∷ us) t) → plain_sizes (size_at (u ∷ us)) n (step ∷ steps) t ≡ thread_size (u ∷ us) t
    later other rest =
        let less = strictly n (commit_place u) other (at.0).low in
        let all : Each (λ v. n < commit_place v) (u ∷ us) = (less, each_more (λ v. commit_place u < commit_place v) (λ v. n < commit_place v) (λ v k. omega (arith, less, k)) us strict.0) in
        ap (λ (m : ℕ). with_left step.thread m (plain_sizes (size_at (u ∷ us)) (n + 1) steps) t) (size_none n (u ∷ us) (each_more (λ v. n < commit_place v) (λ v. n ≢ commit_place v) (λ v k same. omega (arith, k, same)) (u ∷ us) all))
        ∙ rest (at_later n step steps (u ∷ us) all at)

    by : (b : Bool) → (n == commit_place u) ≡ b → (Each (IsAt (n + 1) steps) us → plain_sizes (size_at us) (n + 1) steps t ≡ thread_size us t)
        → (Each (IsAt (n + 1) steps) (u ∷ us) → plain_sizes (size_at (u ∷ us)) (n + 1) steps t ≡ thread_size (u ∷ us) t) → plain_sizes (size_at (u ∷ us)) n (step ∷ steps) t ≡ thread_size (u ∷ us) t
    by true is one all = here (eqb-true n (commit_place u) is) one
    by false is one all = later (eqb-false n (commit_place u) is) all

-- Units in order of their threads.

-- each unit's thread is lower than the next one's
abbrev Rising : List (List Entry) → Type 0
Rising [] = Unit {0}
Rising (u ∷ us) = Each (λ v. unit_thread u < unit_thread v) us × Rising us

rising_put : (u : List Entry) (us : List (List Entry)) → Each (λ v. unit_thread u ≢ unit_thread v) us → Rising us → Rising (placed_by_thread u us)
rising_put u [] other rising = (tt, tt)
rising_put u (v ∷ us) other rising = by (nat_le (unit_thread u) (unit_thread v)) refl (rising_put u us other.1 rising.1)
  where
    by : (b : Bool) → nat_le (unit_thread u) (unit_thread v) ≡ b → Rising (placed_by_thread u us) → Rising (cond b (u ∷ v ∷ us) (v ∷ placed_by_thread u us))
    by true e rest =
        let less = strictly (unit_thread u) (unit_thread v) other.0 (leb-true (unit_thread u) (unit_thread v) e) in
        ((less, each_more (λ w. unit_thread v < unit_thread w) (λ w. unit_thread u < unit_thread w) (λ w k. omega (arith, less, k)) us rising.0), rising)
    by false e rest = (each_put (λ w. unit_thread v < unit_thread w) u us (leb-false (unit_thread u) (unit_thread v) e) rising.0, rest)

rising_by_thread : (us : List (List Entry)) → AreApart us → Rising (by_thread us)
rising_by_thread [] apart = tt
rising_by_thread (u ∷ us) apart = rising_put u (by_thread us) (each_by_thread (λ v. unit_thread u ≢ unit_thread v) us apart.0) (rising_by_thread us apart.1)

-- of two units of different threads either may stand first
swapped : (t : ℕ) (u v : List Entry) (us : List (List Entry)) → unit_thread u ≢ unit_thread v → (m : ℕ) → m ≡ thread_size (u ∷ us) t → cond (unit_thread v == t) (length v) m ≡ thread_size (u ∷ v ∷ us) t
swapped t u v us other = by (unit_thread u == t) (unit_thread v == t) (λ b g. other (eqb-true (unit_thread u) t b ∙ sym (eqb-true (unit_thread v) t g)))
  where
    by : (b g : Bool) → (b ≡ true → g ≡ true → ⊥) → (m : ℕ) → m ≡ cond b (length u) (thread_size us t) → cond g (length v) m ≡ cond b (length u) (cond g (length v) (thread_size us t))
    by true true never m h = absurd (never refl refl)
    by true false never m h = h
    by false true never m h = refl
    by false false never m h = h

size_put : (t : ℕ) (u : List Entry) (us : List (List Entry)) → Each (λ v. unit_thread u ≢ unit_thread v) us → thread_size (placed_by_thread u us) t ≡ thread_size (u ∷ us) t
size_put t u [] other = refl
size_put t u (v ∷ us) other = by (nat_le (unit_thread u) (unit_thread v)) (size_put t u us other.1)
  where
    by : (b : Bool) → thread_size (placed_by_thread u us) t ≡ thread_size (u ∷ us) t → thread_size (cond b (u ∷ v ∷ us) (v ∷ placed_by_thread u us)) t ≡ thread_size (u ∷ v ∷ us) t
    by true rest = refl
    by false rest = swapped t u v us other.0 (thread_size (placed_by_thread u us) t) rest

size_by_thread : (t : ℕ) (us : List (List Entry)) → AreApart us → thread_size (by_thread us) t ≡ thread_size us t
size_by_thread t [] apart = refl
size_by_thread t (u ∷ us) apart = size_put t u (by_thread us) (each_by_thread (λ v. unit_thread u ≢ unit_thread v) us apart.0) ∙ ap (λ (m : ℕ). cond (unit_thread u == t) (length u) m) (size_by_thread t us apart.1)

-- nor does the order of commit places change the sizes
size_placed : (t : ℕ) (u : List Entry) (us : List (List Entry)) → Each (λ v. unit_thread u ≢ unit_thread v) us → thread_size (placed u us) t ≡ thread_size (u ∷ us) t
size_placed t u [] other = refl
size_placed t u (v ∷ us) other = by (nat_le (commit_place u) (commit_place v)) (size_placed t u us other.1)
  where
    by : (b : Bool) → thread_size (placed u us) t ≡ thread_size (u ∷ us) t → thread_size (cond b (u ∷ v ∷ us) (v ∷ placed u us)) t ≡ thread_size (u ∷ v ∷ us) t
    by true rest = refl
    by false rest = swapped t u v us other.0 (thread_size (placed u us) t) rest

size_ordered : (t : ℕ) (us : List (List Entry)) → AreApart us → thread_size (in_order us) t ≡ thread_size us t
size_ordered t [] apart = refl
size_ordered t (u ∷ us) apart = size_placed t u (in_order us) (each_in_order (λ v. unit_thread u ≢ unit_thread v) us apart.0) ∙ ap (λ (m : ℕ). cond (unit_thread u == t) (length u) m) (size_ordered t us apart.1)

no_thread : (t : ℕ) (us : List (List Entry)) → Each (λ v. t < unit_thread v) us → thread_size us t ≡ 0
no_thread t [] high = refl
no_thread t (u ∷ us) high = let here = high.0 in ap (λ (b : Bool). cond b (length u) (thread_size us t)) (ne_eqb (unit_thread u) t (λ same. omega (arith, here, same))) ∙ no_thread t us high.1

own_thread : (n : ℕ) (u : List Entry) → IsFine n u → Each (IsOf (unit_thread u)) u
own_thread n u fine = subst (λ v. Each (IsOf (unit_thread v)) u) (sym fine.is) fine.one

-- a table of these sizes, spread, is the schedule of the units
threads_are : (k : ℕ) (table : List ℕ) (us : List (List Entry)) → Rising us → Each (IsFine 0) us → Each (λ v. k ≤ unit_thread v) us → ((i : ℕ) → value_or 0 table i ≡ thread_size us (k + i)) → spread_threads k table ≡ schedule_of us
threads_are k [] [] rising fine low sizes = refl
threads_are k [] (u ∷ us) rising fine low sizes =
    absurd (
    let at = distance k (unit_thread u) low.0 in
    let size : 0 ≡ length u = sizes at.0 ∙ ap (λ (t : ℕ). cond (unit_thread u == t) (length u) (thread_size us t)) (sym at.1) ∙ ap (λ (b : Bool). cond b (length u) (thread_size us (unit_thread u))) (eq-eqb (unit_thread u) (unit_thread u) refl) in
    let c : true ≡ false = ap (λ m. m == 0) size ∙ filled 0 u fine.0 in cc
    )
  where
    distance : (m p : ℕ) → m ≤ p → (d : ℕ) × (p ≡ m + d)
    distance zero p low = (p, omega arith)
    distance (suc m) zero low = absurd (omega (arith, low))
    distance (suc m) (suc p) low = let rest = distance m p (omega (arith, low)) in let is = rest.1 in (rest.0, omega (arith, is))
threads_are k (size ∷ table) us rising fine low sizes = by us rising fine low sizes (λ vs up ok high rest. threads_are (k + 1) table vs up ok high rest)
  where
    first : (vs : List (List Entry)) → ((i : ℕ) → value_or 0 (size ∷ table) i ≡ thread_size vs (k + i)) → size ≡ thread_size vs k
    first vs given = given 0 ∙ ap (thread_size vs) (no_more k)
      where
        no_more : (n : ℕ) → n + 0 ≡ n
        no_more n = omega arith

    next : (vs : List (List Entry)) → ((i : ℕ) → value_or 0 (size ∷ table) i ≡ thread_size vs (k + i)) → (i : ℕ) → value_or 0 table i ≡ thread_size vs (k + 1 + i)
    next vs given i = given (suc i) ∙ ap (thread_size vs) (one_more k i)
      where
        one_more : (n m : ℕ) → n + suc m ≡ n + 1 + m
        one_more n m = omega arith

    none : (vs : List (List Entry)) → Rising vs → Each (IsFine 0) vs → Each (λ v. k < unit_thread v) vs → ((i : ℕ) → value_or 0 (size ∷ table) i ≡ thread_size vs (k + i))
        → ((ws : List (List Entry)) → Rising ws → Each (IsFine 0) ws → Each (λ v. k + 1 ≤ unit_thread v) ws → ((i : ℕ) → value_or 0 table i ≡ thread_size ws (k + 1 + i)) → spread_threads (k + 1) table ≡ schedule_of ws)
        → replicate size k ++ spread_threads (k + 1) table ≡ schedule_of vs
    none vs up ok high given rest =
        ap (λ (m : ℕ). replicate m k ++ spread_threads (k + 1) table) (first vs given ∙ no_thread k vs high)
        ∙ rest vs up ok (each_more (λ v. k < unit_thread v) (λ v. k + 1 ≤ unit_thread v) (λ v h. omega (arith, h)) vs high) (next vs given)

    by : (vs : List (List Entry)) → Rising vs → Each (IsFine 0) vs → Each (λ v. k ≤ unit_thread v) vs → ((i : ℕ) → value_or 0 (size ∷ table) i ≡ thread_size vs (k + i))
        → ((ws : List (List Entry)) → Rising ws → Each (IsFine 0) ws → Each (λ v. k + 1 ≤ unit_thread v) ws → ((i : ℕ) → value_or 0 table i ≡ thread_size ws (k + 1 + i)) → spread_threads (k + 1) table ≡ schedule_of ws)
        → replicate size k ++ spread_threads (k + 1) table ≡ schedule_of vs
    by [] up ok low given rest = none [] tt tt tt given rest
    by (u ∷ vs) up ok low given rest = at (unit_thread u == k) refl
      where
        at : (b : Bool) → (unit_thread u == k) ≡ b → replicate size k ++ spread_threads (k + 1) table ≡ schedule_of (u ∷ vs)
        at true is =
            let same : unit_thread u ≡ k = eqb-true (unit_thread u) k is in
            let more = each_more (λ v. unit_thread u < unit_thread v) (λ v. k + 1 ≤ unit_thread v) (λ v h. omega (arith, same, h)) vs up.0 in
            ap (λ (m : ℕ). replicate m k ++ spread_threads (k + 1) table) (first (u ∷ vs) given ∙ ap (λ (b : Bool). cond b (length u) (thread_size vs k)) is)
            ∙ ap (λ l. l ++ spread_threads (k + 1) table) (threads_of k u (subst (λ t. Each (IsOf t) u) same (own_thread 0 u ok.0)))
            ∙ ap (λ l. map (λ (e : Entry). e.thread) u ++ l)
            (rest vs up.1 ok.1 more (λ i. next (u ∷ vs) given i ∙ ap (λ (b : Bool). cond b (length u) (thread_size vs (k + 1 + i))) (ne_eqb (unit_thread u) (k + 1 + i) (λ e. omega (arith, same, e)))))
        at false is =
            let less = strictly k (unit_thread u) (λ e. eqb-false (unit_thread u) k is (sym e)) low.0 in
            none (u ∷ vs) up ok (less, each_more (λ v. unit_thread u < unit_thread v) (λ v. k < unit_thread v) (λ v h. omega (arith, less, h)) vs up.0) given rest

-- Both parts.

schedule_append : (us vs : List (List Entry)) → schedule_of (us ++ vs) ≡ schedule_of us ++ schedule_of vs
schedule_append [] vs = refl
schedule_append (u ∷ us) vs = ap (λ s. map (λ (e : Entry). e.thread) u ++ s) (schedule_append us vs) ∙ sym (append_assoc (map (λ (e : Entry). e.thread) u) (schedule_of us) (schedule_of vs))

module _ (steps : List Step) (table : List ℕ) (maps : UnitMaps) (is : maps ≡ unit_maps (entries_of 0 steps)) (sizes : (t : ℕ) → value_or 0 table t ≡ left_sizes maps.sizes 0 steps t) where
  abbrev us : List (List Entry)
  us = units (entries_of 0 steps)

  found : maps.sizes ≡ size_at us
  found = ap (λ (m : UnitMaps). m.sizes) (is ∙ maps_found (entries_of 0 steps) 0 (rises 0 0 (omega arith) steps))

  apart_left : AreApart (filter is_uncommitted us)
  apart_left = alone_apart 0 (filter is_uncommitted us) (each_kept (IsFine 0) is_uncommitted us (fine_run steps)) (alone_left us (last_units (entries_of 0 steps) 0 (rises 0 0 (omega arith) steps)))

  fine_left : Each (IsFine 0) (in_order (filter is_uncommitted us))
  fine_left = each_in_order (IsFine 0) (filter is_uncommitted us) (each_kept (IsFine 0) is_uncommitted us (fine_run steps))

  table_is : (t : ℕ) → value_or 0 table t ≡ thread_size (by_thread (filter is_uncommitted us)) t
  table_is t =
      sizes t ∙ ap (λ (f : ℕ → ℕ). left_sizes f 0 steps t) found
      ∙ left_same (size_at us) (size_at (filter is_uncommitted us)) 0 steps t (λ p low. size_left 0 steps p us (told_run steps))
      ∙ plain_same (size_at (filter is_uncommitted us)) (size_at (in_order (filter is_uncommitted us))) 0 steps t (λ p low. sym (in_order_size steps is_uncommitted p))
      ∙ lefts_are 0 steps (in_order (filter is_uncommitted us)) (strict_run steps is_uncommitted) (at_steps steps is_uncommitted) fine_left t
      ∙ size_ordered t (filter is_uncommitted us) apart_left
      ∙ sym (size_by_thread t (filter is_uncommitted us) apart_left)

  pub opened_spread : spread_committed maps.sizes 0 steps ++ spread_threads 0 table ≡ schedule_of (open_units us)
  opened_spread =
      ap (λ (f : ℕ → ℕ). spread_committed f 0 steps ++ spread_threads 0 table) found ∙ ap (λ l. l ++ spread_threads 0 table) (committed_is steps)
      ∙ ap (λ l. schedule_of (in_order (filter commits us)) ++ l)
      (threads_are 0 table (by_thread (filter is_uncommitted us)) (rising_by_thread (filter is_uncommitted us) apart_left) (each_by_thread (IsFine 0) (filter is_uncommitted us) (each_kept (IsFine 0) is_uncommitted us (fine_run steps)))
      (each_low (by_thread (filter is_uncommitted us))) (λ i. table_is i ∙ ap (thread_size (by_thread (filter is_uncommitted us))) (zero_more i)))
      ∙ sym (schedule_append (in_order (filter commits us)) (by_thread (filter is_uncommitted us)))
    where
      each_low : (vs : List (List Entry)) → Each (λ v. 0 ≤ unit_thread v) vs
      each_low [] = tt
      each_low (v ∷ vs) = (omega arith, each_low vs)

      zero_more : (i : ℕ) → i ≡ 0 + i
      zero_more i = omega arith
