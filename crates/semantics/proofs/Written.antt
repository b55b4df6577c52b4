-- The written order is the entries sorted by commit places.
use Rattle.std.proofs.Common.{◌≡◌, ◌≢◌, ℕ, ◌+◌, ◌<◌, ◌≤◌, Bool, true, false, ◌||◌, ◌==◌, List, [], ◌∷◌, ◌++◌, refl, sym, ap, ◌∙◌, arith}
use Rattle.std.specs.Prelude.{map, if◌then◌else◌}
use Rattle.std.proofs.lemmas.Bool.Decides.{nat_tests}
use Rattle.core_program.specs.Core.{Program}
use Rattle.state.specs.States.{State, initial}
use Rattle.semantics.specs.Step.{Outcome, Moves, Absent, IsDone, HadFaulted, Waits, outcome, moved}
use Rattle.semantics.specs.Units.{Entry, entry_then, entries_from, entries, added, is_of_thread, is_commit, units, commit_place, in_order, schedule_of, written_order}
use Rattle.semantics.specs.Sorted.{stands_at, commit_at, sort_by, sorted_order}
use Rattle.semantics.proofs.Insertions.{Each, each_more, each_left, each_right, each_both}
use Rattle.semantics.proofs.Blocks.{flat, IsSome, Keyed, Apart, order_flat, units_sorted}

-- Places of a run ascend by one.

abbrev pub Rises : ℕ → List Entry → Type 0
Rises n [] = Unit {0}
Rises n (e ∷ es) = (e.place ≡ n) × Rises (n + 1) es

entries_rise : (P : Program) (q : State) (n : ℕ) (s : List ℕ) → Rises n (entries_from P q n s)
entries_rise P q n [] = tt
entries_rise P q n (t ∷ s) = by (outcome P q t) (λ next. entries_rise P next (n + 1) s)
  where
    by : (o : Outcome) → ((next : State) → Rises (n + 1) (entries_from P next (n + 1) s)) → Rises n (entry_then P q n t o (λ next. entries_from P next (n + 1) s))
    by (Moves move) rest = (refl, rest (moved t move q))
    by Absent rest = tt
    by IsDone rest = tt
    by (HadFaulted why) rest = tt
    by (Waits a h) rest = tt

-- Units have entries, and different units different places.

abbrev pub AllApart : List (List Entry) → Type 0
AllApart us = Apart (λ (e : Entry). e.place) us

added_some : (e : Entry) (us : List (List Entry)) → Each IsSome us → Each IsSome (added e us)
added_some e [] h = (tt, tt)
added_some e (u ∷ us) h = by (is_of_thread e.thread u) (added_some e us h.1)
  where
    by : (b : Bool) → Each IsSome (added e us) → Each IsSome (if b then (e ∷ u) ∷ us else u ∷ added e us)
    by true rest = (tt, h.1)
    by false rest = (h.0, rest)

added_each : (Q : Entry → Type 0) (e : Entry) (us : List (List Entry)) → Q e → Each Q (flat us) → Each Q (flat (added e us))
added_each Q e [] q h = (q, tt)
added_each Q e (u ∷ us) q h = by (is_of_thread e.thread u) (added_each Q e us q (each_right Q u (flat us) h))
  where
    by : (b : Bool) → Each Q (flat (added e us)) → Each Q (flat (if b then (e ∷ u) ∷ us else u ∷ added e us))
    by true rest = (q, h)
    by false rest = each_both Q u (flat (added e us)) (each_left Q u (flat us) h) rest

both_each : (Q R : Entry → Type 0) (xs : List Entry) → Each Q xs → Each R xs → Each (λ x. Q x × R x) xs
both_each Q R [] q r = tt
both_each Q R (x ∷ xs) q r = ((q.0, r.0), both_each Q R xs q.1 r.1)

added_apart : (e : Entry) (us : List (List Entry)) → Each (λ (y : Entry). e.place < y.place) (flat us) → AllApart us → AllApart (added e us)
added_apart e [] low h = (((tt), tt), tt)
added_apart e (u ∷ us) low h = by (is_of_thread e.thread u) (added_apart e us (each_right (λ (y : Entry). e.place < y.place) u (flat us) low) h.1)
  where
    less_other : (a b : ℕ) → a < b → a ≢ b
    less_other a b less same = omega (arith, less, same)

    more_other : (a b : ℕ) → a < b → b ≢ a
    more_other a b less same = omega (arith, less, same)

    by : (b : Bool) → AllApart (added e us) → AllApart (if b then (e ∷ u) ∷ us else u ∷ added e us)
    by true rest = ((each_more (λ (y : Entry). e.place < y.place) (λ (y : Entry). e.place ≢ y.place) (λ y k. less_other e.place y.place k) (flat us) (each_right (λ (y : Entry). e.place < y.place) u (flat us) low), h.0), h.1)
    by false rest = (
      each_more (λ (x : Entry). (e.place < x.place) × Each (λ (y : Entry). x.place ≢ y.place) (flat us)) (λ (x : Entry). Each (λ (y : Entry). x.place ≢ y.place) (flat (added e us)))
          (λ x k. added_each (λ (y : Entry). x.place ≢ y.place) e us (more_other e.place x.place k.0) k.1) u
          (both_each (λ (x : Entry). e.place < x.place) (λ (x : Entry). Each (λ (y : Entry). x.place ≢ y.place) (flat us)) u (each_left (λ (y : Entry). e.place < y.place) u (flat us) low) h.0),
      rest,
    )

pub record Well (n : ℕ) (us : List (List Entry)) : Type 0 where
  pub some : Each IsSome us
  pub above : Each (λ (e : Entry). n ≤ e.place) (flat us)
  pub apart : AllApart us

low_next : (n p : ℕ) → n + 1 ≤ p → n ≤ p
low_next n p h = omega (arith, h)

less_next : (m n p : ℕ) → m ≡ n → n + 1 ≤ p → m < p
less_next m n p e h = omega (arith, e, h)

at_least : (m n : ℕ) → m ≡ n → n ≤ m
at_least m n e = omega (arith, e)

pub units_well : (es : List Entry) (n : ℕ) → Rises n es → Well n (units es)
units_well [] n r = record { some = tt; above = tt; apart = tt }
units_well (e ∷ es) n r = by e.inside (units_well es (n + 1) r.1)
  where
    by : (b : Bool) → Well (n + 1) (units es) → Well n (if b then added e (units es) else (e ∷ []) ∷ units es)
    by true w = record {
      some = added_some e (units es) w.some;
      above = added_each (λ (x : Entry). n ≤ x.place) e (units es) (at_least e.place n r.0) (each_more (λ (x : Entry). n + 1 ≤ x.place) (λ (x : Entry). n ≤ x.place) (λ x k. low_next n x.place k) (flat (units es)) w.above);
      apart = added_apart e (units es) (each_more (λ (x : Entry). n + 1 ≤ x.place) (λ (x : Entry). e.place < x.place) (λ x k. less_next e.place n x.place r.0 k) (flat (units es)) w.above) w.apart;
    }
    by false w = record {
      some = (tt, w.some);
      above = (at_least e.place n r.0, each_more (λ (x : Entry). n + 1 ≤ x.place) (λ (x : Entry). n ≤ x.place) (λ x k. low_next n x.place k) (flat (units es)) w.above);
      apart = ((each_more (λ (x : Entry). n + 1 ≤ x.place) (λ (x : Entry). e.place ≢ x.place) (λ x k. let l = less_next e.place n x.place r.0 k in λ same. omega (arith, l, same)) (flat (units es)) w.above, tt), w.apart);
    }

-- The key of an entry is the commit place of its unit.

not_at : (p : ℕ) (u : List Entry) → Each (λ (x : Entry). x.place ≢ p) u → stands_at p u ≡ false
not_at p [] h = refl
not_at p (x ∷ u) h = both_false (x.place == p) (stands_at p u) (is_other x.place p h.0) (not_at p u h.1)
  where
    is_other : (a b : ℕ) → a ≢ b → (a == b) ≡ false
    is_other a b other = grind (arith, nat_tests)

    both_false : (a b : Bool) → a ≡ false → b ≡ false → (a || b) ≡ false
    both_false true b e k = absurd cc
    both_false false b e k = k

is_at : (u : List Entry) → Each (λ (x : Entry). stands_at x.place u ≡ true) u
is_at [] = tt
is_at (x ∷ u) = (first x.place (stands_at x.place u), each_more (λ (y : Entry). stands_at y.place u ≡ true) (λ (y : Entry). stands_at y.place (x ∷ u) ≡ true) (λ y k. later (x.place == y.place) (stands_at y.place u) k) u (is_at u))
  where
    first : (p : ℕ) (b : Bool) → ((p == p) || b) ≡ true
    first p b = ap (λ x. x || b) (itself p)
      where
        itself : (p : ℕ) → (p == p) ≡ true
        itself p = grind (arith, nat_tests)

    later : (a b : Bool) → b ≡ true → (a || b) ≡ true
    later true b e = refl
    later false b e = e

-- a place that no entry of a unit has is not its commit place
pub not_commit : (c : ℕ) (u : List Entry) → IsSome u → Each (λ (x : Entry). x.place ≢ c) u → commit_place u ≢ c
not_commit c [] some h = absurd some
not_commit c (e ∷ []) some h = h.0
not_commit c (e ∷ f ∷ u) some h = by (is_commit e.kind) (not_commit c (f ∷ u) tt h.1)
  where
    by : (b : Bool) → commit_place (f ∷ u) ≢ c → (if b then e.place else commit_place (f ∷ u)) ≢ c
    by true rest = h.0
    by false rest = rest

each_all : (Q : Entry → Type 0) → ((x : Entry) → Q x) → (xs : List Entry) → Each Q xs
each_all Q f [] = tt
each_all Q f (x ∷ xs) = (f x, each_all Q f xs)

-- different places, seen from the other side
turned : (u ys : List Entry) → Each (λ (x : Entry). Each (λ (y : Entry). x.place ≢ y.place) ys) u → Each (λ (y : Entry). Each (λ (x : Entry). x.place ≢ y.place) u) ys
turned [] ys h = each_all (λ (y : Entry). Each (λ (x : Entry). x.place ≢ y.place) []) (λ y. tt) ys
turned (x ∷ u) ys h = both_each (λ (y : Entry). x.place ≢ y.place) (λ (y : Entry). Each (λ (x : Entry). x.place ≢ y.place) u) ys h.0 (turned u ys h.1)

keys_in : (us : List (List Entry)) (k : ℕ → ℕ) → Each IsSome us → AllApart us → Each (λ (x : Entry). k x.place ≡ commit_at us x.place) (flat us) → Each (Keyed (λ (e : Entry). k e.place)) us
keys_in [] k some apart h = tt
keys_in (u ∷ us) k some apart h = (
  record {
    some = some.0;
    keys = each_more (λ (x : Entry). (k x.place ≡ commit_at (u ∷ us) x.place) × (stands_at x.place u ≡ true)) (λ (x : Entry). k x.place ≡ commit_place u)
        (λ x r. r.0 ∙ ap (λ b. if b then commit_place u else commit_at us x.place) r.1) u
        (both_each (λ (x : Entry). k x.place ≡ commit_at (u ∷ us) x.place) (λ (x : Entry). stands_at x.place u ≡ true) u (each_left (λ (x : Entry). k x.place ≡ commit_at (u ∷ us) x.place) u (flat us) h) (is_at u));
  },
  keys_in us k some.1 apart.1
      (each_more (λ (y : Entry). (k y.place ≡ commit_at (u ∷ us) y.place) × Each (λ (x : Entry). x.place ≢ y.place) u) (λ (y : Entry). k y.place ≡ commit_at us y.place)
      (λ y r. r.0 ∙ ap (λ b. if b then commit_place u else commit_at us y.place) (not_at y.place u r.1)) (flat us)
      (both_each (λ (y : Entry). k y.place ≡ commit_at (u ∷ us) y.place) (λ (y : Entry). Each (λ (x : Entry). x.place ≢ y.place) u) (flat us)
      (each_right (λ (y : Entry). k y.place ≡ commit_at (u ∷ us) y.place) u (flat us) h) (turned u (flat us) apart.0))),
)

module _ (key : Entry → ℕ) where
  -- the commit place of a unit is no key of another
  other_keys : (u : List Entry) → IsSome u → (us : List (List Entry)) → Each (Keyed key) us → Each (λ (x : Entry). Each (λ (y : Entry). x.place ≢ y.place) (flat us)) u → Each (λ y. commit_place u ≢ key y) (flat us)
  other_keys u some [] keyed h = tt
  other_keys u some (v ∷ us) keyed h =
      let here = each_more (λ (x : Entry). Each (λ (y : Entry). x.place ≢ y.place) (v ++ flat us)) (λ (x : Entry). x.place ≢ commit_place v)
      (λ x r same. not_commit x.place v (keyed.0).some (each_more (λ (y : Entry). x.place ≢ y.place) (λ (y : Entry). y.place ≢ x.place) (λ y k e. k (sym e)) v (each_left (λ (y : Entry). x.place ≢ y.place) v (flat us) r)) (sym same)) u h in
      let differ = not_commit (commit_place v) u some here in
      each_both (λ y. commit_place u ≢ key y) v (flat us)
      (each_more (λ y. key y ≡ commit_place v) (λ y. commit_place u ≢ key y) (λ y is same. differ (same ∙ is)) v (keyed.0).keys)
      (other_keys u some us keyed.1 (each_more (λ (x : Entry). Each (λ (y : Entry). x.place ≢ y.place) (v ++ flat us)) (λ (x : Entry). Each (λ (y : Entry). x.place ≢ y.place) (flat us)) (λ x r. each_right (λ (y : Entry). x.place ≢ y.place) v (flat us) r) u h))

  keys_apart : (us : List (List Entry)) → Each (Keyed key) us → AllApart us → Apart key us
  keys_apart [] keyed apart = tt
  keys_apart (u ∷ us) keyed apart =
      let others = other_keys u (keyed.0).some us keyed.1 apart.0 in (
        each_more (λ x. key x ≡ commit_place u) (λ x. Each (λ y. key x ≢ key y) (flat us)) (λ x is. each_more (λ y. commit_place u ≢ key y) (λ y. key x ≢ key y) (λ y k same. k (sym is ∙ same)) (flat us) others) u (keyed.0).keys,
        keys_apart us keyed.1 apart.1,
      )

map_both : (xs ys : List Entry) → map (λ (e : Entry). e.thread) (xs ++ ys) ≡ map (λ (e : Entry). e.thread) xs ++ map (λ (e : Entry). e.thread) ys
map_both [] ys = refl
map_both (x ∷ xs) ys = ap (λ (l : List ℕ). x.thread ∷ l) (map_both xs ys)

schedule_flat : (us : List (List Entry)) → schedule_of us ≡ map (λ (e : Entry). e.thread) (flat us)
schedule_flat [] = refl
schedule_flat (u ∷ us) = ap (λ l. map (λ (e : Entry). e.thread) u ++ l) (schedule_flat us) ∙ sym (map_both u (flat us))

-- Units in order are the entries sorted by any key that is the commit place of each entry's unit.
pub units_by_key : (key : Entry → ℕ) (es : List Entry) → Rises 0 es → Each (Keyed key) (units es) → schedule_of (in_order (units es)) ≡ map (λ (e : Entry). e.thread) (sort_by key es)
units_by_key key es r keyed =
    let w = units_well es 0 r in
    schedule_flat (in_order (units es)) ∙ ap (map (λ (e : Entry). e.thread)) (sym (order_flat key (units es) keyed) ∙ units_sorted key es (keys_apart key (units es) keyed w.apart))

-- entries whose places ascend
sorted_units : (es : List Entry) → Rises 0 es → schedule_of (in_order (units es)) ≡ sorted_order es
sorted_units es r =
    let w = units_well es 0 r in
    units_by_key (λ (e : Entry). commit_at (units es) e.place) es r
    (keys_in (units es) (commit_at (units es)) w.some w.apart (each_all (λ (x : Entry). commit_at (units es) x.place ≡ commit_at (units es) x.place) (λ x. refl) (flat (units es))))

pub written_sorted : (P : Program) (s : List ℕ) → written_order P s ≡ sorted_order (entries P s)
written_sorted P s = sorted_units (entries P s) (entries_rise P (initial P) 0 s)
