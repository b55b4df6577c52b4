-- Sizes and commit places of units, found from the end of a run.
use Rattle.std.proofs.Common.{◌≡◌, ◌≢◌, ℕ, suc, ◌+◌, ◌<◌, ◌≤◌, Bool, true, false, ◌==◌, List, [], ◌∷◌, length, Some, None, refl, sym, ap, subst, ◌∙◌, add-one, arith}
use Rattle.std.specs.Prelude.{Option, drop, if◌then◌else◌}
use Rattle.std.proofs.lemmas.Bool.{eqb-true, ne_eqb, eq-eqb}
use Rattle.std.proofs.lemmas.List.{length-drop}
use Rattle.semantics.specs.Units.{Entry, added, is_of_thread, is_commit, units, commit_place}
use Rattle.reduction.proofs.Shape.{Each, each_more, IsFine, fine_above, commit_added}
use Rattle.reduction.proofs.Sorting.{Rises, fine_units}
use Rattle.serialise.specs.Entries.{entries_of}
use Rattle.serialise.specs.UnitMaps.{UnitMaps, unit_for, commit_with, with_size, with_unit, with_entry, unit_maps}
use Rattle.serialise.specs.declared.step.Step.{Step}

-- the commit place of the first unit of a thread, where there is one
abbrev pub first_commit : ℕ → List (List Entry) → Option ℕ
first_commit t [] = None
first_commit t (u ∷ us) = if is_of_thread t u then Some (commit_place u) else first_commit t us

-- how many entries the unit with this commit place has; 0 where there is none
abbrev pub size_at : List (List Entry) → ℕ → ℕ
size_at [] p = 0
size_at (u ∷ us) p = if commit_place u == p then length u else size_at us p

-- no unit commits at this place
abbrev pub NoneAt : ℕ → List (List Entry) → Type 0
NoneAt p us = Each (λ u. p ≢ commit_place u) us

-- different units commit at different places
abbrev pub CommitsApart : List (List Entry) → Type 0
CommitsApart [] = Unit {0}
CommitsApart (u ∷ us) = NoneAt (commit_place u) us × CommitsApart us

none_before : (n p : ℕ) → p < n → (us : List (List Entry)) → Each (IsFine n) us → NoneAt p us
none_before n p less us fine = each_more (IsFine n) (λ u. p ≢ commit_place u) (λ u f same. let above = fine_above n u f in omega (arith, less, above, same)) us fine

pub size_none : (p : ℕ) (us : List (List Entry)) → NoneAt p us → size_at us p ≡ 0
size_none p [] none = refl
size_none p (u ∷ us) none = ap (λ (b : Bool). if b then length u else size_at us p) (ne_eqb (commit_place u) p (λ same. none.0 (sym same))) ∙ size_none p us none.1

first_other : (t c p : ℕ) (us : List (List Entry)) → NoneAt p us → first_commit t us ≡ Some c → p ≢ c
first_other t c p [] none is = absurd cc
first_other t c p (u ∷ us) none is = by (is_of_thread t u) is (λ g. first_other t c p us none.1 g)
  where
    by : (b : Bool) → (if b then Some (commit_place u) else first_commit t us) ≡ Some c → (first_commit t us ≡ Some c → p ≢ c) → p ≢ c
    by true is later = let here : commit_place u ≡ c = cc in λ same. none.0 (same ∙ sym here)
    by false is later = later is

-- the maps that units have
abbrev pub maps_at : List (List Entry) → UnitMaps
maps_at us = record { sizes = size_at us; firsts = λ t. first_commit t us }

-- one entry more, before the units of a run
module _ (e : Entry) (n : ℕ) where
  -- what holds of the entry's place and of commit places holds of those with the entry
  commit_each : (Q : ℕ → Type 0) (us : List (List Entry)) → Each (IsFine n) us → Q e.place → Each (λ u. Q (commit_place u)) us → Each (λ u. Q (commit_place u)) (added e us)
  commit_each Q [] fine q h = (q, tt)
  commit_each Q (u ∷ us) fine q h = by (is_of_thread e.thread u) (commit_each Q us fine.1 q h.1)
    where
      here : (c : Bool) → Q (if c then e.place else commit_place u)
      here true = q
      here false = h.0

      by : (b : Bool) → Each (λ v. Q (commit_place v)) (added e us) → Each (λ v. Q (commit_place v)) (if b then (e ∷ u) ∷ us else u ∷ added e us)
      by true rest = (subst Q (sym (commit_added e u n fine.0)) (here (is_commit e.kind)), h.1)
      by false rest = (h.0, rest)

  apart_added : (us : List (List Entry)) → Each (IsFine n) us → NoneAt e.place us → CommitsApart us → CommitsApart (added e us)
  apart_added [] fine none apart = (tt, tt)
  apart_added (u ∷ us) fine none apart = by (is_of_thread e.thread u) (apart_added us fine.1 none.1 apart.1)
    where
      here : (c : Bool) → NoneAt (if c then e.place else commit_place u) us
      here true = none.1
      here false = apart.0

      by : (b : Bool) → CommitsApart (added e us) → CommitsApart (if b then (e ∷ u) ∷ us else u ∷ added e us)
      by true rest = (subst (λ c. NoneAt c us) (sym (commit_added e u n fine.0)) (here (is_commit e.kind)), apart.1)
      by false rest = (commit_each (λ m. commit_place u ≢ m) us fine.1 (λ same. none.0 (sym same)) apart.0, rest)

  -- the sizes where the entry joins a unit
  module _ (p : ℕ) where
    sizes_here : (u : List Entry) (us : List (List Entry)) → IsFine n u → NoneAt (commit_place u) us → with_size (size_at (u ∷ us)) (commit_place u) (commit_with e (commit_place u)) p ≡ size_at ((e ∷ u) ∷ us) p
    sizes_here u us fine apart =
        by (commit_with e (commit_place u) == p) (commit_place u == p) (ap (λ (b : Bool). (if b then length u else size_at us (commit_place u)) + 1) (eq-eqb (commit_place u) (commit_place u) refl) ∙ add-one (length u))
        (λ at. size_none p us (subst (λ c. NoneAt c us) (eqb-true (commit_place u) p at) apart))
        ∙ ap (λ (c : ℕ). if c == p then suc (length u) else size_at us p) (sym (commit_added e u n fine))
      where
        by : (b d : Bool) → size_at (u ∷ us) (commit_place u) + 1 ≡ suc (length u) → (d ≡ true → size_at us p ≡ 0)
            → (if b then size_at (u ∷ us) (commit_place u) + 1 else (if d then 0 else (if d then length u else size_at us p))) ≡ (if b then suc (length u) else size_at us p)
        by true d same none = same
        by false true same none = sym (none refl)
        by false false same none = refl

    sizes_later : (c : ℕ) (u : List Entry) (us : List (List Entry)) → e.place ≢ commit_place u → commit_place u ≢ c → with_size (size_at us) c (commit_with e c) p ≡ size_at (added e us) p
        → with_size (size_at (u ∷ us)) c (commit_with e c) p ≡ size_at (u ∷ added e us) p
    sizes_later c u us before other rest =
        by (commit_with e c == p) (c == p) (commit_place u == p) (ap (λ (b : Bool). (if b then length u else size_at us c) + 1) (ne_eqb (commit_place u) c other))
        (λ g b. commit_other (is_commit e.kind) (eqb-true (commit_place u) p g ∙ sym (eqb-true (commit_with e c) p b)))
        (λ g d. other (eqb-true (commit_place u) p g ∙ sym (eqb-true c p d))) rest
      where
        commit_other : (b : Bool) → commit_place u ≡ (if b then e.place else c) → ⊥
        commit_other true same = before (sym same)
        commit_other false same = other same

        by : (b d g : Bool) → size_at (u ∷ us) c + 1 ≡ size_at us c + 1 → (g ≡ true → b ≡ true → ⊥) → (g ≡ true → d ≡ true → ⊥)
            → (if b then size_at us c + 1 else (if d then 0 else size_at us p)) ≡ size_at (added e us) p
            → (if b then size_at (u ∷ us) c + 1 else (if d then 0 else (if g then length u else size_at us p))) ≡ (if g then length u else size_at (added e us) p)
        by true d true same one two rest = absurd (one refl refl)
        by false true true same one two rest = absurd (two refl refl)
        by false false true same one two rest = refl
        by true d false same one two rest = same ∙ rest
        by false true false same one two rest = rest
        by false false false same one two rest = rest

    sizes_on : (c : ℕ) (us : List (List Entry)) → Each (IsFine n) us → NoneAt e.place us → CommitsApart us → first_commit e.thread us ≡ Some c → with_size (size_at us) c (commit_with e c) p ≡ size_at (added e us) p
    sizes_on c [] fine none apart is = absurd cc
    sizes_on c (u ∷ us) fine none apart is = by (is_of_thread e.thread u) is (λ g. sizes_on c us fine.1 none.1 apart.1 g)
      where
        by : (b : Bool) → (if b then Some (commit_place u) else first_commit e.thread us) ≡ Some c → (first_commit e.thread us ≡ Some c → with_size (size_at us) c (commit_with e c) p ≡ size_at (added e us) p)
            → with_size (size_at (u ∷ us)) c (commit_with e c) p ≡ size_at (if b then (e ∷ u) ∷ us else u ∷ added e us) p
        by true is rest = let here : commit_place u ≡ c = cc in subst (λ m. with_size (size_at (u ∷ us)) m (commit_with e m) p ≡ size_at ((e ∷ u) ∷ us) p) here (sizes_here u us fine.0 apart.0)
        by false is rest = sizes_later c u us none.0 (first_other e.thread c (commit_place u) us apart.0 is) (rest is)

    -- and where it begins one
    sizes_new : (us : List (List Entry)) → NoneAt e.place us → with_size (size_at us) e.place (commit_with e e.place) p ≡ (if e.place == p then 1 else size_at us p)
    sizes_new us none = ap (λ (c : ℕ). with_size (size_at us) e.place c p) (own (is_commit e.kind)) ∙ by (e.place == p)
      where
        own : (b : Bool) → (if b then e.place else e.place) ≡ e.place
        own true = refl
        own false = refl

        by : (b : Bool) → (if b then size_at us e.place + 1 else (if b then 0 else size_at us p)) ≡ (if b then 1 else size_at us p)
        by true = ap (λ (m : ℕ). m + 1) (size_none e.place us none)
        by false = refl

    size_last : (us : List (List Entry)) → NoneAt e.place us → first_commit e.thread us ≡ None → size_at (added e us) p ≡ (if e.place == p then 1 else size_at us p)
    size_last [] none is = refl
    size_last (u ∷ us) none is = by (is_of_thread e.thread u) is (λ g. size_last us none.1 g)
      where
        swap : (b g : Bool) → (b ≡ true → g ≡ true → ⊥) → (m : ℕ) → m ≡ (if b then 1 else size_at us p) → (if g then length u else m) ≡ (if b then 1 else (if g then length u else size_at us p))
        swap true true never m h = absurd (never refl refl)
        swap true false never m h = h
        swap false true never m h = refl
        swap false false never m h = h

        by : (b : Bool) → (if b then Some (commit_place u) else first_commit e.thread us) ≡ None → (first_commit e.thread us ≡ None → size_at (added e us) p ≡ (if e.place == p then 1 else size_at us p))
            → size_at (if b then (e ∷ u) ∷ us else u ∷ added e us) p ≡ (if e.place == p then 1 else size_at (u ∷ us) p)
        by true is rest = absurd cc
        by false is rest = swap (e.place == p) (commit_place u == p) (λ b g. none.0 (eqb-true e.place p b ∙ sym (eqb-true (commit_place u) p g))) (size_at (added e us) p) (rest is)

  -- the first unit of each thread where the entry joins one
  module _ (t : ℕ) where
    another : (u : List Entry) → is_of_thread e.thread u ≡ false → (c : ℕ) (rest later : Option ℕ) → rest ≡ (if e.thread == t then Some c else later)
        → (if is_of_thread t u then Some (commit_place u) else rest) ≡ (if e.thread == t then Some c else (if is_of_thread t u then Some (commit_place u) else later))
    another u at c rest later h = by (e.thread == t) (is_of_thread t u) (λ b d. let k : true ≡ false = sym (subst (λ m. is_of_thread m u ≡ true) (sym (eqb-true e.thread t b)) d) ∙ at in cc) h
      where
        by : (b d : Bool) → (b ≡ true → d ≡ true → ⊥) → rest ≡ (if b then Some c else later) → (if d then Some (commit_place u) else rest) ≡ (if b then Some c else (if d then Some (commit_place u) else later))
        by true true never h = absurd (never refl refl)
        by true false never h = h
        by false true never h = refl
        by false false never h = h

    first_on : (c : ℕ) (us : List (List Entry)) → Each (IsFine n) us → first_commit e.thread us ≡ Some c → first_commit t (added e us) ≡ (if e.thread == t then Some (commit_with e c) else first_commit t us)
    first_on c [] fine is = absurd cc
    first_on c (u ∷ us) fine is = by (is_of_thread e.thread u) refl is (λ g. first_on c us fine.1 g)
      where
        own : (v : List Entry) → is_of_thread e.thread v ≡ true → is_of_thread t v ≡ (e.thread == t)
        own [] h = absurd cc
        own (f ∷ v) h = ap (λ m. m == t) (eqb-true f.thread e.thread h)

        here : (b d : Bool) → d ≡ b → (m : ℕ) → (if b then Some m else first_commit t us) ≡ (if b then Some m else (if d then Some (commit_place u) else first_commit t us))
        here true d same m = refl
        here false true same m = absurd cc
        here false false same m = refl

        by : (b : Bool) → is_of_thread e.thread u ≡ b → (if b then Some (commit_place u) else first_commit e.thread us) ≡ Some c → (first_commit e.thread us ≡ Some c → first_commit t (added e us) ≡ (if e.thread == t then Some (commit_with e c) else first_commit t us))
            → first_commit t (if b then (e ∷ u) ∷ us else u ∷ added e us) ≡ (if e.thread == t then Some (commit_with e c) else first_commit t (u ∷ us))
        by true at is rest =
            let same : commit_place u ≡ c = cc in
            ap (λ (m : ℕ). if e.thread == t then Some m else first_commit t us) (commit_added e u n fine.0 ∙ ap (commit_with e) same)
            ∙ here (e.thread == t) (is_of_thread t u) (own u at) (commit_with e c)
        by false at is rest = another u at (commit_with e c) (first_commit t (added e us)) (first_commit t us) (rest is)

    first_last : (us : List (List Entry)) → first_commit e.thread us ≡ None → first_commit t (added e us) ≡ (if e.thread == t then Some e.place else first_commit t us)
    first_last [] is = refl
    first_last (u ∷ us) is = by (is_of_thread e.thread u) refl is (λ g. first_last us g)
      where
        by : (b : Bool) → is_of_thread e.thread u ≡ b → (if b then Some (commit_place u) else first_commit e.thread us) ≡ None → (first_commit e.thread us ≡ None → first_commit t (added e us) ≡ (if e.thread == t then Some e.place else first_commit t us))
            → first_commit t (if b then (e ∷ u) ∷ us else u ∷ added e us) ≡ (if e.thread == t then Some e.place else first_commit t (u ∷ us))
        by true at is rest = absurd cc
        by false at is rest = another u at e.place (first_commit t (added e us)) (first_commit t us) (rest is)

  own_commit : commit_with e e.place ≡ e.place
  own_commit = by (is_commit e.kind)
    where
      by : (b : Bool) → (if b then e.place else e.place) ≡ e.place
      by true = refl
      by false = refl

  with_more : (us : List (List Entry)) → Each (IsFine n) us → NoneAt e.place us → CommitsApart us → with_entry e (maps_at us) ≡ maps_at (if e.inside then added e us else (e ∷ []) ∷ us)
  with_more us fine none apart = by e.inside (first_commit e.thread us) refl
    where
      by : (b : Bool) (o : Option ℕ) → first_commit e.thread us ≡ o → with_unit e (maps_at us) (unit_for b o e.place) ≡ maps_at (if b then added e us else (e ∷ []) ∷ us)
      by false o is = λ i. record {
        sizes = λ p. sizes_new p us none i;
        firsts = λ t. (ap (λ (c : ℕ). if e.thread == t then Some c else first_commit t us) own_commit) i;
      }
      by true None is = λ i. record {
        sizes = λ p. (sizes_new p us none ∙ sym (size_last p us none is)) i;
        firsts = λ t. (ap (λ (c : ℕ). if e.thread == t then Some c else first_commit t us) own_commit ∙ sym (first_last t us is)) i;
      }
      by true (Some c) is = λ i. record {
        sizes = λ p. sizes_on p c us fine none apart is i;
        firsts = λ t. (sym (first_on t c us fine is)) i;
      }

pub units_apart : (es : List Entry) (n : ℕ) → Rises n es → CommitsApart (units es)
units_apart [] n rises = tt
units_apart (e ∷ es) n rises =
    let fine = fine_units es (suc e.place) rises.1 in
    by e.inside fine (none_before (suc e.place) e.place (omega arith) (units es) fine) (units_apart es (suc e.place) rises.1)
  where
    by : (b : Bool) → Each (IsFine (suc e.place)) (units es) → NoneAt e.place (units es) → CommitsApart (units es) → CommitsApart (if b then added e (units es) else (e ∷ []) ∷ units es)
    by true fine none apart = apart_added e (suc e.place) (units es) fine none apart
    by false fine none apart = (none, apart)

-- what the maps of a run's entries have
pub maps_found : (es : List Entry) (n : ℕ) → Rises n es → unit_maps es ≡ maps_at (units es)
maps_found [] n rises = refl
maps_found (e ∷ es) n rises =
    let fine = fine_units es (suc e.place) rises.1 in
    ap (with_entry e) (maps_found es (suc e.place) rises.1)
    ∙ with_more e (suc e.place) (units es) fine (none_before (suc e.place) e.place (omega arith) (units es) fine) (units_apart es (suc e.place) rises.1)

-- no unit has more entries than there are
sizes_bound : (n : ℕ) (steps : List Step) (p : ℕ) → (unit_maps (entries_of n steps)).sizes p ≤ length steps
sizes_bound n [] p = omega arith
sizes_bound n (step ∷ steps) p =
    let maps = unit_maps (entries_of (n + 1) steps) in
    let unit = unit_for step.inside (maps.firsts step.thread) n in
    by (commit_with (record { place = n; thread = step.thread; kind = step.kind; inside = step.inside }) unit == p) (unit == p) (sizes_bound (n + 1) steps unit) (sizes_bound (n + 1) steps p)
  where
    by : (b d : Bool) {m k l : ℕ} → m ≤ l → k ≤ l → (if b then m + 1 else (if d then 0 else k)) ≤ suc l
    by true d low same = omega (arith, low)
    by false true low same = omega arith
    by false false low same = omega (arith, same)

pub sizes_low : (maps : UnitMaps) (n : ℕ) (steps : List Step) → maps ≡ unit_maps (entries_of n (drop n steps)) → length steps ≤ 200000 → (p : ℕ) → maps.sizes p ≤ 200000
sizes_low maps n steps is low p =
    let bound = sizes_bound n (drop n steps) p in
    let short = length-drop n steps in
    subst (λ (m : UnitMaps). m.sizes p ≤ 200000) (sym is) (omega (arith, bound, short, low))
