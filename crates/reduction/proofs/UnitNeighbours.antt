-- Where calls stand together, the entries of each unit are neighbours.
use Rattle.std.proofs.Common.{◌≡◌, ℕ, zero, suc, ◌+◌, ◌<◌, ◌≤◌, ◌==◌, Bool, true, false, ◌||◌, List, [], ◌∷◌, refl, sym, ap, subst, ◌∙◌, Some, None, arith}
use Rattle.std.specs.Prelude.{Option, slice_get, cond, unwrap_or}
use Rattle.std.proofs.lemmas.Bool.{eqb-true, eq-eqb}
use Rattle.semantics.specs.Units.{Entry, is_of_thread, added, units}
use Rattle.reduction.specs.Systems.{StepTo, System, system_entry_then, system_entries_from}
use Rattle.reduction.proofs.Shape.{Each, each_more, has, IsOf, IsFine}
use Rattle.reduction.proofs.Ordering.{has_by}
use Rattle.reduction.proofs.Sorting.{fine_units, each_units}
use Rattle.reduction.proofs.Whole.{entries_rise}
use Rattle.reduction.specs.Gathering.{AreUnitsTogether}
use Rattle.reduction.proofs.LastUnits.{none_first, none_added}
use Rattle.reduction.proofs.Together.{marks, some_of, first_of, AreTogether}

-- each entry has the place behind the one before it; the first has this place
abbrev pub Counts : ℕ → List Entry → Type 0
Counts n [] = Unit {0}
Counts n (e ∷ es) = (e.place ≡ n) × Counts (suc n) es

-- the place of the first entry
abbrev first_place : List Entry → ℕ
first_place [] = 0
first_place (e ∷ u) = e.place

-- the entries have places one after the other
abbrev IsRow : List Entry → Type 0
IsRow [] = Unit {0}
IsRow (e ∷ []) = Unit {0}
IsRow (e ∷ f ∷ u) = (f.place ≡ suc e.place) × IsRow (f ∷ u)

-- the first unit of the thread, where there is one, begins at this place
abbrev Begins : ℕ → ℕ → List (List Entry) → Type 0
Begins t p [] = Unit {0}
Begins t p (u ∷ us) = (is_of_thread t u ≡ true → first_place u ≡ p) × (is_of_thread t u ≡ false → Begins t p us)

begins_none : (t p : ℕ) (us : List (List Entry)) → has t us ≡ false → Begins t p us
begins_none t p [] none = tt
begins_none t p (u ∷ us) none =
    let q = none_first t u us none in
    ((λ is. absurd (let c : true ≡ false = sym is ∙ q.0 in cc)), (λ is. begins_none t p us q.1))

begins_added : (e : Entry) (us : List (List Entry)) → Begins e.thread e.place (added e us)
begins_added e [] = ((λ is. refl), (λ is. tt))
begins_added e (u ∷ us) = by (is_of_thread e.thread u) refl (begins_added e us)
  where
    by : (b : Bool) → is_of_thread e.thread u ≡ b → Begins e.thread e.place (added e us) → Begins e.thread e.place (cond b ((e ∷ u) ∷ us) (u ∷ added e us))
    by true is rest = ((λ at. refl), (λ at. absurd (let c : true ≡ false = sym (eq-eqb e.thread e.thread refl) ∙ at in cc)))
    by false is rest = ((λ at. absurd (let c : true ≡ false = sym at ∙ is in cc)), (λ at. rest))

begins_units : (f : Entry) (es : List Entry) → Begins f.thread f.place (units (f ∷ es))
begins_units f es = by f.inside
  where
    by : (b : Bool) → Begins f.thread f.place (cond b (added f (units es)) ((f ∷ []) ∷ units es))
    by true = begins_added f (units es)
    by false = ((λ at. refl), (λ at. absurd (let c : true ≡ false = sym (eq-eqb f.thread f.thread refl) ∙ at in cc)))

row_added : (e : Entry) (us : List (List Entry)) → Each IsRow us → Begins e.thread (suc e.place) us → Each IsRow (added e us)
row_added e [] rows begins = (tt, tt)
row_added e (u ∷ us) rows begins = by (is_of_thread e.thread u) refl (row_added e us rows.1)
  where
    longer : (v : List Entry) → IsRow v → is_of_thread e.thread v ≡ true → first_place v ≡ suc e.place → IsRow (e ∷ v)
    longer [] row at first = tt
    longer (f ∷ v) row at first = (first, row)

    by : (b : Bool) → is_of_thread e.thread u ≡ b → (Begins e.thread (suc e.place) us → Each IsRow (added e us)) → Each IsRow (cond b ((e ∷ u) ∷ us) (u ∷ added e us))
    by true is rest = (longer u rows.0 is (begins.0 is), rows.1)
    by false is rest = (rows.0, rest (begins.1 is))

-- a thread with a unit has an entry
test_or : (b c : Bool) → (b ≡ false → c ≡ true) → (b || c) ≡ true
test_or true c h = refl
test_or false c h = h refl

has_added : (t : ℕ) (e : Entry) (us : List (List Entry)) → (e.thread == t) ≡ false → has t (added e us) ≡ true → has t us ≡ true
has_added t e us other h = by (has t us) refl
  where
    by : (b : Bool) → has t us ≡ b → has t us ≡ true
    by true is = is
    by false is = absurd (let c : false ≡ true = sym (none_added t e us other is) ∙ h in cc)

some_units : (t : ℕ) (es : List Entry) → has t (units es) ≡ true → some_of t (marks es) ≡ true
some_units t [] h = absurd cc
some_units t (e ∷ es) h = test_or (e.thread == t) (some_of t (marks es)) (λ other. by e.inside other h (some_units t es))
  where
    by : (b : Bool) → (e.thread == t) ≡ false → has t (cond b (added e (units es)) ((e ∷ []) ∷ units es)) ≡ true → (has t (units es) ≡ true → some_of t (marks es) ≡ true) → some_of t (marks es) ≡ true
    by true other g later = later (has_added t e (units es) other g)
    by false other g later = later (sym (has_by t (e ∷ []) (units es) false other) ∙ g)

-- the thread's first unit begins with its next entry, which is the next of all
next_begins : (n : ℕ) (t : ℕ) (es : List Entry) → Counts n es → (some_of t (marks es) ≡ true → first_of t (marks es) ≡ true) → (b : Bool) → has t (units es) ≡ b → Begins t n (units es)
next_begins n t es counts first false is = begins_none t n (units es) is
next_begins n t [] counts first true is = absurd cc
next_begins n t (f ∷ es) counts first true is =
    let same : f.thread ≡ t = eqb-true f.thread t (first (some_units t (f ∷ es) is)) in
    subst (λ x. Begins x n (units (f ∷ es))) same (subst (λ x. Begins f.thread x (units (f ∷ es))) counts.0 (begins_units f es))

rows : (es : List Entry) (n : ℕ) → Counts n es → AreTogether (marks es) → Each IsRow (units es)
rows [] n counts together = tt
rows (e ∷ es) n counts together = by e.inside refl (rows es (suc n) counts.1 together.1)
  where
    by : (b : Bool) → e.inside ≡ b → Each IsRow (units es) → Each IsRow (cond b (added e (units es)) ((e ∷ []) ∷ units es))
    by true is rest = row_added e (units es) rest
        (subst (λ m. Begins e.thread (suc m) (units es)) (sym counts.0) (next_begins (suc n) e.thread es counts.1 (together.0 is) (has e.thread (units es)) refl))
    by false is rest = (tt, rest)

-- A place between two of a unit is that of an entry of the unit.

row_place : (e : Entry) (u : List Entry) → IsRow (e ∷ u) → (i : ℕ) (x : Entry) → slice_get (e ∷ u) i ≡ Some x → x.place ≡ e.place + i
row_place e u row zero x at = let same : e ≡ x = ap (λ o. unwrap_or o e) at in ap (λ (z : Entry). z.place) (sym same) ∙ no_more e.place
  where
    no_more : (n : ℕ) → n ≡ n + 0
    no_more n = omega arith
row_place e [] row (suc i) x at = absurd cc
row_place e (f ∷ u) row (suc i) x at = let rest = row_place f u row.1 i x at in let next = row.0 in omega (arith, rest, next)

there : {A : Type 0} (xs : List A) (j : ℕ) (x : A) → slice_get xs j ≡ Some x → (d : ℕ) → d ≤ j → (y : A) × (slice_get xs d ≡ Some y)
there [] j x at d low = absurd cc
there (y ∷ xs) j x at zero low = (y, refl)
there (y ∷ xs) zero x at (suc d) low = absurd (omega (arith, low))
there (y ∷ xs) (suc j) x at (suc d) low = there xs j x at d (omega (arith, low))

between : (u : List Entry) → IsRow u → (i j p : ℕ) (e f : Entry) → slice_get u i ≡ Some e → slice_get u j ≡ Some f → e.place < p → p < f.place → (h : Entry) × (d : ℕ) × (slice_get u d ≡ Some h) × (h.place ≡ p)
between [] row i j p e f one two low high = absurd cc
between (x ∷ u) row i j p e f one two low high =
    let first = row_place x u row i e one in
    let last = row_place x u row j f two in
    let d = distance x.place p (omega (arith, first, low)) in
    let step = d.1 in
    let found = there (x ∷ u) j f two d.0 (omega (arith, last, high, step)) in
    let place = row_place x u row d.0 found.0 found.1 in
    (found.0, d.0, found.1, place ∙ sym step)
  where
    distance : (m p : ℕ) → m ≤ p → (d : ℕ) × (p ≡ m + d)
    distance zero p low = (p, omega arith)
    distance (suc m) zero low = absurd (omega (arith, low))
    distance (suc m) (suc p) low = let rest = distance m p (omega (arith, low)) in let is = rest.1 in (rest.0, omega (arith, is))

-- entries stand at their places
abbrev StandsAt : ℕ → List Entry → Entry → Type 0
StandsAt n es x = (i : ℕ) × (x.place ≡ n + i) × (slice_get es i ≡ Some x)

stand : (es : List Entry) (n : ℕ) → Counts n es → Each (StandsAt n es) es
stand [] n counts = tt
stand (e ∷ es) n counts = ((0, counts.0 ∙ no_more n, refl), each_more (StandsAt (suc n) es) (StandsAt n (e ∷ es)) (λ x h. (suc h.0, h.1 ∙ later n h.0, h.2)) es (stand es (suc n) counts.1))
  where
    no_more : (n : ℕ) → n ≡ n + 0
    no_more n = omega arith

    later : (n i : ℕ) → suc n + i ≡ n + suc i
    later n i = omega arith

each_at : {A : Type 0} (Q : A → Type 0) (xs : List A) → Each Q xs → (i : ℕ) (x : A) → slice_get xs i ≡ Some x → Q x
each_at Q [] h i x at = absurd cc
each_at Q (y ∷ xs) h zero x at = subst Q (ap (λ o. unwrap_or o y) at) h.0
each_at Q (y ∷ xs) h (suc i) x at = each_at Q xs h.1 i x at

same_entry : (es : List Entry) (x y : Entry) → StandsAt 0 es x → StandsAt 0 es y → x.place ≡ y.place → x ≡ y
same_entry es x y one two same =
    let first = one.1 in
    let second = two.1 in
    let place : one.0 ≡ two.0 = omega (arith, first, second, same) in
    ap (λ o. unwrap_or o x) (sym one.2 ∙ ap (slice_get es) place ∙ two.2)

module _ {S O : Type 0} (M : System S O) where
  entries_count : (s : List ℕ) (q : S) (n : ℕ) → Counts n (system_entries_from M q n s)
  entries_count [] q n = tt
  entries_count (t ∷ s) q n = by (M.step q t) (λ next. entries_count s next (n + 1))
    where
      next_place : n + 1 ≡ suc n
      next_place = omega arith

      by : (o : Option (StepTo S)) → ((next : S) → Counts (n + 1) (system_entries_from M next (n + 1) s)) → Counts n (system_entry_then M n t o (λ next. system_entries_from M next (n + 1) s))
      by None later = tt
      by (Some x) later = (refl, subst (λ k. Counts k (system_entries_from M x.to (n + 1) s)) next_place (later x.to))

  pub units_together : (s : List ℕ) (q : S) → AreTogether (marks (system_entries_from M q 0 s)) → AreUnitsTogether M q s
  units_together s q together n u unit i j k e f g one two other low high =
      let es = system_entries_from M q 0 s in
      let counts = entries_count s q 0 in
      let stands = stand es 0 counts in
      let fine = each_at (IsFine 0) (units es) (fine_units es 0 (entries_rise M s q 0)) n u unit in
      let own = each_at (Each (StandsAt 0 es)) (units es) (each_units (StandsAt 0 es) es stands) n u unit in
      let row = each_at IsRow (units es) (rows es 0 counts together) n u unit in
      let found = between u row i j g.place e f one two low high in
      let same : found.0 ≡ g = same_entry es found.0 g (each_at (StandsAt 0 es) u own found.1 found.0 found.2) (each_at (StandsAt 0 es) es stands k g other) found.3 in
      ap (λ (x : Entry). x.thread) (sym same) ∙ each_at (IsOf fine.first.thread) u fine.one found.1 found.0 found.2 ∙ sym (each_at (IsOf fine.first.thread) u fine.one i e one)
