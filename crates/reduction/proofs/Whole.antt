-- From the run of units in order to the written order of a schedule.
use Rattle.std.proofs.Common.{◌≡◌, ◌≢◌, ℕ, zero, suc, ◌+◌, ◌==◌, Bool, true, false, not, ◌||◌, List, [], ◌∷◌, ◌++◌, length, refl, sym, ap, subst, ◌∙◌, Some, None, arith}
use Rattle.std.specs.Prelude.{Option, map, take, slice_get, count_by, cond, is_some, IsSome, if◌then◌else◌}
use Rattle.std.proofs.lemmas.Bool.{eqb-true, and_from, and_parts, or_right, or_left, eq-eqb}
use Rattle.std.proofs.lemmas.List.Sums.{sum_by-cons}
use Rattle.std.proofs.lemmas.Option.{same_Some}
use Rattle.base.proofs.Options.{unless}
use Rattle.state.specs.declared.value.StepKind.{StepKind}
use Rattle.state.specs.declared.value.StepKind.TheVariants.{Both, Right, Left, Other, Bare}
use Rattle.semantics.specs.Units.{Entry, are_kept, is_of_thread, added, units, is_whole, word_of, in_order, schedule_of}
use Rattle.semantics.specs.Words.{IsReducible, is_reducible}
use Rattle.semantics.proofs.WordLemmas.{is_reducible_of}
use Rattle.reduction.specs.Systems.{StepTo, System, IsThreadOfSystem, run_then, system_run_from, system_entry_then, system_entries_from, written_from, system_owns_then, owns_from}
use Rattle.reduction.specs.Movers.{HasMovers}
use Rattle.reduction.specs.Runs.{Run}
use Rattle.reduction.specs.Serial.{IsBlockwise, NobodyInside, IsSerialOrder}
use Rattle.reduction.proofs.Shape.{Each, flat, has, IsOf, IsFine, each_in_order}
use Rattle.reduction.proofs.Slides.{fits_there, fits_grow, run_grows}
use Rattle.reduction.proofs.Sorting.{Rises, NotBare, HasWord, fine_units, words_later, sorted}

-- A schedule that runs is a run of its entries.
module _ {S O : Type 0} (M : System S O) where
  step_run : (q r : S) (place t : ℕ) (s : List ℕ) (o : Option (StepTo S)) → M.step q t ≡ o → run_then o (λ next. system_run_from M next s) ≡ Some r
      → ((next : S) → system_run_from M next s ≡ Some r → Run M next (system_entries_from M next (place + 1) s) r)
      → Run M q (system_entry_then M place t o (λ next. system_entries_from M next (place + 1) s)) r
  step_run q r place t s None e ran later = absurd cc
  step_run q r place t s (Some x) e ran later = (x.to, record { steps = e; inside = refl }, later x.to ran)

  pub entries_run : (s : List ℕ) (q r : S) (place : ℕ) → system_run_from M q s ≡ Some r → Run M q (system_entries_from M q place s) r
  entries_run [] q r place ran = same_Some q r ran
  entries_run (t ∷ s) q r place ran = step_run q r place t s (M.step q t) refl ran (λ next later. entries_run s next r (place + 1) later)

  pub entries_rise : (s : List ℕ) (q : S) (place : ℕ) → Rises place (system_entries_from M q place s)
  entries_rise [] q place = tt
  entries_rise (t ∷ s) q place = by (M.step q t) (λ next. entries_rise s next (place + 1))
    where
      next_place : place + 1 ≡ suc place
      next_place = omega arith

      by : (o : Option (StepTo S)) → ((next : S) → Rises (place + 1) (system_entries_from M next (place + 1) s)) → Rises place (system_entry_then M place t o (λ next. system_entries_from M next (place + 1) s))
      by None later = tt
      by (Some x) later = (omega arith, subst (λ n. Rises n (system_entries_from M x.to (place + 1) s)) next_place (later x.to))

  -- the entries of a schedule that runs are all of it
  pub entries_all : (s : List ℕ) (q : S) (place : ℕ) → IsSome (system_run_from M q s) → map (λ e. e.thread) (system_entries_from M q place s) ≡ s
  entries_all [] q place runs = refl
  entries_all (t ∷ s) q place runs = by (M.step q t) runs (λ next ran. entries_all s next (place + 1) ran)
    where
      by : (o : Option (StepTo S)) → IsSome (run_then o (λ next. system_run_from M next s)) → ((next : S) → IsSome (system_run_from M next s) → map (λ e. e.thread) (system_entries_from M next (place + 1) s) ≡ s)
          → map (λ e. e.thread) (system_entry_then M place t o (λ next. system_entries_from M next (place + 1) s)) ≡ t ∷ s
      by None ran later = absurd cc
      by (Some x) ran later = ap (λ r. t ∷ r) (later x.to ran)

  -- and a run of entries is one of a schedule
  pub run_entries : (es : List Entry) (q r : S) → Run M q es r → system_run_from M q (map (λ e. e.thread) es) ≡ Some r
  run_entries [] q r ran = ap Some ran
  run_entries (e ∷ es) q r ran = ap (λ o. run_then o (λ next. system_run_from M next (map (λ x. x.thread) es))) ran.1.steps ∙ run_entries es ran.0 r ran.2

  -- entries that are kept interrupt nobody
  pub kept_at : (es : List Entry) (q r : S) → Run M q es r → are_kept es ≡ true → (k t u : ℕ) (z : S) → slice_get (map (λ e. e.thread) es) k ≡ Some t → slice_get (map (λ e. e.thread) es) (suc k) ≡ Some u
      → system_run_from M q (take (suc k) (map (λ e. e.thread) es)) ≡ Some z → M.inside (M.own z t) ≡ true → u ≡ t
  kept_at [] q r ran kept k t u z here next to is = absurd cc
  kept_at (e ∷ []) q r ran kept k t u z here next to is = absurd cc
  kept_at (e ∷ f ∷ es) q r ran kept zero t u z here next to is =
      let at : ran.0 ≡ z = same_Some ran.0 z (sym (ap (λ o. run_then o (λ n. Some n)) ran.1.steps) ∙ to) in
      let mine : e.thread ≡ t = same_Some e.thread t here in
      let theirs : f.thread ≡ u = same_Some f.thread u next in
      let stands : e.inside ≡ true = sym ran.1.inside ∙ (λ i. M.inside (M.own (at i) (mine i))) ∙ is in
      sym theirs ∙ eqb-true f.thread e.thread (unless e.inside (f.thread == e.thread) ((and_parts (not e.inside || (f.thread == e.thread)) (are_kept (f ∷ es)) kept).0) stands) ∙ mine
  kept_at (e ∷ f ∷ es) q r ran kept (suc k) t u z here next to is =
      kept_at (f ∷ es) ran.0 r ran.2 ((and_parts (not e.inside || (f.thread == e.thread)) (are_kept (f ∷ es)) kept).1) k t u z here next
      (sym (ap (λ o. run_then o (λ n. system_run_from M n (take (suc k) (map (λ x. x.thread) (f ∷ es))))) ran.1.steps) ∙ to) is

  -- a thread has as many own states in a schedule that runs as it has entries
  pub count_owns : (t : ℕ) (s : List ℕ) (q : S) → IsSome (system_run_from M q s) → length (owns_from M q t s) ≡ count_by (λ u. u == t) s
  count_owns t [] q runs = refl
  count_owns t (u ∷ s) q runs = by (M.step q u) runs (λ next ran. count_owns t s next ran) ∙ sym (sum_by-cons (λ x. cond (x == t) 1 0) u s)
    where
      one : (b : Bool) (x : O) (xs : List O) → length (if b then x ∷ xs else xs) ≡ cond b 1 0 + length xs
      one true x xs = omega arith
      one false x xs = omega arith

      by : (o : Option (StepTo S)) → IsSome (run_then o (λ next. system_run_from M next s)) → ((next : S) → IsSome (system_run_from M next s) → length (owns_from M next t s) ≡ count_by (λ x. x == t) s)
          → length (system_owns_then M t u o (λ next. owns_from M next t s)) ≡ cond (u == t) 1 0 + count_by (λ x. x == t) s
      by None ran later = absurd cc
      by (Some x) ran later = one (u == t) (M.own x.to u) (owns_from M x.to t s) ∙ ap (λ n. cond (u == t) 1 0 + n) (later x.to ran)

pub schedule_is : (us : List (List Entry)) → schedule_of us ≡ map (λ e. e.thread) (flat us)
schedule_is [] = refl
schedule_is (u ∷ us) = ap (λ s. map (λ e. e.thread) u ++ s) (schedule_is us) ∙ joined u (flat us)
  where
    joined : (xs ys : List Entry) → map (λ e. e.thread) xs ++ map (λ e. e.thread) ys ≡ map (λ e. e.thread) (xs ++ ys)
    joined [] ys = refl
    joined (x ∷ xs) ys = ap (λ s. x.thread ∷ s) (joined xs ys)

-- Whole units one after the other are uninterrupted.

abbrev pub Whole : List Entry → Type 0
Whole u = is_whole u ≡ true

unit_kept : (t : ℕ) (u more : List Entry) → Each (IsOf t) u → Whole u → are_kept more ≡ true → are_kept (u ++ more) ≡ true
unit_kept t [] more one whole kept = kept
unit_kept t (e ∷ []) [] one whole kept = refl
unit_kept t (e ∷ []) (f ∷ more) one whole kept = and_from (not e.inside || (f.thread == e.thread)) (are_kept (f ∷ more)) (or_left (not e.inside) (f.thread == e.thread) whole) kept
unit_kept t (e ∷ f ∷ u) more one whole kept = and_from (not e.inside || (f.thread == e.thread)) (are_kept (f ∷ (u ++ more))) (or_right (not e.inside) (f.thread == e.thread) (eq-eqb f.thread e.thread (one.1.0 ∙ sym one.0))) (unit_kept t (f ∷ u) more one.1 whole kept)

flat_kept : (n : ℕ) (us : List (List Entry)) → Each (IsFine n) us → Each Whole us → are_kept (flat us) ≡ true
flat_kept n [] fine whole = refl
flat_kept n (u ∷ us) fine whole = unit_kept fine.0.first.thread u (flat us) fine.0.one whole.0 (flat_kept n us fine.1 whole.1)

-- Units are whole where nobody stands inside at the end.

test_or : (a b : Bool) → (if a then true else b) ≡ false → (a ≡ false) × (b ≡ false)
test_or true b e = absurd cc
test_or false b e = (refl, e)

none_added : (n t : ℕ) (e : Entry) (us : List (List Entry)) → Each (IsFine n) us → has t (added e us) ≡ false → ((e.thread == t) ≡ false) × (has t us ≡ false)
none_added n t e [] fine h = ((test_or (e.thread == t) false h).0, refl)
none_added n t e (u ∷ us) fine h = by (is_of_thread e.thread u) refl h (λ g. none_added n t e us fine.1 g)
  where
    by : (b : Bool) → is_of_thread e.thread u ≡ b → has t (if b then (e ∷ u) ∷ us else u ∷ added e us) ≡ false → (has t (added e us) ≡ false → ((e.thread == t) ≡ false) × (has t us ≡ false)) → ((e.thread == t) ≡ false) × (has t (u ∷ us) ≡ false)
    by true is g later =
        let p = test_or (e.thread == t) (has t us) g in
        let mine : is_of_thread t u ≡ false = ap (is_of_thread t) fine.0.is ∙ ap (λ k. k == t) (eqb-true fine.0.first.thread e.thread (sym (ap (is_of_thread e.thread) fine.0.is) ∙ is)) ∙ p.0 in
        (p.0, ap (λ (b : Bool). if b then true else has t us) mine ∙ p.1)
    by false is g later = let p = test_or (is_of_thread t u) (has t (added e us)) g in let q = later p.1 in (q.0, ap (λ (b : Bool). if b then true else has t us) p.0 ∙ q.1)

none_units : (t : ℕ) (es : List Entry) (n : ℕ) → Rises n es → has t (units es) ≡ false → Each (λ x. x.thread ≡ t → ⊥) es
none_units t [] n rises h = tt
none_units t (e ∷ es) n rises h = by e.inside h (λ g. none_units t es (suc e.place) rises.1 g)
  where
    apart : (e.thread == t) ≡ false → e.thread ≡ t → ⊥
    apart differ same = absurd (let c : true ≡ false = sym (eq-eqb e.thread t same) ∙ differ in cc)

    by : (b : Bool) → has t (if b then added e (units es) else (e ∷ []) ∷ units es) ≡ false → (has t (units es) ≡ false → Each (λ x. x.thread ≡ t → ⊥) es) → Each (λ x. x.thread ≡ t → ⊥) (e ∷ es)
    by true g later = let p = none_added (suc e.place) t e (units es) (fine_units es (suc e.place) rises.1) g in (apart p.0, later p.1)
    by false g later = let p = test_or (e.thread == t) (has t (units es)) g in (apart p.0, later p.1)

module _ {S O : Type 0} {M : System S O} {IsSound : S → Type 0} (laws : HasMovers M IsSound) where
  -- a thread without entries keeps its own
  thread_stays : (t : ℕ) (es : List Entry) (q r : S) → IsThreadOfSystem M q t → Each (λ x. x.thread ≡ t → ⊥) es → Run M q es r → M.own r t ≡ M.own q t
  thread_stays t [] q r there other ran = ap (λ z. M.own z t) (sym ran)
  thread_stays t (e ∷ es) q r there other ran =
      thread_stays t es ran.0 r (fits_grow laws q ran.0 e ran.1 t there) other.1 ran.2
      ∙ laws.own q ran.0 e.thread t e.kind other.0 ran.1.steps there

  whole_added : (n : ℕ) (e : Entry) (us : List (List Entry)) → Each (IsFine n) us → Each Whole us → has e.thread us ≡ true → Each Whole (added e us)
  whole_added n e [] fine whole h = absurd cc
  whole_added n e (u ∷ us) fine whole h = by (is_of_thread e.thread u) refl (λ g. whole_added n e us fine.1 whole.1 g)
    where
      longer : is_whole (e ∷ u) ≡ is_whole u
      longer = subst (λ v. is_whole (e ∷ v) ≡ is_whole v) (sym fine.0.is) refl

      by : (b : Bool) → is_of_thread e.thread u ≡ b → (has e.thread us ≡ true → Each Whole (added e us)) → Each Whole (if b then (e ∷ u) ∷ us else u ∷ added e us)
      by true is later = (longer ∙ whole.0, whole.1)
      by false is later = (whole.0, later (sym (ap (λ (b : Bool). if b then true else has e.thread us) is) ∙ h))

  pub whole_units : (es : List Entry) (n : ℕ) → Rises n es → (q r : S) → Run M q es r → NobodyInside M r → Each Whole (units es)
  whole_units [] n rises q r ran closed = tt
  whole_units (e ∷ es) n rises q r ran closed = by e.inside refl (whole_units es (suc e.place) rises.1 ran.0 r ran.2 closed)
    where
      there : IsThreadOfSystem M ran.0 e.thread
      there = fits_grow laws q ran.0 e ran.1 e.thread (fits_there laws q ran.0 e ran.1)

      goes_on : e.inside ≡ true → (h : Bool) → has e.thread (units es) ≡ h → has e.thread (units es) ≡ true
      goes_on is true h = h
      goes_on is false h = absurd (let stays = thread_stays e.thread es ran.0 r there (none_units e.thread es (suc e.place) rises.1 h) ran.2 in
          let c : false ≡ true = sym (closed e.thread (run_grows laws es ran.0 r ran.2 e.thread there)) ∙ ap M.inside stays ∙ ran.1.inside ∙ is in cc)

      by : (b : Bool) → e.inside ≡ b → Each Whole (units es) → Each Whole (if b then added e (units es) else (e ∷ []) ∷ units es)
      by true is later = whole_added (suc e.place) e (units es) (fine_units es (suc e.place) rises.1) later (goes_on is (has e.thread (units es)) refl)
      by false is later = (ap not is, later)

pub each_from : {A : Type 0} (Q : A → Type 0) (xs : List A) → ((i : ℕ) (x : A) → slice_get xs i ≡ Some x → Q x) → Each Q xs
each_from Q [] h = tt
each_from Q (x ∷ xs) h = (h 0 x refl, each_from Q xs (λ i y e. h (suc i) y e))

-- a reducible word has no Bare
word_first : (k : StepKind) (ks : List StepKind) → is_reducible (k ∷ ks) ≡ true → k ≢ Bare
word_first Both ks h = λ e. cc
word_first Right ks h = λ e. cc
word_first Left ks h = λ e. cc
word_first Other ks h = λ e. cc
word_first Bare ks h = absurd cc

added_not_bare : (e : Entry) (us : List (List Entry)) → Each HasWord (added e us) → NotBare e
added_not_bare e [] h = word_first e.kind [] h.0
added_not_bare e (u ∷ us) h = by (is_of_thread e.thread u) h (λ g. added_not_bare e us g)
  where
    by : (b : Bool) → Each HasWord (if b then (e ∷ u) ∷ us else u ∷ added e us) → (Each HasWord (added e us) → NotBare e) → NotBare e
    by true g later = word_first e.kind (word_of u) g.0
    by false g later = later g.1

pub none_bare : (es : List Entry) → Each HasWord (units es) → Each NotBare es
none_bare [] h = tt
none_bare (e ∷ es) h = (by e.inside h, none_bare es (words_later e es h))
  where
    by : (b : Bool) → Each HasWord (if b then added e (units es) else (e ∷ []) ∷ units es) → NotBare e
    by true g = added_not_bare e (units es) g
    by false g = word_first e.kind [] g.0

next_place : (place : ℕ) → suc place ≡ place + 1
next_place place = omega arith

module _ {S O : Type 0} {M : System S O} {IsSound : S → Type 0} (laws : HasMovers M IsSound) where
  -- the written order of a schedule whose units are whole and have reducible words
  written_whole : (s : List ℕ) (q r : S) → IsSound q → system_run_from M q s ≡ Some r → Each Whole (units (system_entries_from M q 0 s)) → Each HasWord (units (system_entries_from M q 0 s)) → IsSerialOrder M q s (written_from M q s) r
  written_whole s q r sound ran whole each_word =
      let es = system_entries_from M q 0 s in
      let start = entries_run M s q r 0 ran in
      let rises = entries_rise M s q 0 in
      let becomes = sorted laws es 0 rises (none_bare es each_word) each_word q r sound start in
      let ys = flat (in_order (units es)) in
      let same : written_from M q s ≡ map (λ e. e.thread) ys = schedule_is (in_order (units es)) in
      let runs : system_run_from M q (written_from M q s) ≡ Some r = ap (system_run_from M q) same ∙ run_entries M ys q r becomes.run in
      let all = entries_all M s q 0 (ap is_some ran) in
      let owns : (t : ℕ) → owns_from M q t s ≡ owns_from M q t (written_from M q s) = λ t. ap (owns_from M q t) (sym all) ∙ becomes.owns t ∙ ap (owns_from M q t) (sym same) in
      let kept : are_kept ys ≡ true = flat_kept 0 (in_order (units es)) (each_in_order (IsFine 0) (units es) (fine_units es 0 rises)) (each_in_order Whole (units es) whole) in
      record {
        rearranges = λ t. sym (count_owns M t s q (ap is_some ran)) ∙ ap length (owns t) ∙ count_owns M t (written_from M q s) q (ap is_some runs);
        runs = runs;
        uninterrupted = subst (IsBlockwise M q) (sym same) (record {
          runs = ap is_some (run_entries M ys q r becomes.run);
          kept = λ place t u z here next to is. kept_at M ys q r becomes.run kept place t u z here
              (ap (slice_get (map (λ e. e.thread) ys)) (next_place place) ∙ next) (ap (λ n. system_run_from M q (take n (map (λ e. e.thread) ys))) (next_place place) ∙ to) is;
        });
        owns = owns;
      }

  -- the written order of a schedule that ends with nobody inside, and whose units have reducible words
  pub written : (s : List ℕ) (q r : S) → IsSound q → system_run_from M q s ≡ Some r → NobodyInside M r
      → ((n : ℕ) (u : List Entry) → slice_get (units (system_entries_from M q 0 s)) n ≡ Some u → IsReducible (word_of u)) → IsSerialOrder M q s (written_from M q s) r
  written s q r sound ran closed words =
      written_whole s q r sound ran
      (whole_units laws (system_entries_from M q 0 s) 0 (entries_rise M s q 0) q r (entries_run M s q r 0 ran) closed)
      (each_from HasWord (units (system_entries_from M q 0 s)) (λ n u at. is_reducible_of (word_of u) (words n u at)))
