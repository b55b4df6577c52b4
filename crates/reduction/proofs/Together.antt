-- Where units that are left open are last, calls stand together.
use Rattle.std.proofs.Common.{◌≡◌, ℕ, zero, suc, ◌+◌, ◌<◌, ◌≤◌, ◌==◌, Bool, true, false, not, ◌||◌, List, [], ◌∷◌, ◌++◌, refl, sym, ap, subst, ◌∙◌, Some, arith}
use Rattle.std.specs.Prelude.{map, take, slice_get, is_some}
use Rattle.std.proofs.lemmas.Bool.{eqb-true, eq-eqb, or_right, or_left}
use Rattle.semantics.specs.Units.{Entry, is_of_thread, is_whole}
use Rattle.reduction.specs.Runs.{FitsEntry, Run}
use Rattle.reduction.specs.Systems.{System, run_then, system_run_from}
use Rattle.reduction.proofs.Whole.{run_entries}
use Rattle.reduction.proofs.Shape.{Each, flat, has, IsOf, IsFine}
use Rattle.reduction.specs.Gathering.{AreBlocksWhole}
use Rattle.reduction.proofs.LastUnits.{AreLast, none_first}

-- the threads of entries, with whether they stand inside after them
abbrev pub marks : List Entry → List (ℕ × Bool)
marks es = map (λ e. (e.thread, e.inside)) es

-- whether some mark is of this thread, and whether the first one is
abbrev pub some_of : ℕ → List (ℕ × Bool) → Bool
some_of t [] = false
some_of t (m ∷ ms) = (m.0 == t) || some_of t ms

abbrev pub first_of : ℕ → List (ℕ × Bool) → Bool
first_of t [] = false
first_of t (m ∷ ms) = m.0 == t

-- behind an entry after which its thread stands inside the thread's next entry comes first, where there is one
abbrev pub AreTogether : List (ℕ × Bool) → Type 0
AreTogether [] = Unit {0}
AreTogether (m ∷ ms) = (m.1 ≡ true → some_of m.0 ms ≡ true → first_of m.0 ms ≡ true) × AreTogether ms

-- Units one after the other.

no_marks : (t : ℕ) (n : ℕ) (us : List (List Entry)) → Each (IsFine n) us → has t us ≡ false → some_of t (marks (flat us)) ≡ false
no_marks t n [] fine none = refl
no_marks t n (u ∷ us) fine none = let p = none_first t u us none in of_unit u fine.0.one (sym (ap (is_of_thread t) fine.0.is) ∙ p.0) (no_marks t n us fine.1 p.1)
  where
    of_unit : (es : List Entry) → Each (IsOf fine.0.first.thread) es → (fine.0.first.thread == t) ≡ false → some_of t (marks (flat us)) ≡ false → some_of t (marks (es ++ flat us)) ≡ false
    of_unit [] one other rest = rest
    of_unit (e ∷ es) one other rest = ap (λ b. b || some_of t (marks (es ++ flat us))) (ap (λ k. k == t) one.0 ∙ other) ∙ of_unit es one.1 other rest

unit_together : (t : ℕ) (u more : List Entry) → Each (IsOf t) u → (is_whole u ≡ false → some_of t (marks more) ≡ false) → AreTogether (marks more) → AreTogether (marks (u ++ more))
unit_together t [] more one last rest = rest
unit_together t (e ∷ []) more one last rest = (λ is some. absurd (let none = last (ap not is) in let c : false ≡ true = sym none ∙ ap (λ k. some_of k (marks more)) (sym one.0) ∙ some in cc), rest)
unit_together t (e ∷ f ∷ u) more one last rest = (λ is some. eq-eqb f.thread e.thread (one.1.0 ∙ sym one.0), unit_together t (f ∷ u) more one.1 last rest)

pub flat_together : (n : ℕ) (us : List (List Entry)) → Each (IsFine n) us → AreLast us → AreTogether (marks (flat us))
flat_together n [] fine last = tt
flat_together n (u ∷ us) fine last =
    unit_together fine.0.first.thread u (flat us) fine.0.one (λ left. no_marks fine.0.first.thread n us fine.1 (last.0 fine.0.first.thread own left)) (flat_together n us fine.1 last.1)
  where
    own : is_of_thread fine.0.first.thread u ≡ true
    own = ap (is_of_thread fine.0.first.thread) fine.0.is ∙ eq-eqb fine.0.first.thread fine.0.first.thread refl

-- From marks to schedules.

-- the threads of entries
abbrev threads : List Entry → List ℕ
threads es = map (λ e. e.thread) es

some_here : (es : List Entry) (t last : ℕ) → slice_get (threads es) last ≡ Some t → some_of t (marks es) ≡ true
some_here [] t last at = absurd cc
some_here (e ∷ es) t zero at = let same : e.thread ≡ t = cc in or_left (e.thread == t) _ (eq-eqb e.thread t same)
some_here (e ∷ es) t (suc l) at = or_right (e.thread == t) _ (some_here es t l at)

module _ {S O : Type 0} (M : System S O) where
  -- as StaysInBlock, one place further
  abbrev Stays : S → List ℕ → (t first last : ℕ) → Type 0
  Stays q s t first last = (place : ℕ) (r : S) → first ≤ place → place < last → system_run_from M q (take (suc place) s) ≡ Some r → M.inside (M.own r t) ≡ true

  -- the same behind a first entry
  abbrev StaysBehind : S → List ℕ → (t first last : ℕ) → Type 0
  StaysBehind q s t first last = (place : ℕ) (r : S) → first ≤ place → place < last → system_run_from M q (take place s) ≡ Some r → M.inside (M.own r t) ≡ true

  -- all entries before one of a thread are of that thread, where the first one is and the thread stays inside
  abbrev Goes : S → List Entry → Type 0
  Goes q es = (t last : ℕ) → slice_get (threads es) last ≡ Some t → first_of t (marks es) ≡ true → Stays q (threads es) t 0 last → (place u : ℕ) → place < last → slice_get (threads es) place ≡ Some u → u ≡ t

  abbrev Holds : S → List Entry → Type 0
  Holds q es = (t first last : ℕ) → slice_get (threads es) first ≡ Some t → slice_get (threads es) last ≡ Some t → Stays q (threads es) t first last → (place u : ℕ) → first < place → place < last → slice_get (threads es) place ≡ Some u → u ≡ t

  module _ (q mid : S) (e : Entry) (es : List Entry) (fits : FitsEntry M q e mid) (together : e.inside ≡ true → some_of e.thread (marks es) ≡ true → first_of e.thread (marks es) ≡ true) where
    stays_behind : (t first last : ℕ) → Stays q (threads (e ∷ es)) t first last → StaysBehind mid (threads es) t first last
    stays_behind t first last stays p r low less is = stays p r low less (ap (λ o. run_then o (λ next. system_run_from M next (take p (threads es)))) fits.steps ∙ is)

    -- the entry after which the thread stands inside is followed by one of it
    next_first : (t : ℕ) → e.thread ≡ t → M.inside (M.own mid t) ≡ true → (l : ℕ) → slice_get (threads es) l ≡ Some t → first_of t (marks es) ≡ true
    next_first t same stands l at =
        subst (λ x. first_of x (marks es) ≡ true) same
        (together (sym fits.inside ∙ ap (λ x. M.inside (M.own mid x)) same ∙ stands) (subst (λ x. some_of x (marks es) ≡ true) (sym same) (some_here es t l at)))

    goes_on : Goes mid es → (t last : ℕ) → slice_get (threads (e ∷ es)) last ≡ Some t → e.thread ≡ t → StaysBehind mid (threads es) t 0 last → (place u : ℕ) → place < last → slice_get (threads (e ∷ es)) place ≡ Some u → u ≡ t
    goes_on further t last at same stays zero u less here = let other : e.thread ≡ u = cc in sym other ∙ same
    goes_on further t zero at same stays (suc place) u less here = absurd (omega (arith, less))
    goes_on further t (suc l) at same stays (suc place) u less here =
        further t l at (next_first t same (stays 0 mid (omega arith) (omega arith) refl) l at) (λ p r low lt is. stays (suc p) r (omega arith) (omega (arith, lt)) is) place u (omega (arith, less)) here

    holds_on : Goes mid es → Holds mid es → (t first last : ℕ) → slice_get (threads (e ∷ es)) first ≡ Some t → slice_get (threads (e ∷ es)) last ≡ Some t → StaysBehind mid (threads es) t first last
        → (place u : ℕ) → first < place → place < last → slice_get (threads (e ∷ es)) place ≡ Some u → u ≡ t
    holds_on front further t first last begin at stays zero u low less here = absurd (omega (arith, low))
    holds_on front further t first zero begin at stays (suc place) u low less here = absurd (omega (arith, less))
    holds_on front further t zero (suc l) begin at stays (suc place) u low less here =
        let same : e.thread ≡ t = cc in
        front t l at (next_first t same (stays 0 mid (omega arith) (omega arith) refl) l at) (λ p r zero_low lt is. stays (suc p) r (omega arith) (omega (arith, lt)) is) place u (omega (arith, less)) here
    holds_on front further t (suc f) (suc l) begin at stays (suc place) u low less here =
        further t f l begin at (λ p r f_low lt is. stays (suc p) r (omega (arith, f_low)) (omega (arith, lt)) is) place u (omega (arith, low)) (omega (arith, less)) here

  goes : (es : List Entry) (q r : S) → Run M q es r → AreTogether (marks es) → Goes q es
  goes [] q r ran together = λ t last at first stays place u less here. absurd cc
  goes (e ∷ es) q r ran together = λ t last at first stays place u less here.
      goes_on q ran.0 e es ran.1 together.0 (goes es ran.0 r ran.2 together.1) t last at (eqb-true e.thread t first) (stays_behind q ran.0 e es ran.1 together.0 t 0 last stays) place u less here

  holds : (es : List Entry) (q r : S) → Run M q es r → AreTogether (marks es) → Holds q es
  holds [] q r ran together = λ t first last begin at stays place u low less here. absurd cc
  holds (e ∷ es) q r ran together = λ t first last begin at stays place u low less here.
      holds_on q ran.0 e es ran.1 together.0 (goes es ran.0 r ran.2 together.1) (holds es ran.0 r ran.2 together.1) t first last begin at (stays_behind q ran.0 e es ran.1 together.0 t first last stays) place u low less here

  next_place : (place : ℕ) → suc place ≡ place + 1
  next_place place = omega arith

  pub whole : (es : List Entry) (q r : S) → Run M q es r → AreTogether (marks es) → AreBlocksWhole M q (map (λ e. e.thread) es)
  whole es q r ran together = record {
    runs = ap is_some (run_entries M es q r ran);
    together = λ t first last begin at stays place u low less here.
        holds es q r ran together t first last begin at (λ p z f_low lt is. stays p z f_low lt (ap (λ n. system_run_from M q (take n (threads es))) (sym (next_place p)) ∙ is)) place u low less here;
  }
