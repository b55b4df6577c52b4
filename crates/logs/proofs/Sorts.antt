-- What a turn is about: a lock, a place or a thread; and what it then finds and leaves.
use Rattle.std.proofs.Common.{◌≡◌, ℕ, zero, suc, ◌==◌, Bool, true, false, ◌⊎◌, inl, inr, refl, sym, ap, ◌∙◌, Some, None}
use Rattle.std.specs.Prelude.{Option}
use Rattle.std.proofs.lemmas.Bool.{eqb-true}
use Rattle.std.proofs.lemmas.Option.{same_Some}
use Rattle.state.specs.declared.value.StepKind.{StepKind}
use Rattle.state.specs.declared.value.StepKind.TheVariants.{Both, Right, Left}
use Rattle.logs.specs.Events.{Word, Event, Take, Give, Access, Start, Join, Stop, Begin, End}
use Rattle.logs.specs.Memory.{LogHold, Absent, Present, Ended, SharedCell, AtLock, AtPlace, AtThread, Content, Lock, Value, Thread}
use Rattle.logs.specs.Turns.{cell_of, Turn, only_if, take_turn, turn_of_holder, give_turn, saw_content, left_in, access_turn, start_turn, join_turn, own_turn, turn_by_content}

-- a lock that a thread finds or leaves: free, with this kind of step, or held by it
abbrev pub Gripped : ℕ → StepKind → StepKind → Content → Type 0
Gripped t free k c = ((c ≡ Lock None) × (k ≡ free)) ⊎ ((h : LogHold) × (c ≡ Lock (Some h)) × (h.by ≡ t))

-- what a thread's turn of this kind makes of its cell
pub data Sort (t : ℕ) (kind k : StepKind) (c d : Content) : SharedCell → Type 0 where
  of_lock : {l : ℕ} → Gripped t Right k c → Gripped t Left k d → Sort t kind k c d (AtLock l)
  of_place : {p : ℕ} → k ≡ kind → Sort t kind k c d (AtPlace p)
  of_start : {u : ℕ} → c ≡ Thread Absent → d ≡ Thread Present → k ≡ Left → Sort t kind k c d (AtThread u)
  of_join : {u : ℕ} → c ≡ Thread Ended → d ≡ Thread Ended → k ≡ Right → Sort t kind k c d (AtThread u)
  of_own : c ≡ Thread Present → (d ≡ Thread Present) ⊎ ((d ≡ Thread Ended) × (k ≡ Left)) → Sort t kind k c d (AtThread t)

module _ (t : ℕ) (kind : StepKind) where
  -- a turn that there is, by the test of its thread
  tested : (b : Bool) (x y : Turn) → only_if b x ≡ Some y → (b ≡ true) × (x ≡ y)
  tested true x y e = (refl, same_Some x y e)
  tested false x y e = absurd cc

  take_sort : (l : ℕ) (c : Content) (y : Turn) → take_turn t c ≡ Some y → Sort t kind y.kind c y.content (AtLock l)
  take_sort l (Lock None) y e =
      let same = same_Some _ y e in
      of_lock (inl (refl, ap (λ (x : Turn). x.kind) (sym same))) (inr (record { by = t; more = 0 }, ap (λ (x : Turn). x.content) (sym same), refl))
  take_sort l (Lock (Some h)) y e =
      let p = tested (h.by == t) (record { kind = Both; content = Lock (Some (record { by = t; more = suc h.more })) }) y e in
      of_lock (inr (h, refl, eqb-true h.by t p.0)) (inr (record { by = t; more = suc h.more }, ap (λ (x : Turn). x.content) (sym p.1), refl))
  take_sort l (Value v) y e = absurd cc
  take_sort l (Thread p) y e = absurd cc

  give_sort : (l : ℕ) (c : Content) (y : Turn) → give_turn t c ≡ Some y → Sort t kind y.kind c y.content (AtLock l)
  give_sort l (Lock None) y e = absurd cc
  give_sort l (Lock (Some h)) y e =
      let p = tested (h.by == t) (turn_of_holder t h.more) y e in
      of_lock (inr (h, refl, eqb-true h.by t p.0)) (by h.more p.1)
    where
      by : (n : ℕ) → turn_of_holder t n ≡ y → Gripped t Left y.kind y.content
      by zero same = inl (ap (λ (x : Turn). x.content) (sym same), ap (λ (x : Turn). x.kind) (sym same))
      by (suc n) same = inr (record { by = t; more = n }, ap (λ (x : Turn). x.content) (sym same), refl)
  give_sort l (Value v) y e = absurd cc
  give_sort l (Thread p) y e = absurd cc

  access_sort : (p : ℕ) (seen left : Option Word) (c : Content) (y : Turn) → access_turn kind seen left c ≡ Some y → Sort t kind y.kind c y.content (AtPlace p)
  access_sort p seen left (Lock o) y e = absurd cc
  access_sort p seen left (Value v) y e = let q = tested (saw_content seen v) (record { kind = kind; content = Value (left_in left v) }) y e in of_place (ap (λ (x : Turn). x.kind) (sym q.1))
  access_sort p seen left (Thread o) y e = absurd cc

  start_sort : (u : ℕ) (c : Content) (y : Turn) → start_turn c ≡ Some y → Sort t kind y.kind c y.content (AtThread u)
  start_sort u (Lock o) y e = absurd cc
  start_sort u (Value v) y e = absurd cc
  start_sort u (Thread Absent) y e = let same = same_Some _ y e in of_start refl (ap (λ (x : Turn). x.content) (sym same)) (ap (λ (x : Turn). x.kind) (sym same))
  start_sort u (Thread Present) y e = absurd cc
  start_sort u (Thread Ended) y e = absurd cc

  join_sort : (u : ℕ) (c : Content) (y : Turn) → join_turn c ≡ Some y → Sort t kind y.kind c y.content (AtThread u)
  join_sort u (Lock o) y e = absurd cc
  join_sort u (Value v) y e = absurd cc
  join_sort u (Thread Absent) y e = absurd cc
  join_sort u (Thread Present) y e = absurd cc
  join_sort u (Thread Ended) y e = let same = same_Some _ y e in of_join refl (ap (λ (x : Turn). x.content) (sym same)) (ap (λ (x : Turn). x.kind) (sym same))

  -- a thread that is there goes on or ends
  own_sort : (x : Turn) → (x.content ≡ Thread Present) ⊎ ((x.content ≡ Thread Ended) × (x.kind ≡ Left)) → (c : Content) (y : Turn) → own_turn x c ≡ Some y → Sort t kind y.kind c y.content (AtThread t)
  own_sort x leaves (Lock o) y e = absurd cc
  own_sort x leaves (Value v) y e = absurd cc
  own_sort x leaves (Thread Absent) y e = absurd cc
  own_sort x leaves (Thread Present) y e = let same = same_Some x y e in of_own refl (by same leaves)
    where
      by : x ≡ y → (x.content ≡ Thread Present) ⊎ ((x.content ≡ Thread Ended) × (x.kind ≡ Left)) → (y.content ≡ Thread Present) ⊎ ((y.content ≡ Thread Ended) × (y.kind ≡ Left))
      by same (inl is) = inl (ap (λ (z : Turn). z.content) (sym same) ∙ is)
      by same (inr is) = inr (ap (λ (z : Turn). z.content) (sym same) ∙ is.0, ap (λ (z : Turn). z.kind) (sym same) ∙ is.1)
  own_sort x leaves (Thread Ended) y e = absurd cc

  pub sorted : (e : Event) (c : Content) (y : Turn) → turn_by_content kind e t c ≡ Some y → Sort t kind y.kind c y.content (cell_of t e)
  sorted (Take l) c y e = take_sort l c y e
  sorted (Give l) c y e = give_sort l c y e
  sorted (Access p seen left) c y e = access_sort p seen left c y e
  sorted (Start u) c y e = start_sort u c y e
  sorted (Join u) c y e = join_sort u c y e
  sorted Stop c y e = own_sort (record { kind = Left; content = Thread Ended }) (inr (refl, refl)) c y e
  sorted (Begin name) c y e = own_sort (record { kind = Both; content = Thread Present }) (inl refl) c y e
  sorted End c y e = own_sort (record { kind = Both; content = Thread Present }) (inl refl) c y e
