-- Going through a schedule with the machine beside.
use Rattle.std.proofs.Common.{◌≡◌, ◌⊎◌, inl, inr, ℕ, ◌+◌, ◌≤◌, Bool, true, false, List, [], ◌++◌, Some, None, refl, ap, subst, arith}
use Rattle.std.specs.Prelude.{Option, Result, Ok, Err, OnOk, nat_lt, length, take, slice_get}
use Rattle.std.proofs.lemmas.Bool.{ltb-true, ltb-false}
use Rattle.std.proofs.lemmas.Option.{same_Some}
use Rattle.core_program.specs.Core.{Program}
use Rattle.state.specs.States.{State, initial}
use Rattle.semantics.specs.Step.{Outcome, Moves, Absent, IsDone, HadFaulted, Waits, moved, state_after, step}
use Rattle.semantics.specs.Run.{run, inside, IsUninterrupted}
use Rattle.machine.specs.MachineValue.{MachineValue}
use Rattle.machine.specs.Standing.{StandsFor}
use Rattle.replay.specs.Records.{Told, AreCallsTold, HasNoDeep, IsFirstTooDeep}
use Rattle.replay.specs.Scanning.{Begun, Goes, Deep, next_of}
use Rattle.replay.specs.declared.calls.ReplayEnd.{ReplayEnd}
use Rattle.replay.specs.declared.calls.ReplayEnd.TheVariants as ends
use Rattle.replay.specs.Views.{IsDeepEnd}
use Rattle.serialise.specs.Calls.{AreCalls}
use Rattle.serialise.specs.Made.{IsMadeStep}
use Rattle.serialise.proofs.Running.{no_calls}
use Rattle.serialise.specs.declared.step.Step.{Step}
use Rattle.serialise.specs.Tables.{value_or}
use Rattle.replay.proofs.Schedules.{prefix_runs, entry_steps}
use Rattle.replay.proofs.Scan.{first_outside, told_none}
use Rattle.replay.proofs.ScanEnds.{all_told, no_deep}
use Rattle.replay.proofs.Scanned.{Scanned, goes_right, deep_right}

-- what holds in any case
pub on_ok : {T E A : Type 0} (r : Result T E) → A → OnOk r A
on_ok (Ok x) a = a
on_ok (Err e) a = tt

-- a step that was made and noted is that of the definition
pub was_made : (P : Program) (t : ℕ) (q r : State) (m : MachineValue) (x : Step) (inner : ℕ → ℕ) (o : Outcome) → IsMadeStep P t q m x inner o → state_after q t o ≡ Some r
    → (x.inside ≡ inside P r t) × StandsFor m r × AreCalls P r inner
was_made P t q r m x inner (Moves move) (is, stands, are) e =
    let same : moved t move q ≡ r = same_Some (moved t move q) r e in
    subst (λ z. (x.inside ≡ inside P z t) × StandsFor m z × AreCalls P z inner) same (ap (λ y. y.inside) is, stands, are)
was_made P t q r m x inner Absent made e = absurd made
was_made P t q r m x inner IsDone made e = absurd made
was_made P t q r m x inner (HadFaulted kind) made e = absurd made
was_made P t q r m x inner (Waits a holder) made e = absurd made

module _ (P : Program) (s : List ℕ) where
  -- after so many entries: the machine's state, in how many atomic calls each thread stands, and what is told and open
  abbrev pub Reached : MachineValue → (ℕ → ℕ) → ℕ → List Told → Option Begun → Type 0
  Reached m inner n calls o = (q : State) × (run P (take n s) ≡ Some q) × StandsFor m q × AreCalls P q inner × ((alone : IsUninterrupted P s) → Scanned P s alone n q calls o)

  pub reached_none : (m : MachineValue) → StandsFor m (initial P) → Reached m (value_or 0 []) 0 [] None
  reached_none m stands = (initial P, refl, stands, no_calls P, λ alone. record { told = told_none P s alone; stands = first_outside P })

  abbrev pub Out : Type 0
  Out = (z : State) → run P s ≡ Some z → (u : ℕ) → inside P z u ≡ false

  pub reached_more : IsUninterrupted P s → Out → (m new : MachineValue) (inner later : ℕ → ℕ) (n t : ℕ) (calls more : List Told) (o o2 : Option Begun) → slice_get s n ≡ Some t → Reached m inner n calls o
      → ((q r : State) → StandsFor m q → AreCalls P q inner → step P q t ≡ Some r → next_of P q r (n + 1) t o ≡ Goes o2 more)
      → ((q r : State) → StandsFor m q → AreCalls P q inner → step P q t ≡ Some r → StandsFor new r × AreCalls P r later) → Reached new later (n + 1) (calls ++ more) o2
  reached_more alone out m new inner later n t calls more o o2 is_entry (q, at, stands, are, scanned) adds comes =
      let r = prefix_runs P s (n + 1) alone.runs in
      let stepped = entry_steps P s n t q r.0 is_entry at r.1 in
      let came = comes q r.0 stands are stepped in
      (r.0, r.1, came.0, came.1, λ here. goes_right P s here out n t q r.0 at r.1 is_entry stepped calls o o2 more (scanned here) (adds q r.0 stands are stepped))

  pub reached_deep : IsUninterrupted P s → Out → (m : MachineValue) (inner : ℕ → ℕ) (n t entry : ℕ) (calls : List Told) (o : Option Begun) → slice_get s n ≡ Some t → Reached m inner n calls o
      → ((q r : State) → StandsFor m q → AreCalls P q inner → step P q t ≡ Some r → next_of P q r (n + 1) t o ≡ Deep entry) → IsFirstTooDeep P s entry
  reached_deep alone out m inner n t entry calls o is_entry (q, at, stands, are, scanned) adds =
      let r = prefix_runs P s (n + 1) alone.runs in
      let stepped = entry_steps P s n t q r.0 is_entry at r.1 in
      deep_right P s alone out n t q r.0 at r.1 is_entry stepped calls o entry (scanned alone) (adds q r.0 stands are stepped)

  pub reached_end : IsUninterrupted P s → Out → (m : MachineValue) (inner : ℕ → ℕ) (n t : ℕ) (calls : List Told) (o : Option Begun) → slice_get s n ≡ Some t → Reached m inner n calls o → (end : ReplayEnd)
      → ((q r : State) → StandsFor m q → AreCalls P q inner → step P q t ≡ Some r → IsDeepEnd end (next_of P q r (n + 1) t o)) → (entry : ℕ) → end ≡ ends.TooDeep entry → IsFirstTooDeep P s entry
  reached_end alone out m inner n t calls o is_entry reached end says entry is =
      reached_deep alone out m inner n t entry calls o is_entry reached (λ q r stands are e. subst (λ x. IsDeepEnd x (next_of P q r (n + 1) t o)) is (says q r stands are e))

  pub reached_all : IsUninterrupted P s → (m : MachineValue) (inner : ℕ → ℕ) (n : ℕ) (calls : List Told) (o : Option Begun) → length s ≤ n → Reached m inner n calls o → AreCallsTold P s calls × HasNoDeep P s
  reached_all alone m inner n calls o past (q, at, stands, are, scanned) = (all_told P s alone calls n past (scanned alone).told, no_deep P s alone calls n past (scanned alone).told)

  -- there is one first call that is too deep
  pub one_deep : (a b : ℕ) → IsFirstTooDeep P s a → IsFirstTooDeep P s b → a ≡ b
  one_deep a b x y = by_place (nat_lt x.place y.place) refl (nat_lt y.place x.place) refl
    where
      by_place : (c : Bool) → nat_lt x.place y.place ≡ c → (d : Bool) → nat_lt y.place x.place ≡ d → a ≡ b
      by_place true e d f = absurd (y.first x.place x.steps x.thread x.before x.after x.call (ltb-true x.place y.place e) x.deep)
      by_place false e true f = absurd (x.first y.place y.steps y.thread y.before y.after y.call (ltb-true y.place x.place f) y.deep)
      by_place false e false f = let l = ltb-false x.place y.place e in let m = ltb-false y.place x.place f in let i = x.entry_is in let j = y.entry_is in omega (arith, l, m, i, j)

  pub deep_not_few : (a : ℕ) → IsFirstTooDeep P s a → HasNoDeep P s → ⊥
  deep_not_few a x none = none x.place x.steps x.thread x.before x.after x.call x.deep

  -- which end it is, where a call is too deep
  pub which_end : (end : ReplayEnd) → ((entry : ℕ) → end ≡ ends.TooDeep entry → IsFirstTooDeep P s entry) → (entry : ℕ) → IsFirstTooDeep P s entry → (end ≡ ends.TooDeep entry) ⊎ (end ≡ ends.NoMemory)
  which_end (ends.TooDeep first) says entry deep = inl (ap ends.TooDeep (one_deep first entry (says first refl) deep))
  which_end ends.NoMemory says entry deep = inr refl
