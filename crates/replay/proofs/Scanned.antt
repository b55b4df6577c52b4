-- One entry more of a schedule, and what it adds.
use Rattle.std.proofs.Common.{◌≡◌, ◌==◌, ℕ, zero, suc, ◌+◌, Bool, true, false, List, [], ◌∷◌, ◌++◌, Some, None, refl, sym, ap, subst, ◌∙◌, arith, append-nil}
use Rattle.std.specs.Prelude.{ℤ, Option, nat_lt, length, take, drop, slice_get, if◌then◌else◌}
use Rattle.std.proofs.lemmas.Bool.{ltb-true, ltb-false, eqb-true, eqb-false}
use Rattle.std.proofs.lemmas.Option.{none-some, same_Some, slice_get_within}
use Rattle.core_program.specs.Core.{Program}
use Rattle.state.specs.States.{Thread, State}
use Rattle.semantics.specs.Step.{Move, Outcome, Moves, Absent, IsDone, HadFaulted, Waits, moved, outcome, step, state_after, has_result}
use Rattle.semantics.specs.Run.{run, inside, is_inside_some, IsUninterrupted}
use Rattle.semantics.proofs.StepCases.{absent_is}
use Rattle.replay.specs.Plain.{plain_of}
use Rattle.replay.specs.Evaluation.{most_depth}
use Rattle.replay.specs.Calls.{Asked, asked_by, depth, result_in}
use Rattle.replay.specs.Records.{Told, IsFirstTooDeep}
use Rattle.replay.specs.Scanning.{Begun, NextScan, Goes, Deep, entered_in, begun_in, told_call, low_or_deep, next_by, next_of}
use Rattle.replay.proofs.Opens.{opening, step_prints, more_prints}
use Rattle.replay.proofs.Whole.{moved_entry}
use Rattle.replay.proofs.Scan.{others_outside, IsOpen, IsLow, IsBehind, Told_to, told_on, outside_on, none_ends, opens, goes_on, stays, goes_none, ends_told}
use Rattle.replay.proofs.ScanEnds.{too_deep}

module _ (P : Program) (s : List ℕ) (alone : IsUninterrupted P s) where
  -- nobody stands inside, or a call is open that has few frames so far
  abbrev pub Stands : ℕ → State → List Told → Option Begun → Type 0
  Stands n q calls None = (u : ℕ) → inside P q u ≡ false
  Stands n q calls (Some b) = IsOpen P s alone true n q b × IsLow P s alone q b × IsBehind calls b

  -- what is told after so many entries, and what is open
  pub record Scanned (n : ℕ) (q : State) (calls : List Told) (open_ : Option Begun) : Type 0 where
    pub told : Told_to P s alone n calls
    pub stands : Stands n q calls open_

  -- what an answer has to say
  abbrev IsRight : ℕ → State → List Told → NextScan → Type 0
  IsRight n r calls (Goes o more) = Scanned n r (calls ++ more) o
  IsRight n r calls (Deep entry) = IsFirstTooDeep P s entry

  module _ (out : (z : State) → run P s ≡ Some z → (u : ℕ) → inside P z u ≡ false)
      (n t : ℕ) (q r : State) (at : run P (take n s) ≡ Some q) (next : run P (take (n + 1) s) ≡ Some r) (is_entry : slice_get s n ≡ Some t) (stepped : step P q t ≡ Some r) (calls : List Told) where
    none_more : (m : ℕ) (o : Option Begun) → Scanned m r calls o → Scanned m r (calls ++ []) o
    none_more m o h = subst (λ l. Scanned m r l o) (sym (append-nil calls)) h

    -- after an entry with which a call is open
    low_right : (b : Begun) → IsOpen P s alone true (n + 1) r b → Told_to P s alone (n + 1) calls → IsBehind calls b → (x : Bool) → nat_lt (b.frames + most_depth) (depth (slice_get r.threads b.thread)) ≡ x
        → IsRight (n + 1) r calls (if x then Deep b.entry else Goes (Some b) [])
    low_right b o told behind true e =
        too_deep P s alone b out (n + 1) r calls (let w = slice_get_within s n t is_entry in omega (arith, w)) next o told (ltb-true (b.frames + most_depth) (depth (slice_get r.threads b.thread)) e)
    low_right b o told behind false e = none_more (n + 1) (Some b) (record { told = told; stands = (o, ltb-false (b.frames + most_depth) (depth (slice_get r.threads b.thread)) e, behind) })

    -- a call begins
    begins : ((u : ℕ) → inside P q u ≡ false) → inside P r t ≡ true
        → (a : Asked) × (entered_in (slice_get r.threads t) ≡ Some (a.method, a.on)) × (asked_by P (plain_of q) (slice_get q.threads t) ≡ Some a)
    begins quiet ins = by_outcome (outcome P q t) refl stepped
      where
        by_move : (move : Move) → outcome P q t ≡ Moves move → moved t move q ≡ r → (a : Asked) × (entered_in (slice_get r.threads t) ≡ Some (a.method, a.on)) × (asked_by P (plain_of q) (slice_get q.threads t) ≡ Some a)
        by_move move is to =
            let entry = there_is (slice_get q.threads t) refl in
            let at_r : slice_get r.threads t ≡ Some move.thread = subst (λ (x : State). slice_get x.threads t ≡ Some move.thread) to (moved_entry q t move entry.0 entry.1) in
            let o = opening P q t move (quiet t) is (sym (ap (is_inside_some P) at_r) ∙ ins) in
            (o.asked, ap entered_in at_r ∙ ap (λ x. entered_in (Some x)) o.enters, o.is)
          where
            there_is : (x : Option Thread) → slice_get q.threads t ≡ x → (old : Thread) × (slice_get q.threads t ≡ Some old)
            there_is None none = absurd (none-some r (sym (ap (state_after q t) (absent_is P q t none)) ∙ stepped))
            there_is (Some old) e = (old, e)

        by_outcome : (o : Outcome) → outcome P q t ≡ o → state_after q t (outcome P q t) ≡ Some r → (a : Asked) × (entered_in (slice_get r.threads t) ≡ Some (a.method, a.on)) × (asked_by P (plain_of q) (slice_get q.threads t) ≡ Some a)
        by_outcome (Moves move) is e = by_move move is (same_Some _ r (sym (ap (state_after q t) is) ∙ e))
        by_outcome Absent is e = absurd (none-some r (sym (ap (state_after q t) is) ∙ e))
        by_outcome IsDone is e = absurd (none-some r (sym (ap (state_after q t) is) ∙ e))
        by_outcome (HadFaulted kind) is e = absurd (none-some r (sym (ap (state_after q t) is) ∙ e))
        by_outcome (Waits a holder) is e = absurd (none-some r (sym (ap (state_after q t) is) ∙ e))

    begin_right : Told_to P s alone n calls → ((u : ℕ) → inside P q u ≡ false) → inside P r t ≡ true → IsRight (n + 1) r calls (low_or_deep r (begun_in q (n + 1) t (entered_in (slice_get r.threads t))))
    begin_right told quiet ins =
        let a = begins quiet ins in
        subst (λ c. IsRight (n + 1) r calls (low_or_deep r (begun_in q (n + 1) t c))) (sym a.1)
        (low_right (record { entry = n + 1; thread = t; method = a.0.method; on = a.0.on; frames = depth (slice_get q.threads t); printed = length q.output })
        (opens P s alone n t q r at next is_entry (record { entry = n + 1; thread = t; method = a.0.method; on = a.0.on; frames = depth (slice_get q.threads t); printed = length q.output }) a.0.arguments quiet ins refl refl a.2 refl refl)
        (told_on P s alone n t q r at next is_entry calls (none_ends P s alone n t q r at next is_entry quiet) told)
        (λ m y e. let h = told.below m y e in omega (arith, h))
        _ refl)

    drop_printed : (xs ns : List ℤ) (k : ℕ) → k ≡ length xs → xs ++ drop k (xs ++ ns) ≡ xs ++ ns
    drop_printed [] ns zero e = refl
    drop_printed [] ns (suc k) e = absurd (omega (arith, e))
    drop_printed (x ∷ xs) ns zero e = absurd (omega (arith, e))
    drop_printed (x ∷ xs) ns (suc k) e = ap (λ l. x ∷ l) (drop_printed xs ns k (omega (arith, e)))

    -- each entry adds what its answer says
    pub right : (open_ : Option Begun) → Scanned n q calls open_ → (x : Bool) → inside P r t ≡ x → IsRight (n + 1) r calls (next_by P q r (n + 1) t open_ x)
    right None h true ins = begin_right h.told h.stands ins
    right None h false outs = none_more (n + 1) None (record {
      told = told_on P s alone n t q r at next is_entry calls (none_ends P s alone n t q r at next is_entry h.stands) h.told;
      stands = outside_on P s alone n t q r at next is_entry h.stands outs;
    })
    right (Some b) h true ins =
        let o = h.stands.0 in
        low_right b (stays P s alone n t q r at next is_entry true b o ins (λ _. h.stands.1))
        (told_on P s alone n t q r at next is_entry calls (goes_none P s alone n t q r at next is_entry true b o ins) h.told) h.stands.2 _ refl
    right (Some b) h false outs =
        let o = h.stands.0 in
        let p = more_prints o.before q r o.output (step_prints P q r t stepped) in
        record {
          told = ends_told P s alone n t q r at next is_entry true b o calls (told_call P r b) refl h.stands.1 outs h.told h.stands.2 refl refl refl refl
              (ap (λ u. result_in (has_result (slice_get P.methods b.method)) (slice_get r.threads u)) (sym (goes_on P s alone n t q r at next is_entry true b o)))
              (p.1 ∙ sym (drop_printed o.before.output p.0 b.printed o.printed) ∙ ap (λ l. o.before.output ++ drop b.printed l) (sym p.1));
          stands = outside;
        }
      where
        outside : (u : ℕ) → inside P r u ≡ false
        outside u = by_same (u == t) refl
          where
            by_same : (y : Bool) → (u == t) ≡ y → inside P r u ≡ false
            by_same true e = ap (inside P r) (eqb-true u t e) ∙ outs
            by_same false e = others_outside P q r t u stepped (eqb-false u t e)
                (h.stands.0.others u (λ same. eqb-false u t e (same ∙ sym (goes_on P s alone n t q r at next is_entry true b h.stands.0))))

    pub right_next : (open_ : Option Begun) → Scanned n q calls open_ → IsRight (n + 1) r calls (next_of P q r (n + 1) t open_)
    right_next open_ h = right open_ h (inside P r t) refl

    pub goes_right : (open_ o : Option Begun) (more : List Told) → Scanned n q calls open_ → next_of P q r (n + 1) t open_ ≡ Goes o more → Scanned (n + 1) r (calls ++ more) o
    goes_right open_ o more h e = subst (IsRight (n + 1) r calls) e (right_next open_ h)

    pub deep_right : (open_ : Option Begun) (entry : ℕ) → Scanned n q calls open_ → next_of P q r (n + 1) t open_ ≡ Deep entry → IsFirstTooDeep P s entry
    deep_right open_ entry h e = subst (IsRight (n + 1) r calls) e (right_next open_ h)
