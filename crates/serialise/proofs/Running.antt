-- A run with a note of each step.
use Rattle.std.proofs.Common.{◌≡◌, ℕ, zero, suc, ◌+◌, ◌<◌, nat_lt, List, [], ◌∷◌, ◌++◌, length, get_or, Some, refl, sym, ap, subst, ◌∙◌, arith, inl}
use Rattle.std.proofs.lemmas.Grind.{common_steps}
use Rattle.std.proofs.lemmas.List.{length-take-le, take_more}
use Rattle.std.proofs.lemmas.Option.{slice_get-get_or}
use Rattle.std.specs.Prelude.{Result, Ok, Err, take, slice_get, option_and_then, unwrap_or}
use Rattle.core_program.specs.Core.{Program}
use Rattle.state.specs.declared.value.StepKind.{StepKind}
use Rattle.state.specs.States.{State, initial}
use Rattle.semantics.specs.Run.{run, run_from}
use Rattle.semantics.specs.Step.{Outcome, Moves, Absent, IsDone, HadFaulted, Waits, Move, outcome, moved, state_after}
use Rattle.semantics.specs.Units.{entries}
use Rattle.semantics.proofs.RunLemmas.{run_from-append}
use Rattle.semantics.proofs.MoreEntries.{more_entries}
use Rattle.machine.specs.declared.deed.StepEnd.{StepEnd}
use Rattle.machine.specs.declared.deed.StepEnd.TheVariants as step
use Rattle.machine.specs.MachineValue.{MachineValue}
use Rattle.machine.specs.Reasons.{IsReason}
use Rattle.machine.specs.Standing.{program_run, StandsFor, IsTurn, IsKindTurn, IsSame, IsStop}
use Rattle.serialise.specs.declared.calls.Frames.{Frames}
use Rattle.serialise.specs.Calls.{AreCalls, calls_after, frames_seen, methods_at}
use Rattle.serialise.specs.Tables.{value_or, put_at}
use Rattle.serialise.proofs.AtomicCalls.{calls_moved, inside_is}
use Rattle.serialise.specs.declared.step.Step.{Step}
use Rattle.serialise.specs.Entries.{noted_entry, entries_of}
use Rattle.serialise.specs.Made.{IsMadeStep, IsAfterUntoldStep, HaveRun}
use Rattle.serialise.specs.NoRun.{refusal}
use Rattle.serialise.specs.NoRun.{IsNoRun}

-- One step.

pub was_made : (P : Program) (t : ℕ) (q : State) (m : MachineValue) (k : StepKind) (x : Step) (old new : ℕ → ℕ) (before : Frames) (o : Outcome) → outcome P q t ≡ o → program_run m ≡ P
    → AreCalls P q old → before ≡ frames_seen (methods_at (slice_get q.threads t)) → IsKindTurn t (Ok k) m q o
    → x ≡ record { thread = t; kind = k; inside = nat_lt 0 (new t) }
    → ((r : State) → StandsFor m r → (u : ℕ) → new u ≡ put_at old t (calls_after (program_run m) before (frames_seen (methods_at (slice_get r.threads t))) (old t)) u)
    → IsMadeStep P t q m x new o
was_made P t q m k x old new before (Moves move) is same are seen turn told noted =
    let now : AreCalls P (moved t move q) new =
    calls_moved P q t move is old new are (λ u. noted (moved t move q) turn.1 u ∙ (λ i. put_at old t (calls_after (same i) (seen i) (frames_seen (methods_at (slice_get (moved t move q).threads t))) (old t)) u)) in (
      told ∙ (λ i. record { thread = t; kind = turn.0 i; inside = (ap (nat_lt 0) (now t) ∙ sym (inside_is P (moved t move q) t)) i }),
      turn.1,
      now,
    )
was_made P t q m k x old new before Absent is same are seen turn told noted = absurd cc
was_made P t q m k x old new before IsDone is same are seen turn told noted = absurd cc
was_made P t q m k x old new before (HadFaulted f) is same are seen turn told noted = absurd cc
was_made P t q m k x old new before (Waits a holder) is same are seen turn told noted = absurd cc

-- where a step was made, only memory can be wanting
pub only_memory : (t : ℕ) (q : State) (m : MachineValue) (k : StepKind) (o : Outcome) → IsKindTurn t (Ok k) m q o → IsReason step.NoMemory o
only_memory t q m k (Moves move) turn = refl
only_memory t q m k Absent turn = absurd cc
only_memory t q m k IsDone turn = absurd cc
only_memory t q m k (HadFaulted f) turn = absurd cc
only_memory t q m k (Waits a holder) turn = absurd cc

-- a step that told its kind was made
pub told_turn : (t : ℕ) (q : State) (m : MachineValue) (k : StepKind) (o : Outcome) → IsKindTurn t (Ok k) m q o → IsTurn t (Ok tt) m q o
told_turn t q m k (Moves move) turn = turn.1
told_turn t q m k Absent turn = absurd cc
told_turn t q m k IsDone turn = absurd cc
told_turn t q m k (HadFaulted f) turn = absurd cc
told_turn t q m k (Waits a holder) turn = absurd cc

-- a refused step leaves the machine as it was
pub left_same : (t : ℕ) (old new : MachineValue) (why : StepEnd) → IsSame new old → IsAfterUntoldStep t old new why
left_same t old new step.NoMemory same = inl same
left_same t old new step.Absent same = same
left_same t old new step.Done same = same
left_same t old new (step.Faulted f) same = same
left_same t old new (step.Waits a holder) same = same

abbrev Refused : StepEnd → Result StepKind StepEnd
Refused why = Err why

error_is : (why other : StepEnd) → Refused why ≡ Refused other → why ≡ other
error_is why other e = cc

pub was_refused : (t : ℕ) (q : State) (m : MachineValue) (why : StepEnd) (o : Outcome) → IsKindTurn t (Err why) m q o → IsReason why o
was_refused t q m why (Moves move) turn = turn
was_refused t q m why Absent turn = error_is why step.Absent turn
was_refused t q m why IsDone turn = error_is why step.Done turn
was_refused t q m why (HadFaulted kind) turn = error_is why (step.Faulted kind) turn
was_refused t q m why (Waits a holder) turn = error_is why (step.Waits a holder) turn

-- The loop.

pub length_more : (steps : List Step) (x : Step) → length (steps ++ x ∷ []) ≡ length steps + 1
length_more steps x = grind (arith, common_steps)

-- at the start no thread stands in a call
pub no_calls : (P : Program) → AreCalls P (initial P) (value_or 0 [])
no_calls P zero = refl
no_calls P (suc t) = refl

pub starts : (m : MachineValue) → StandsFor m (initial (program_run m)) → HaveRun m [] [] (value_or 0 [])
starts m stands = record { end = initial (program_run m); ran = refl; stands = stands; called = no_calls (program_run m); noted = refl }

entries_append : (n : ℕ) (steps : List Step) (x : Step) → entries_of n (steps ++ x ∷ []) ≡ entries_of n steps ++ noted_entry (n + length steps) x ∷ []
entries_append n [] x = ap (λ m. noted_entry m x ∷ []) (no_more n)
  where
    no_more : (n : ℕ) → n ≡ n + 0
    no_more n = omega arith
entries_append n (y ∷ steps) x = ap (λ es. noted_entry n y ∷ es) (entries_append (n + 1) steps x ∙ ap (λ m. entries_of (n + 1) steps ++ noted_entry m x ∷ []) (later n (length steps)))
  where
    later : (n m : ℕ) → n + 1 + m ≡ n + suc m
    later n m = omega arith

moved_on : (P : Program) (s : List ℕ) (q : State) (t : ℕ) (move : Move) → run P s ≡ Some q → outcome P q t ≡ Moves move → run P (s ++ t ∷ []) ≡ Some (moved t move q)
moved_on P s q t move ran is =
    run_from-append P (initial P) s (t ∷ []) ∙ ap (option_and_then (λ next. run_from P next (t ∷ []))) ran
    ∙ ap (λ o. option_and_then (λ next. run_from P next []) (state_after q t o)) is

module _ (P : Program) (m n : MachineValue) (s : List ℕ) (i : ℕ) (less : i < length s) (is : program_run m ≡ P) (is_later : program_run n ≡ P) (steps : List Step) (count : length steps ≡ i) (calls : ℕ → ℕ) (done : HaveRun m (take i s) steps calls) where
  abbrev pub thread : ℕ
  thread = get_or s i 0

  ran : run P (take i s) ≡ Some done.end
  ran = ap (λ p. run p (take i s)) (sym is) ∙ done.ran

  noted : entries_of 0 steps ≡ entries P (take i s)
  noted = done.noted ∙ ap (λ p. entries p (take i s)) is

  goes_on : (x : Step) (now : ℕ → ℕ) (o : Outcome) → outcome P done.end thread ≡ o → IsMadeStep P thread done.end n x now o → HaveRun n (take (i + 1) s) (steps ++ x ∷ []) now
  goes_on x now (Moves move) turns made = record {
    end = moved thread move done.end;
    ran = ap (λ p. run p (take (i + 1) s)) is_later ∙ ap (run P) (take_more s i 0 less) ∙ moved_on P (take i s) done.end thread move ran turns;
    stands = made.1;
    called = subst (λ p. AreCalls p (moved thread move done.end) now) (sym is_later) made.2;
    noted = entries_append 0 steps x ∙ (λ k. noted k ++ noted_entry (place k) (made.0 k) ∷ [])
        ∙ sym (more_entries P (take i s) done.end thread move ran turns) ∙ ap (entries P) (sym (take_more s i 0 less)) ∙ ap (λ p. entries p (take (i + 1) s)) (sym is_later);
  }
    where
      place : 0 + length steps ≡ length (take i s)
      place = let l = length-take-le i s (omega (arith, less)) in omega (arith, l, count)
  goes_on x now Absent turns made = absurd made
  goes_on x now IsDone turns made = absurd made
  goes_on x now (HadFaulted kind) turns made = absurd made
  goes_on x now (Waits a holder) turns made = absurd made

  pub run_more : (x : Step) (now : ℕ → ℕ) → ((q : State) → StandsFor m q → AreCalls (program_run m) q calls → IsMadeStep (program_run m) thread q n x now (outcome (program_run m) q thread)) → HaveRun n (take (i + 1) s) (steps ++ x ∷ []) now
  run_more x now made = goes_on x now (outcome P done.end thread) refl (subst (λ p. IsMadeStep p thread done.end n x now (outcome p done.end thread)) is (made done.end done.stands done.called))

  -- the entry has no step
  stop : (why : StepEnd) → IsReason why (outcome P done.end thread) → IsStop P (initial P) s (record { entry = i + 1; thread = thread; why = why }) done.end
  stop why is = record { place = i; entry = refl; thread = slice_get-get_or s i 0 less; ran = ran; why = is }

  stopped : (why : StepEnd) → IsReason why (outcome P done.end thread) → IsNoRun P s (refusal (i + 1) thread why)
  stopped step.NoMemory is = tt
  stopped step.Absent is = record { before = done.end; stop = stop step.Absent is; refused = λ e. cc }
  stopped step.Done is = record { before = done.end; stop = stop step.Done is; refused = λ e. cc }
  stopped (step.Faulted kind) is = record { before = done.end; stop = stop (step.Faulted kind) is; refused = λ e. cc }
  stopped (step.Waits a holder) is = record { before = done.end; stop = stop (step.Waits a holder) is; refused = λ e. cc }

  pub run_stops : (why : StepEnd) → ((q : State) → StandsFor m q → IsReason why (outcome P q thread)) → IsNoRun P s (refusal (i + 1) thread why)
  run_stops why is = stopped why (is done.end done.stands)

-- the machine stands for the state that the schedule runs to
pub stands_at_end : (P : Program) (s : List ℕ) (m : MachineValue) (steps : List Step) (calls : ℕ → ℕ) → program_run m ≡ P → HaveRun m s steps calls → (q : State) → run P s ≡ Some q → StandsFor m q
stands_at_end P s m steps calls is done q ran =
    let same : done.end ≡ q = ap (λ o. unwrap_or o q) (sym done.ran ∙ ap (λ p. run p s) is ∙ ran) in
    subst (StandsFor m) same done.stands
