-- From a turn of the machine over code to what the definition says of it.
use Rattle.std.proofs.Common.{◌≡◌, ℕ, ℤ, ◌+◌, ◌≤◌, List, [], ◌∷◌, length, refl, sym, ap, subst, arith}
use Rattle.std.specs.Prelude.{Result, Ok, Err, OnErr, map, slice_set}
use Rattle.std.proofs.lemmas.List.{length-map, length-append, length-set}
use Rattle.core_program.specs.Views.{program_of}
use Rattle.core_program.specs.declared.program.CoreProgram.{CoreProgram}
use Rattle.compile.specs.declared.stack.CodeTable.{CodeTable}
use Rattle.compile.specs.IsCode.{IsCodeOf}
use Rattle.state.specs.Memory.{Heap, Locks}
use Rattle.machine.specs.CodeMachine.{code_outcome}
use Rattle.state.specs.States.{ThreadOf, Ready, StateOf, State}
use Rattle.state.specs.Frames.{CellFrame, CodeFrame, code_thread}
use Rattle.semantics.specs.Step.{Change, Nothing, FieldIs, ObjectIs, LockIs, Prints, Starts, OutcomeOf, Outcome, Moves, Absent, IsDone, HadFaulted, Waits, changed, moved, outcome}
use Rattle.machine.specs.declared.deed.StepEnd.{StepEnd}
use Rattle.machine.specs.Likeness.{StateStands}
use Rattle.machine.specs.MachineValue.{MachineValue, code_state}
use Rattle.machine.specs.Taken.{state_in, IsTaken}
use Rattle.machine.specs.Standing.{program_run, StandsFor, IsTurn}
use Rattle.machine.proofs.Simulation.{OutcomeStands, both_move, both_absent, both_done, both_faulted, both_wait}
use Rattle.machine.proofs.Runs.{moved_stands, outcome_like}

pub is_turn : (t : ℕ) (r : Result (Unit {0}) StepEnd) (m : MachineValue) (old : StateOf CodeFrame) (q : State) (o : OutcomeOf CodeFrame) (p : Outcome)
    → OutcomeStands (program_run m) m.code.code.items o p → StateStands (program_run m) m.code.code.items old q → IsTaken t r (code_state m.state) old o → IsTurn t r m q p
is_turn t (Ok u) m old q _ _ (both_move kind c x change one) h is =
    subst (λ s. StateStands (program_run m) m.code.code.items s (moved t (record { kind = kind; thread = x; change = change }) q)) (sym is)
    (moved_stands (program_run m) m.code.code.items t (record { kind = kind; thread = c; change = change }) (record { kind = kind; thread = x; change = change }) old q refl one h)
is_turn t (Ok u) m old q _ _ both_absent h is = absurd is
is_turn t (Ok u) m old q _ _ both_done h is = absurd is
is_turn t (Ok u) m old q _ _ (both_faulted kind) h is = absurd is
is_turn t (Ok u) m old q _ _ (both_wait a holder) h is = absurd is
is_turn t (Err why) m old q _ _ (both_move kind c x change one) h is = is.1
is_turn t (Err why) m old q _ _ both_absent h is = ap Err is.1
is_turn t (Err why) m old q _ _ both_done h is = ap Err is.1
is_turn t (Err why) m old q _ _ (both_faulted kind) h is = ap Err is.1
is_turn t (Err why) m old q _ _ (both_wait a holder) h is = ap Err is.1

pub same_state : (t : ℕ) (r : Result (Unit {0}) StepEnd) (new old : StateOf CodeFrame) (o : OutcomeOf CodeFrame) → IsTaken t r new old o → OnErr r (new ≡ old)
same_state t (Ok u) new old o is = tt
same_state t (Err why) new old o is = is.0

changed_length : (c : Change) (s : StateOf CodeFrame) → length (changed c s).threads ≤ length s.threads + 1
changed_length Nothing s = omega arith
changed_length (FieldIs a index v) s = omega arith
changed_length (ObjectIs a o) s = omega arith
changed_length (LockIs a hold) s = omega arith
changed_length (Prints n) s = omega arith
changed_length (Starts a m) s = omega (arith, length-append s.threads (Ready a m ∷ []))

set_length : (ts : List (ThreadOf CodeFrame)) (n : ℕ) (c : ThreadOf CodeFrame) → length (slice_set ts n c) ≡ length ts
set_length ts n c = length-set ts n c

-- a turn adds at most one thread
pub one_more_thread : (t : ℕ) (r : Result (Unit {0}) StepEnd) (new old : StateOf CodeFrame) (o : OutcomeOf CodeFrame) → IsTaken t r new old o → length new.threads ≤ length old.threads + 1
one_more_thread t (Ok u) new old (Moves move) is =
    omega (arith, changed_length move.change (record old { threads = slice_set old.threads t move.thread }), set_length old.threads t move.thread, ap (λ s. length s.threads) is)
one_more_thread t (Ok u) new old Absent is = absurd is
one_more_thread t (Ok u) new old IsDone is = absurd is
one_more_thread t (Ok u) new old (HadFaulted kind) is = absurd is
one_more_thread t (Ok u) new old (Waits a holder) is = absurd is
one_more_thread t (Err why) new old o is = omega (arith, ap (λ s. length s.threads) is.0)

pub no_more_threads : (t : ℕ) (why : StepEnd) (new old : StateOf CodeFrame) (o : OutcomeOf CodeFrame) → IsTaken t (Err why) new old o → length new.threads ≡ length old.threads
no_more_threads t why new old o is = ap (λ s. length s.threads) is.0

pub kept_length : (ts : List (ThreadOf CellFrame)) → length (map code_thread ts) ≡ length ts
kept_length ts = length-map ts code_thread

-- the same of the machine's parts
pub machine_turn : (m : MachineValue) (program : CoreProgram) (code : CodeTable) (heap heap_new : Heap) (locks locks_new : Locks) (threads threads_new : List (ThreadOf CellFrame)) (output output_new : List ℤ) (made made_new : ℕ)
    (t : ℕ) (r : Result (Unit {0}) StepEnd) (q : State)
    → record { program = program; code = code; state = record { heap = heap; locks = locks; threads = threads; output = output }; made = made } ≡ m
    → IsCodeOf (program_of program) code.code.items code.entry.items code.room.items → StandsFor m q
    → IsTaken t r (state_in heap_new locks_new threads_new output_new) (state_in heap locks threads output) (code_outcome (program_of program) code.code.items code.entry.items code.room.items (state_in heap locks threads output) t)
    → IsTurn t r (record { program = program; code = code; state = record { heap = heap_new; locks = locks_new; threads = threads_new; output = output_new }; made = made_new }) q (outcome (program_run m) q t)
machine_turn m program code heap heap_new locks locks_new threads threads_new output output_new made made_new t r q view is_code h is =
    let stands = subst (λ x. StandsFor x q) (sym view) h in
    subst (λ x. IsTurn t r (record { program = program; code = code; state = record { heap = heap_new; locks = locks_new; threads = threads_new; output = output_new }; made = made_new }) q (outcome (program_run x) q t)) view
    (is_turn t r (record { program = program; code = code; state = record { heap = heap_new; locks = locks_new; threads = threads_new; output = output_new }; made = made_new }) (state_in heap locks threads output) q
    (code_outcome (program_of program) code.code.items code.entry.items code.room.items (state_in heap locks threads output) t) (outcome (program_of program) q t)
    (outcome_like (program_of program) code.code.items code.entry.items code.room.items is_code (state_in heap locks threads output) q t stands) stands is)
