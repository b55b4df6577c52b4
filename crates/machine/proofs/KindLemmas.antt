-- The kind of a turn, from a thread as it is kept.
use Rattle.std.proofs.Common.{◌≡◌, ℕ, suc, List, [], ◌∷◌, length, refl, ap, ◌∙◌}
use Rattle.std.specs.Prelude.{Option, Some, None, map, slice_get, unwrap_or}
use Rattle.core_program.specs.Core.{Program, Method}
use Rattle.state.specs.declared.value.Address.{Address}
use Rattle.state.specs.declared.value.StepKind.{StepKind}
use Rattle.state.specs.declared.value.StepKind.TheVariants.{Both}
use Rattle.state.specs.States.{ThreadOf, Ready, Running, Done, Faulted}
use Rattle.state.specs.Frames.{CellFrame, CodeFrame, code_frame, code_thread, thread_status}
use Rattle.compile.specs.declared.stack.Code.{Code}
use Rattle.semantics.specs.Step.{Shared, outcome_kind}
use Rattle.machine.specs.declared.deed.Deed.{Deed}
use Rattle.machine.specs.declared.deed.Deed.TheVariants as deed
use Rattle.machine.specs.CodeMachine.{done, ready_thread_enters, code_turn, deed_at}
use Rattle.machine.specs.declared.deed.Turn.{Turn}
use Rattle.machine.specs.declared.deed.Turn.TheVariants as turn
use Rattle.machine.specs.Turns.{cell_deed, line_deed, kind_done, cell_kind, first_turn, deed_turn, cell_turn}
use Rattle.machine.specs.Turns as turns
use Rattle.state.specs.declared.value.Fault.{Fault}
use Rattle.state.specs.declared.value.ThreadState.TheVariants as status

done_kind : (P : Program) (see : Shared) (t : ℕ) (f : CodeFrame) (below : List CodeFrame) (d : Deed) → outcome_kind (done P see t f below d) ≡ kind_done P see t d
done_kind P see t f below (deed.Fails kind) = refl
done_kind P see t f below (deed.Goes drops gives place) = refl
done_kind P see t f below (deed.Stores x v place) = refl
done_kind P see t f below (deed.Reads a x v place) = refl
done_kind P see t f below (deed.Writes a x index v place) = refl
done_kind P see t f below (deed.Makes c n place) = refl
done_kind P see t f below (deed.Enters m n a place at most) = refl
done_kind P see t f below (deed.Takes a again place) = refl
done_kind P see t f below (deed.Waits a holder) = refl
done_kind P see t f below (deed.Gives a frees place) = refl
done_kind P see t f below (deed.Returns gives) = refl
done_kind P see t f below (deed.Prints n place) = refl
done_kind P see t f below (deed.Starts a m place) = refl

same_length : (fs : List CellFrame) → length (map code_frame fs) ≡ length fs
same_length [] = refl
same_length (f ∷ fs) = ap suc (same_length fs)

pub line_same : (P : Program) (entry room : List ℕ) (see : Shared) (t : ℕ) (f : CellFrame) (fs : List CellFrame) (o : Option Code)
    → deed_at P entry room see t (code_frame f) (length (map code_frame (f ∷ fs))) o ≡ line_deed P entry room see t (Running (f ∷ fs)) o
line_same P entry room see t f fs None = refl
line_same P entry room see t f fs (Some c) = ap (λ n. deed_at P entry room see t (code_frame f) n (Some c)) (same_length (f ∷ fs))

pub running_kind : (P : Program) (code : List Code) (entry room : List ℕ) (see : Shared) (t : ℕ) (fs : List CellFrame)
    → outcome_kind (code_turn P code entry room see t (Some (code_thread (Running fs)))) ≡ kind_done P see t (cell_deed P code entry room see t (Running fs))
running_kind P code entry room see t [] = refl
running_kind P code entry room see t (f ∷ fs) =
    done_kind P see t (code_frame f) (map code_frame fs) (deed_at P entry room see t (code_frame f) (length (map code_frame (f ∷ fs))) (slice_get code f.place))
    ∙ ap (kind_done P see t) (line_same P entry room see t f fs (slice_get code f.place))

first_kind : (a : Address) (m : ℕ) (o : Option Method) (p : Option ℕ) → outcome_kind (ready_thread_enters a m o p) ≡ Some Both
first_kind a m None p = refl
first_kind a m (Some method) None = refl
first_kind a m (Some method) (Some place) = refl

pub ready_kind : (P : Program) (code : List Code) (entry room : List ℕ) (see : Shared) (t : ℕ) (a : Address) (m : ℕ) → outcome_kind (code_turn P code entry room see t (Some (Ready a m))) ≡ Some Both
ready_kind P code entry room see t a m = first_kind a m (slice_get P.methods m) (slice_get entry m)

-- by the status of the thread
pub kind_ready : (P : Program) (code : List Code) (entry room : List ℕ) (see : Shared) (t : ℕ) (c : ThreadOf CellFrame) → thread_status c ≡ status.Ready → cell_kind P code entry room see t c ≡ Some Both
kind_ready P code entry room see t (Ready a m) e = refl
kind_ready P code entry room see t (Running fs) e = absurd cc
kind_ready P code entry room see t Done e = absurd cc
kind_ready P code entry room see t (Faulted kind fs) e = absurd cc

pub kind_running : (P : Program) (code : List Code) (entry room : List ℕ) (see : Shared) (t : ℕ) (c : ThreadOf CellFrame) → thread_status c ≡ status.Running
    → cell_kind P code entry room see t c ≡ kind_done P see t (cell_deed P code entry room see t c)
kind_running P code entry room see t (Ready a m) e = absurd cc
kind_running P code entry room see t (Running fs) e = refl
kind_running P code entry room see t Done e = absurd cc
kind_running P code entry room see t (Faulted kind fs) e = absurd cc

pub kind_done_thread : (P : Program) (code : List Code) (entry room : List ℕ) (see : Shared) (t : ℕ) (c : ThreadOf CellFrame) → thread_status c ≡ status.Done → cell_kind P code entry room see t c ≡ None
kind_done_thread P code entry room see t (Ready a m) e = absurd cc
kind_done_thread P code entry room see t (Running fs) e = absurd cc
kind_done_thread P code entry room see t Done e = refl
kind_done_thread P code entry room see t (Faulted kind fs) e = refl

pub kind_faulted : (P : Program) (code : List Code) (entry room : List ℕ) (see : Shared) (t : ℕ) (k : Fault) (c : ThreadOf CellFrame) → thread_status c ≡ status.Faulted k → cell_kind P code entry room see t c ≡ None
kind_faulted P code entry room see t k (Ready a m) e = absurd cc
kind_faulted P code entry room see t k (Running fs) e = absurd cc
kind_faulted P code entry room see t k Done e = refl
kind_faulted P code entry room see t k (Faulted kind fs) e = refl

-- the kind of a turn is that of the thread as it is kept
pub turn_kind : (P : Program) (code : List Code) (entry room : List ℕ) (see : Shared) (t : ℕ) (c : ThreadOf CellFrame)
    → outcome_kind (code_turn P code entry room see t (Some (code_thread c))) ≡ cell_kind P code entry room see t c
turn_kind P code entry room see t (Ready a m) = ready_kind P code entry room see t a m
turn_kind P code entry room see t (Running fs) = running_kind P code entry room see t fs
turn_kind P code entry room see t Done = refl
turn_kind P code entry room see t (Faulted kind fs) = refl

-- the kind of the step that a turn comes to; none where it comes to none
abbrev pub some_turn_kind : Program → Shared → ℕ → Turn → Option StepKind
some_turn_kind P see t (turn.Ends why) = None
some_turn_kind P see t found = Some (turns.turn_kind P see t found)

pub known_kind : (P : Program) (see : Shared) (t : ℕ) (found : Turn) (k : StepKind) → some_turn_kind P see t found ≡ Some k → turns.turn_kind P see t found ≡ k
known_kind P see t (turn.Ends why) k is = absurd cc
known_kind P see t (turn.Fails kind) k is = ap (λ o. unwrap_or o k) is
known_kind P see t (turn.Enters a m entry most) k is = ap (λ o. unwrap_or o k) is
known_kind P see t (turn.Starts a m place) k is = ap (λ o. unwrap_or o k) is
known_kind P see t (turn.Does d) k is = ap (λ o. unwrap_or o k) is

deed_turn_kind : (P : Program) (see : Shared) (t : ℕ) (d : Deed) → some_turn_kind P see t (deed_turn d) ≡ kind_done P see t d
deed_turn_kind P see t (deed.Fails kind) = refl
deed_turn_kind P see t (deed.Goes drops gives place) = refl
deed_turn_kind P see t (deed.Stores x v place) = refl
deed_turn_kind P see t (deed.Reads a x v place) = refl
deed_turn_kind P see t (deed.Writes a x index v place) = refl
deed_turn_kind P see t (deed.Makes c n place) = refl
deed_turn_kind P see t (deed.Enters m n a place at most) = refl
deed_turn_kind P see t (deed.Takes a again place) = refl
deed_turn_kind P see t (deed.Waits a holder) = refl
deed_turn_kind P see t (deed.Gives a frees place) = refl
deed_turn_kind P see t (deed.Returns gives) = refl
deed_turn_kind P see t (deed.Prints n place) = refl
deed_turn_kind P see t (deed.Starts a m place) = refl

first_turn_kind : (P : Program) (see : Shared) (t : ℕ) (a : Address) (m : ℕ) (o : Option Method) (p r : Option ℕ) → some_turn_kind P see t (first_turn a m o p r) ≡ Some Both
first_turn_kind P see t a m None p r = refl
first_turn_kind P see t a m (Some method) None r = refl
first_turn_kind P see t a m (Some method) (Some place) None = refl
first_turn_kind P see t a m (Some method) (Some place) (Some most) = refl

-- a thread's turn has the kind of its next step
pub cell_turn_kind : (P : Program) (code : List Code) (entry room : List ℕ) (see : Shared) (t : ℕ) (c : ThreadOf CellFrame)
    → some_turn_kind P see t (cell_turn P code entry room see t c) ≡ cell_kind P code entry room see t c
cell_turn_kind P code entry room see t (Ready a m) = first_turn_kind P see t a m (slice_get P.methods m) (slice_get entry m) (slice_get room m)
cell_turn_kind P code entry room see t (Running fs) = deed_turn_kind P see t (cell_deed P code entry room see t (Running fs))
cell_turn_kind P code entry room see t Done = refl
cell_turn_kind P code entry room see t (Faulted kind fs) = refl
