-- The text of a state is that of each state that stands for it.
use Rattle.std.proofs.Common.{◌≡◌, ◌++◌, List, [], ◌∷◌, map, length, option_map, refl, ◌∙◌, arith}
use Rattle.std.specs.List.{flat_map}
use Rattle.std.specs.FinMap as finite
use Rattle.classes.specs.Table.{TableData}
use Rattle.compile.specs.declared.stack.Code.{Code}
use Rattle.core_program.specs.Core.{Program}
use Rattle.machine.specs.Likeness.{FramesStand, no_frames, more_frames, ThreadStands, ready_stands, running_stands, done_stands, faulted_stands, ThreadsStand, no_threads, more_threads, StateStands}
use Rattle.machine.specs.MachineValue.{code_state}
use Rattle.machine.proofs.Simulation.{as_high}
use Rattle.state.specs.declared.value.ThreadState.TheVariants as status
use Rattle.state.specs.Frames.{CodeFrame, CellFrame, code_frame, code_thread, first_frame}
use Rattle.state.specs.States.{Frame, ThreadOf, Ready, Running, Done, Faulted, StateOf}
use Rattle.report.specs.States.{sight_by_methods, print_line, object_line, lock_line, threads_text, text_of_state, state_text}

-- frames that stand for frames are as many, and have the same methods
same_top : (P : Program) (code : List Code) (fs : List CodeFrame) (gs : List Frame) → FramesStand P code fs gs → option_map (λ f. f.method) (first_frame fs) ≡ option_map (λ f. f.method) (first_frame gs)
same_top P code _ _ no_frames = refl
same_top P code _ _ (more_frames f work fs gs left stand) = refl

same_sight : (P : Program) (code : List Code) (c : ThreadOf CodeFrame) (t : ThreadOf Frame) → ThreadStands P code c t → sight_by_methods (λ f. f.method) c ≡ sight_by_methods (λ f. f.method) t
same_sight P code _ _ (ready_stands a m) = refl
same_sight P code _ _ done_stands = refl
same_sight P code _ _ (running_stands fs gs stand) =
    λ i. record { status = status.Running; method = same_top P code fs gs stand i; frames = as_high P code fs gs stand i }
same_sight P code _ _ (faulted_stands kind fs gs stand) =
    λ i. record { status = status.Faulted kind; method = same_top P code fs gs stand i; frames = as_high P code fs gs stand i }

same_sights : (P : Program) (code : List Code) (cs : List (ThreadOf CodeFrame)) (ts : List (ThreadOf Frame)) → ThreadsStand P code cs ts → map (sight_by_methods (λ f. f.method)) cs ≡ map (sight_by_methods (λ f. f.method)) ts
same_sights P code _ _ no_threads = refl
same_sights P code _ _ (more_threads c t cs ts stands stand) = λ i. same_sight P code c t stands i ∷ same_sights P code cs ts stand i

-- frames without their rooms
cell_length : (fs : List CellFrame) → length fs ≡ length (map code_frame fs)
cell_length [] = refl
cell_length (f ∷ fs) = let more = cell_length fs in omega (arith, more)

cell_top : (fs : List CellFrame) → option_map (λ f. f.method) (first_frame fs) ≡ option_map (λ f. f.method) (first_frame (map code_frame fs))
cell_top [] = refl
cell_top (f ∷ fs) = refl

cell_sight : (t : ThreadOf CellFrame) → sight_by_methods (λ f. f.method) t ≡ sight_by_methods (λ f. f.method) (code_thread t)
cell_sight (Ready a m) = refl
cell_sight Done = refl
cell_sight (Running fs) = λ i. record { status = status.Running; method = cell_top fs i; frames = cell_length fs i }
cell_sight (Faulted kind fs) = λ i. record { status = status.Faulted kind; method = cell_top fs i; frames = cell_length fs i }

cell_sights : (ts : List (ThreadOf CellFrame)) → map (sight_by_methods (λ f. f.method)) ts ≡ map (sight_by_methods (λ f. f.method)) (map code_thread ts)
cell_sights [] = refl
cell_sights (t ∷ ts) = λ i. cell_sight t i ∷ cell_sights ts i

pub same_text : (P : Program) (code : List Code) (table : TableData) (s : StateOf CellFrame) (q : StateOf Frame) → StateStands P code (code_state s) q → text_of_state (λ f. f.method) P table s ≡ state_text P table q
same_text P code table s q stands = λ i.
    flat_map print_line (stands.output i)
    ++ flat_map (object_line P table) (finite.entries (stands.heap i))
    ++ flat_map lock_line (finite.entries (stands.locks i))
    ++ threads_text table 0 ((cell_sights s.threads ∙ same_sights P code (map code_thread s.threads) q.threads stands.threads) i)
