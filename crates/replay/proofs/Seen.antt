-- What is seen of a machine's thread is what is seen of the thread that it stands for.
use Rattle.std.proofs.Common.{◌≡◌, ℕ, zero, suc, true, List, [], ◌∷◌, length, Some, None, refl, ap}
use Rattle.std.specs.Prelude.{map, slice_get}
use Rattle.core_program.specs.Core.{Program}
use Rattle.state.specs.States.{Frame, Thread, ThreadOf, Ready, Running, Done, Faulted}
use Rattle.state.specs.Frames.{CellFrame, code_frame, code_thread}
use Rattle.compile.specs.declared.stack.Code.{Code}
use Rattle.machine.specs.Likeness.{FramesStand, no_frames, more_frames, ThreadStands, ready_stands, running_stands, done_stands, faulted_stands, ThreadsStand, no_threads, more_threads}
use Rattle.replay.specs.Calls.{result_in}
use Rattle.replay.specs.Scanning.{innermost}
use Rattle.replay.specs.Sights.{sight_of, frames_call, cell_top, cell_sight}

module _ (P : Program) (code : List Code) where
  as_many : (fs : List CellFrame) (gs : List Frame) → FramesStand P code (map code_frame fs) gs → length fs ≡ length gs
  as_many [] _ no_frames = refl
  as_many (f ∷ fs) _ (more_frames _ work _ gs left stand) = ap suc (as_many fs gs stand)

  same_call : (fs : List CellFrame) (gs : List Frame) → FramesStand P code (map code_frame fs) gs → frames_call fs ≡ innermost gs
  same_call [] _ no_frames = refl
  same_call (f ∷ fs) _ (more_frames _ work _ gs left stand) = refl

  same_top : (fs : List CellFrame) (gs : List Frame) → FramesStand P code (map code_frame fs) gs → cell_top (Running fs) ≡ result_in true (Some (Running gs))
  same_top [] _ no_frames = refl
  same_top (f ∷ fs) _ (more_frames _ work _ gs left stand) = refl

  thread_same : (c : ThreadOf CellFrame) (t : Thread) → ThreadStands P code (code_thread c) t → cell_sight (Some c) ≡ sight_of (Some t)
  thread_same (Ready _ _) _ (ready_stands a m) = refl
  thread_same (Running fs) _ (running_stands _ gs stand) = λ i. record { frames = as_many fs gs stand i; call = same_call fs gs stand i; top = same_top fs gs stand i }
  thread_same Done _ done_stands = refl
  thread_same (Faulted _ fs) _ (faulted_stands kind _ gs stand) = λ i. record { frames = as_many fs gs stand i; call = same_call fs gs stand i; top = None }

  pub sights_same : (cs : List (ThreadOf CellFrame)) (ts : List Thread) → ThreadsStand P code (map code_thread cs) ts → (t : ℕ) → cell_sight (slice_get cs t) ≡ sight_of (slice_get ts t)
  sights_same [] _ no_threads t = refl
  sights_same (c ∷ cs) _ (more_threads _ x _ ts one more) zero = thread_same c x one
  sights_same (c ∷ cs) _ (more_threads _ x _ ts one more) (suc t) = sights_same cs ts more t
