-- The frames of a machine's thread have the methods of those that they stand for.
use Rattle.std.proofs.Common.{◌≡◌, ℕ, zero, suc, List, [], ◌∷◌, Some, None, refl, ap}
use Rattle.std.specs.Prelude.{Option, map, slice_get}
use Rattle.core_program.specs.Core.{Program}
use Rattle.state.specs.Frames.{CellFrame, code_frame, code_thread, frames_in}
use Rattle.state.specs.States.{Frame, Thread, ThreadOf, Ready, Running, Done, Faulted}
use Rattle.compile.specs.declared.stack.Code.{Code}
use Rattle.machine.specs.Likeness.{FramesStand, no_frames, more_frames, ThreadStands, ready_stands, running_stands, done_stands, faulted_stands, ThreadsStand, no_threads, more_threads}
use Rattle.serialise.specs.Calls.{frame_methods, methods_at}

-- the methods of the frames of a thread that may be absent
abbrev pub cell_methods : Option (ThreadOf CellFrame) → List ℕ
cell_methods None = []
cell_methods (Some cell) = map (λ f. f.method) (frames_in cell)

module _ (P : Program) (code : List Code) where
  frames_same : (fs : List CellFrame) (gs : List Frame) → FramesStand P code (map code_frame fs) gs → map (λ f. f.method) fs ≡ map (λ g. g.method) gs
  frames_same [] _ no_frames = refl
  frames_same (f ∷ fs) _ (more_frames _ work _ gs left stand) = ap (λ ms. f.method ∷ ms) (frames_same fs gs stand)

  thread_same : (c : ThreadOf CellFrame) (t : Thread) → ThreadStands P code (code_thread c) t → map (λ f. f.method) (frames_in c) ≡ frame_methods t
  thread_same (Ready _ _) _ (ready_stands a m) = refl
  thread_same (Running fs) _ (running_stands _ gs stand) = frames_same fs gs stand
  thread_same Done _ done_stands = refl
  thread_same (Faulted _ fs) _ (faulted_stands kind _ gs stand) = frames_same fs gs stand

  pub methods_same : (cs : List (ThreadOf CellFrame)) (ts : List Thread) → ThreadsStand P code (map code_thread cs) ts → (t : ℕ) → cell_methods (slice_get cs t) ≡ methods_at (slice_get ts t)
  methods_same [] _ no_threads t = refl
  methods_same (c ∷ cs) _ (more_threads _ x _ ts one more) zero = thread_same c x one
  methods_same (c ∷ cs) _ (more_threads _ x _ ts one more) (suc t) = methods_same cs ts more t
