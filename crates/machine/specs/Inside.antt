-- Who stands inside an atomic call, of threads as they are kept.
use Rattle.std.specs.Prelude.{ℕ, Bool, false, Option, Some, None, slice_get}
use Rattle.std.specs.List.{list_any}
use Rattle.core_program.specs.Core.{Program}
use Rattle.state.specs.States.{ThreadOf}
use Rattle.state.specs.Frames.{CellFrame, frames_in}
use Rattle.semantics.specs.Run.{is_annotated}

-- whether a frame belongs to an annotated method
abbrev pub frame_inside : Program → CellFrame → Bool
frame_inside P f = is_annotated (slice_get P.methods f.method)

-- whether a frame that may be missing, of this method, does
abbrev pub method_inside : Program → Option ℕ → Bool
method_inside P None = false
method_inside P (Some m) = is_annotated (slice_get P.methods m)

-- whether some frame of a thread does
abbrev pub cell_inside : Program → ThreadOf CellFrame → Bool
cell_inside P thread = list_any (frame_inside P) (frames_in thread)
