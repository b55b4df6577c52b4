use Rattle.std.proofs.Common.{◌≡◌, take}
use Rattle.std.specs.Prelude.{map}
use Rattle.state.specs.Frames.{code_frame}
use Rattle.state.proofs.copies.same_frames.Given as goal

abbrev pub invariant-loop-place : goal.invariant-loop-place
invariant-loop-place l = map code_frame (take l.place l.some) ≡ map code_frame (take l.place l.others)
