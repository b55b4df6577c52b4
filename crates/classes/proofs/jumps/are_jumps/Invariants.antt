use Rattle.std.proofs.Common.{◌<◌, ℕ, map}
use Rattle.classes.specs.Jumps.{IsJump}
use Rattle.classes.specs.Views.{class_data}
use Rattle.classes.proofs.jumps.are_jumps.Given as goal

abbrev pub invariant-loop-place : goal.invariant-loop-place
invariant-loop-place l = (k : ℕ) → k < l.place → IsJump (map class_data l.classes) l.jumps k
