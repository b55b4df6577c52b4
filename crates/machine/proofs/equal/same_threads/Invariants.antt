use Rattle.std.proofs.Common.{◌≡◌, take}
use Rattle.std.specs.Prelude.{map}
use Rattle.state.specs.Frames.{code_thread}
use Rattle.machine.proofs.equal.same_threads.Given as goal

abbrev pub invariant-loop-place : goal.invariant-loop-place
invariant-loop-place l = map code_thread (take l.place l.some) ≡ map code_thread (take l.place l.others)
