use Rattle.std.proofs.Common.{◌≡◌, ◌-◌, true}
use Rattle.core_program.specs.Views.{program_of}
use Rattle.rules.specs.Passing.{rows_pass}
use Rattle.rules.proofs.passing.do_pass.Given as goal

-- it is left to the methods that are left
abbrev pub invariant-loop-place : goal.invariant-loop-place
invariant-loop-place l = rows_pass (program_of l.program) l.near l.place (l.count - l.place) ≡ true → rows_pass (program_of l.program) l.near 0 l.count ≡ true
