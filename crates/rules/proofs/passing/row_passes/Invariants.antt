use Rattle.std.proofs.Common.{◌≡◌}
use Rattle.std.specs.Prelude.{drop}
use Rattle.core_program.specs.Views.{program_of}
use Rattle.rules.specs.Passing.{row_passes}
use Rattle.rules.proofs.passing.row_passes.Given as goal

-- it is left to the rest
abbrev pub invariant-loop-over : goal.invariant-loop-over
invariant-loop-over l = row_passes (program_of l.program) l.method (drop l.over-index l.row) ≡ row_passes (program_of l.program) l.method l.row
