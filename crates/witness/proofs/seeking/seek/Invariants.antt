use Rattle.std.proofs.Common.{IfSome}
use Rattle.core_program.specs.Views.{program_of}
use Rattle.witness.specs.Findings.{IsShownBy}
use Rattle.witness.proofs.seeking.seek.Given as goal

abbrev pub invariant-plans : goal.invariant-plans
invariant-plans l = IfSome l.best (IsShownBy (program_of l.program))
