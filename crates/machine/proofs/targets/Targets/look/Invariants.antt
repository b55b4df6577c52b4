use Rattle.std.proofs.Common.{◌≡◌}
use Rattle.core_program.specs.Dispatch.{target_of}
use Rattle.core_program.specs.Views.{program_of}
use Rattle.machine.specs.Upwards.{runs_below}
use Rattle.machine.proofs.targets.Targets.look.Given as goal

abbrev pub invariant-classes : goal.invariant-classes
invariant-classes l = runs_below l.nearest (target_of (program_of l.self) l.at l.method) ≡ target_of (program_of l.self) l.fn.class l.method
