use Rattle.std.proofs.Common.{sym, ap, ◌∙◌}
use Rattle.core_program.specs.Dispatch.{target_of}
use Rattle.core_program.specs.Views.{program_of}
use Rattle.machine.proofs.targets.Targets.+known.Goals as goal

pub returns-in-Some-clause-runs : goal.returns-in-Some-clause-runs
returns-in-Some-clause-runs t c =
    sym (c.self.invariant c.args.class c.args.method c.in-Some.runs.now (sym c.in-Some.ensures.value))
    ∙ ap (λ p. target_of (program_of p) c.args.class c.args.method) c.self.view_is
