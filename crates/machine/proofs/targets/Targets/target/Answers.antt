use Rattle.std.proofs.Common.{sym, ap, ◌∙◌}
use Rattle.core_program.specs.Dispatch.{target_of}
use Rattle.core_program.specs.Views.{program_of}
use Rattle.machine.proofs.targets.Targets.target.Goals as goal

pub returns-in-Some : goal.returns-in-Some
returns-in-Some c =
    sym (c.self.invariant c.args.class c.args.method c.in-Some.runs.now (sym c.in-Some.ensures.value))
    ∙ ap (λ p. target_of (program_of p) c.args.class c.args.method) c.self.view_is
