use Rattle.std.proofs.Common.{sym, ap, ◌∙◌}
use Rattle.core_program.specs.Dispatch.{target_of}
use Rattle.core_program.specs.Views.{program_of}
use Rattle.machine.proofs.Keeping.{found_more}
use Rattle.machine.proofs.targets.Targets.kept.Goals as goal

pub invariant_of-self : goal.invariant_of-self
invariant_of-self c =
    found_more (program_of c.self.inside.program.now) c.self.inside.found c.insert.new.self c.args.class c.args.method c.in-Some.found c.insert.result c.insert.ensures.updates c.insert.ensures.err c.self.invariant
    (ap (λ p. target_of (program_of p) c.args.class c.args.method) c.self.view_is ∙ sym c.requires ∙ c.in-Some.is)
