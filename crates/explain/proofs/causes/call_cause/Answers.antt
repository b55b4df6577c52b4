use Rattle.std.proofs.Common.{ap, ◌∙◌}
use Rattle.algebra.specs.HeldPaths.{has_path}
use Rattle.core_program.specs.Views.{expr_of, exprs_from, program_of}
use Rattle.explain.specs.Causes.{call_cause}
use Rattle.explain.proofs.Stepping.{first_of}
use Rattle.explain.proofs.causes.call_cause.Goals as goal

pub returns : goal.returns
returns g c =
    c.lacking.ensures
    ∙ ap (call_cause (program_of c.args.walk.now.program.now) c.args.aliases.now (has_path c.args.held.now) (expr_of c.args.receiver.now) c.args.callee (exprs_from c.args.args.now))
    (c.first_lacking-path.ensures
    ∙ first_of (has_path c.as_slice.result.now) _ c.required_of-paths.result.now _ (ap has_path c.as_slice.ensures.value ∙ c.in_ok-known.ensures) c.required_of-paths.ensures)
