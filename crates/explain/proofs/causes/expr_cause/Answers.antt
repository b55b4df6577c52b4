use Rattle.std.proofs.Common.{ap, ◌∙◌}
use Rattle.algebra.specs.HeldPaths.{has_path}
use Rattle.core_program.specs.Views.{expr_of, program_of}
use Rattle.core_program.proofs.ViewLemmas.{expr_of-Call}
use Rattle.rules.specs.Near.{rel_of}
use Rattle.effects.specs.Parts.{ExprP}
use Rattle.explain.proofs.Stepping.{call_caused}
use Rattle.explain.proofs.causes.expr_cause.Goals as goal

pub returns-in-Call : goal.returns-in-Call
returns-in-Call g c =
    call_caused (program_of c.args.walk.now.program.now) (rel_of c.args.walk.now.sets.now) c.args.aliases.now (has_path c.args.held.now) (ExprP (expr_of c.args.e.now))
    c.in-Call.receiver.value c.in-Call.callee c.in-Call.args.items (ap ExprP (ap expr_of c.in-Call.is ∙ expr_of-Call c.in-Call.receiver c.in-Call.callee c.in-Call.args))
    c.deref-in-Call.result.now c.as_slice.result.now c.call_cause.result c.deref-in-Call.ensures c.as_slice.ensures.value c.call_cause.ensures
