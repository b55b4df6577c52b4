use Rattle.std.proofs.Common.{ap, ◌∙◌}
use Rattle.algebra.specs.HeldPaths.{has_path}
use Rattle.core_program.specs.Views.{expr_of, program_of}
use Rattle.core_program.proofs.ViewLemmas.{expr_of-Call}
use Rattle.rules.specs.Near.{rel_of}
use Rattle.rules.specs.Search.{row_at}
use Rattle.effects.specs.Parts.{ExprP}
use Rattle.explain.proofs.Stepping.{call_done}
use Rattle.explain.proofs.deeds.expr_deed.Goals as goal

pub returns-in-Call : goal.returns-in-Call
returns-in-Call g c =
    call_done (program_of c.args.walk.now.program.now) (rel_of c.args.walk.now.sets.now) (g.A.Assigned.assigned c.args.walk.now.assigned.now) (has_path c.args.held.now) (ExprP (expr_of c.args.e.now))
    c.in-Call.receiver.value c.in-Call.callee c.in-Call.args.items (ap ExprP (ap expr_of c.in-Call.is ∙ expr_of-Call c.in-Call.receiver c.in-Call.callee c.in-Call.args))
    (row_at c.args.over.now) c.deref-in-Call.result.now c.as_slice.result.now c.call_deed.result c.deref-in-Call.ensures c.as_slice.ensures.value c.call_deed.ensures
