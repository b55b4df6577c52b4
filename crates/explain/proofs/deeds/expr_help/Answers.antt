use Rattle.std.proofs.Common.{ap, ◌∙◌}
use Rattle.algebra.specs.HeldPaths.{has_path}
use Rattle.core_program.specs.Views.{expr_of, program_of}
use Rattle.core_program.proofs.ViewLemmas.{expr_of-Call}
use Rattle.rules.specs.Near.{rel_of}
use Rattle.effects.specs.Parts.{ExprP}
use Rattle.explain.proofs.Stepping.{call_helped, call_unhelped}
use Rattle.explain.proofs.deeds.expr_help.Goals as goal

pub returns-in-Some : goal.returns-in-Some
returns-in-Some g c =
    call_helped (program_of c.args.walk.now.program.now) (rel_of c.args.walk.now.sets.now) (g.A.Assigned.assigned c.args.walk.now.assigned.now) (has_path c.args.held.now) (ExprP (expr_of c.args.e.now))
    c.in-Call.receiver.value c.in-Call.callee c.in-Call.args.items (ap ExprP (ap expr_of c.in-Call.is ∙ expr_of-Call c.in-Call.receiver c.in-Call.callee c.in-Call.args))
    c.args.aliases.now c.deref-in-Call.result.now c.as_slice.result.now c.in_ok-path-in-Call.field-0 c.hold.result c.deref-in-Call.ensures c.as_slice.ensures.value c.in_ok-path-in-Call.ensures
    c.in-Some.path c.in-Some.is c.hold.ensures

pub returns-in-None : goal.returns-in-None
returns-in-None g c =
    call_unhelped (program_of c.args.walk.now.program.now) (rel_of c.args.walk.now.sets.now) (g.A.Assigned.assigned c.args.walk.now.assigned.now) (has_path c.args.held.now) (ExprP (expr_of c.args.e.now))
    c.in-Call.receiver.value c.in-Call.callee c.in-Call.args.items (ap ExprP (ap expr_of c.in-Call.is ∙ expr_of-Call c.in-Call.receiver c.in-Call.callee c.in-Call.args))
    c.args.aliases.now c.deref-in-Call.result.now c.as_slice.result.now c.in_ok-path-in-Call.field-0 c.no_call_help.result c.deref-in-Call.ensures c.as_slice.ensures.value c.in_ok-path-in-Call.ensures
    c.deref-in-None.result.now c.deref-in-None.ensures c.in-None.is c.no_call_help.ensures
