-- A call that is an error by itself.
use Rattle.std.proofs.Common.{ap, sym, ◌∙◌}
use Rattle.algebra.specs.HeldPaths.{has_path}
use Rattle.core_program.proofs.ViewLemmas.{expr_of-Call}
use Rattle.core_program.specs.Locks.{path_of}
use Rattle.core_program.specs.Views.{expr_of, exprs_from, program_of}
use Rattle.effects.specs.Parts.{ExprP}
use Rattle.rules.specs.Effect.{call_of}
use Rattle.rules.specs.Mentions.{paths_of}
use Rattle.rules.specs.Near.{rel_of}
use Rattle.explain.specs.PartEffects.{own_of}
use Rattle.explain.specs.StepReadings.{is_error}
use Rattle.explain.proofs.errors.is_wrong_expr.Goals as goal

pub returns-in_ok-own-in-Call : goal.returns-in_ok-own-in-Call
returns-in_ok-own-in-Call g c =
    let P = program_of c.args.walk.now.program.now in let rel = rel_of c.args.walk.now.sets.now in let A = g.A.Assigned.assigned c.args.walk.now.assigned.now in
    let H = has_path c.args.held.now in
    c.is_error-in-Call.ensures
    ∙ ap is_error (c.in_ok-own-in-Call.ensures ∙ (λ i. call_of P rel A c.in-Call.callee (path_of P (expr_of (c.deref-in-Call.ensures i))) (paths_of P (exprs_from (c.as_slice.ensures.value i))) H))
    ∙ ap (λ z. is_error (own_of P rel A (ExprP z) H)) (sym (ap expr_of c.in-Call.is ∙ expr_of-Call c.in-Call.receiver c.in-Call.callee c.in-Call.args))
