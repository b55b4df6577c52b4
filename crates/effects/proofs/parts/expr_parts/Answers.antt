-- Arguments in memory are arguments as plain data.
use Rattle.std.proofs.Common.{sym, ap, ◌∙◌, ◌∷◌}
use Rattle.core_program.specs.Views.{expr_of, exprs_from}
use Rattle.core_program.proofs.ViewLemmas.{expr_of-Call, expr_of-New}
use Rattle.effects.specs.Parts.{ExprP, args_parts, parts_of}
use Rattle.effects.proofs.parts.expr_parts.Goals as goal

pub returns-in-Call : goal.returns-in-Call
returns-in-Call c =
    let e = ap expr_of c.in-Call.is ∙ expr_of-Call c.in-Call.a c.in-Call.field-1 c.in-Call.args in
    (λ i. ExprP (expr_of (c.deref.ensures i)) ∷ args_parts (exprs_from (c.as_slice.ensures.value i))) ∙ sym (ap (λ x. parts_of (ExprP x)) e)

pub returns-in-New : goal.returns-in-New
returns-in-New c =
    let e = ap expr_of c.in-New.is ∙ expr_of-New c.in-New.field-0 c.in-New.args in
    ap (λ xs. args_parts (exprs_from xs)) c.as_slice-in-New.ensures.value ∙ sym (ap (λ x. parts_of (ExprP x)) e)
