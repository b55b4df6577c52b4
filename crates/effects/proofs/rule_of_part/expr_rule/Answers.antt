-- A call in memory is a call as plain data.
use Rattle.std.proofs.Common.{sym, ap, ◌∙◌, map, rules}
use Rattle.core_program.specs.Core.{CallE}
use Rattle.core_program.specs.Views.{expr_of, exprs_from}
use Rattle.core_program.proofs.ViewLemmas.{expr_of-Call}
use Rattle.effects.specs.Rules.{expr_rule_in}
use Rattle.effects.proofs.Values.{value_same}
use Rattle.effects.proofs.rule_of_part.expr_rule.Goals as goal

pub returns-in-Call-clause-value : goal.returns-in-Call-clause-value
returns-in-Call-clause-value g c =
    let P = g.C.Context.plain c.args.context.now in
    let called = g.C.Context.called c.args.context.now in
    let vs = map (g.G.Algebra.value c.args.algebra.now) c.args.values.now in
    let e = ap expr_of c.in-Call.is ∙ expr_of-Call c.in-Call.receiver c.in-Call.callee c.in-Call.args in
    value_same g.G.Algebra.value c.then_call.new.algebra c.then_call.result
    (expr_rule_in P called (CallE (expr_of c.in-Call.receiver.value) c.in-Call.callee (exprs_from c.in-Call.args.items)) vs)
    (expr_rule_in P called (expr_of c.args.e.now) vs)
    (λ H. ap (λ x. expr_rule_in P called x vs H) (sym e))
    (search rules)
