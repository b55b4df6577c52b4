use Rattle.std.proofs.Common.{ap, ◌∙◌, arith}
use Rattle.std.proofs.lemmas.Grind.{common_steps}
use Rattle.core_program.specs.Views.{program_of, expr_of}
use Rattle.core_program.proofs.ViewLemmas.{expr_of-Call, expr_of-New}
use Rattle.rules.specs.Mentions.{expr_mentions}
use Rattle.rules.proofs.ClauseLemmas.{clauses_append, more_exprs, last_of_two, two_read}
use Rattle.rules.proofs.body_clauses.+expressions.Goals as goal

pub add_expr-returns-in_ok-add_expr-in-Call : goal.add_expr-returns-in_ok-add_expr-in-Call
add_expr-returns-in_ok-add_expr-in-Call t c =
    let e = ap (λ x. expr_mentions (expr_of x)) c.in-Call.is ∙ ap expr_mentions (expr_of-Call c.in-Call.receiver c.in-Call.callee c.in-Call.args) in
    grind (arith, common_steps, clauses_append)

pub add_expr-returns-in_ok-add_expr-in-Binary : goal.add_expr-returns-in_ok-add_expr-in-Binary
add_expr-returns-in_ok-add_expr-in-Binary t c =
    let is = two_read c.in-Binary.a.value c.in-Binary.b.value c.deref.result.now c.deref-in-Binary.result.now _ (ap (λ x. expr_mentions (expr_of x)) c.in-Binary.is) c.deref.ensures c.deref-in-Binary.ensures in
    last_of_two _ (program_of c.args.program.now) c.args.method (expr_mentions (expr_of c.deref.result.now)) (expr_mentions (expr_of c.deref-in-Binary.result.now)) _ _ _ _ is c.in_ok-add_expr-in-Binary.ensures c.add_expr-in-Binary.ensures

pub add_expr-returns-in_ok-add_expr-in-And : goal.add_expr-returns-in_ok-add_expr-in-And
add_expr-returns-in_ok-add_expr-in-And t c =
    let is = two_read c.in-And.a.value c.in-And.b.value c.deref-in-And.result.now c.deref-in-And-2.result.now _ (ap (λ x. expr_mentions (expr_of x)) c.in-And.is) c.deref-in-And.ensures c.deref-in-And-2.ensures in
    last_of_two _ (program_of c.args.program.now) c.args.method (expr_mentions (expr_of c.deref-in-And.result.now)) (expr_mentions (expr_of c.deref-in-And-2.result.now)) _ _ _ _ is c.in_ok-add_expr-in-And.ensures c.add_expr-in-And-2.ensures

pub add_expr-returns-in_ok-add_expr-in-Or : goal.add_expr-returns-in_ok-add_expr-in-Or
add_expr-returns-in_ok-add_expr-in-Or t c =
    let is = two_read c.in-Or.a.value c.in-Or.b.value c.deref-in-Or.result.now c.deref-in-Or-2.result.now _ (ap (λ x. expr_mentions (expr_of x)) c.in-Or.is) c.deref-in-Or.ensures c.deref-in-Or-2.ensures in
    last_of_two _ (program_of c.args.program.now) c.args.method (expr_mentions (expr_of c.deref-in-Or.result.now)) (expr_mentions (expr_of c.deref-in-Or-2.result.now)) _ _ _ _ is c.in_ok-add_expr-in-Or.ensures c.add_expr-in-Or-2.ensures

pub add_exprs-loop-e-preserved : goal.add_exprs-loop-e-preserved
add_exprs-loop-e-preserved t c = more_exprs (program_of c.args.program.now) c.args.method c.args.es.now c.loop-e.e-index c.e-item.result _ _ _ c.loop-e-test.true c.e-item.is c.in_ok-add_expr.ensures c.loop-e.invariant

pub add_expr-returns-in-New : goal.add_expr-returns-in-New
add_expr-returns-in-New t c =
    let e = ap (λ x. expr_mentions (expr_of x)) c.in-New.is ∙ ap expr_mentions (expr_of-New c.in-New.field-0 c.in-New.args) in
    grind (arith, common_steps)
