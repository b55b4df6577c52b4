-- The measures of arms, arms with a list of parts, and the turns of loops and calls.
use Rattle.std.proofs.Common.{◌≡◌, ◌+◌, ◌-◌, true, suc, sym, ap, subst, ◌∙◌, arith}
use Rattle.std.specs.Prelude.{MatchResult}
use Rattle.std.proofs.lemmas.Bool.{lt-ltb}
use Rattle.std.proofs.lemmas.Result.{err_from_is_err_and}
use Rattle.core_program.specs.Core.{CallE, NewE, BlockS}
use Rattle.core_program.specs.Sizes.{nodes_of, nodes_of_each, stmt_nodes, stmt_nodes_each}
use Rattle.core_program.specs.Views.{program_of, method_of, expr_of, exprs_from, stmt_of, stmts_from}
use Rattle.core_program.proofs.ViewLemmas.{expr_of-Call, expr_of-New, stmt_of-Block}
use Rattle.replay.specs.Answers.{Gives}
use Rattle.replay.specs.Ends.{IsEvaluationEnd, ended}
use Rattle.replay.specs.Evaluating.{expr_answer, stmt_answer}
use Rattle.replay.specs.Evaluation.{lower_of}
use Rattle.replay.proofs.Sizes.{all_nodes, body_in, expr_in, stmt_in, one_turn_less}
use Rattle.replay.proofs.Steps.{loop_goes, loop_returns, loop_fails, body_fails}
use Rattle.replay.proofs.parts.+parts.Goals as goal

pub arguments-expr-requires : goal.arguments-expr-requires
arguments-expr-requires t c =
    let h = expr_in c.args.args.now c.loop-e.e-index c.e-item.result c.loop-e-test.true c.e-item.is in
    (omega (arith, h, c.decreases), c.requires)

pub block-statement-requires : goal.block-statement-requires
block-statement-requires t c =
    let h = stmt_in c.args.body.now c.loop-s.s-index c.s-item.result c.loop-s-test.true c.s-item.is in
    (omega (arith, h, c.decreases), c.requires)

pub enter-returns-in-None : goal.enter-returns-in-None
enter-returns-in-None t c =
    let P = program_of c.args.at.now.program.now in
    c.in-None.ensures.answer c.args.at.now.thread c.args.at.now.depth (lower_of P c.args.at.now.thread c.args.at.now.turns) c.args.values.now

pub expr-called-requires : goal.expr-called-requires
expr-called-requires t c =
    let e = ap (λ x. nodes_of (expr_of x)) c.in-Call.is ∙ ap nodes_of (expr_of-Call c.in-Call.a c.in-Call.method c.in-Call.args) in
    let d = ap (λ x. nodes_of (expr_of x)) c.deref-in-Call.ensures in
    let s = ap (λ xs. nodes_of_each (exprs_from xs)) c.as_slice.ensures.value in
    (omega (arith, e, d, s, c.decreases), c.requires)

pub expr-made-requires : goal.expr-made-requires
expr-made-requires t c =
    let e = ap (λ x. nodes_of (expr_of x)) c.in-New.is ∙ ap nodes_of (expr_of-New c.in-New.class c.in-New.args) in
    let s = ap (λ xs. nodes_of_each (exprs_from xs)) c.as_slice-in-New.ensures.value in
    (omega (arith, e, s, c.decreases), c.requires)

pub expr-returns-in-Call : goal.expr-returns-in-Call
expr-returns-in-Call t c =
    let P = program_of c.args.at.now.program.now in
    let whole : expr_of c.args.e.now ≡ CallE (expr_of c.deref-in-Call.result.now) c.in-Call.method (exprs_from c.as_slice.result.now) =
    ap expr_of c.in-Call.is ∙ expr_of-Call c.in-Call.a c.in-Call.method c.in-Call.args
    ∙ (λ i. CallE (expr_of (sym c.deref-in-Call.ensures i)) c.in-Call.method (exprs_from (sym c.as_slice.ensures.value i))) in
    subst (λ x. MatchResult c.called.result (λ v. expr_answer P c.args.at.now.thread c.args.at.now.turns c.args.at.now.depth c.args.slots.now x c.args.plain.now ≡ Gives v c.called.new.plain) (λ y. IsEvaluationEnd y (expr_answer P c.args.at.now.thread c.args.at.now.turns c.args.at.now.depth c.args.slots.now x c.args.plain.now)))
    (sym whole) c.called.ensures

pub expr-returns-in-New : goal.expr-returns-in-New
expr-returns-in-New t c =
    let P = program_of c.args.at.now.program.now in
    let whole : expr_of c.args.e.now ≡ NewE c.in-New.class (exprs_from c.as_slice-in-New.result.now) =
    ap expr_of c.in-New.is ∙ expr_of-New c.in-New.class c.in-New.args ∙ ap (λ xs. NewE c.in-New.class (exprs_from xs)) (sym c.as_slice-in-New.ensures.value) in
    subst (λ x. MatchResult c.made.result (λ v. expr_answer P c.args.at.now.thread c.args.at.now.turns c.args.at.now.depth c.args.slots.now x c.args.plain.now ≡ Gives v c.made.new.plain) (λ y. IsEvaluationEnd y (expr_answer P c.args.at.now.thread c.args.at.now.turns c.args.at.now.depth c.args.slots.now x c.args.plain.now)))
    (sym whole) c.made.ensures

pub statement-block-requires : goal.statement-block-requires
statement-block-requires t c =
    let e = ap (λ x. stmt_nodes (stmt_of x)) c.in-Block.is ∙ ap stmt_nodes (stmt_of-Block c.in-Block.body) in
    let s = ap (λ xs. stmt_nodes_each (stmts_from xs)) c.as_slice.ensures.value in
    (omega (arith, e, s, c.decreases), c.requires)

pub statement-returns-in-Block : goal.statement-returns-in-Block
statement-returns-in-Block t c =
    let P = program_of c.args.at.now.program.now in
    let whole : stmt_of c.args.s.now ≡ BlockS (stmts_from c.as_slice.result.now) =
    ap stmt_of c.in-Block.is ∙ stmt_of-Block c.in-Block.body ∙ ap (λ xs. BlockS (stmts_from xs)) (sym c.as_slice.ensures.value) in
    subst (λ x. MatchResult c.block.result (λ f. stmt_answer P c.args.at.now.thread c.args.at.now.turns c.args.at.now.depth c.args.slots.now x c.args.plain.now ≡ Gives (ended f c.block.new.slots) c.block.new.plain) (λ y. IsEvaluationEnd y (stmt_answer P c.args.at.now.thread c.args.at.now.turns c.args.at.now.depth c.args.slots.now x c.args.plain.now)))
    (sym whole) c.block.ensures

pub looped-turn-preserved : goal.looped-turn-preserved
looped-turn-preserved t c =
    let P = program_of c.args.at.now.program.now in
    let low = c.turn.invariant.0 in
    let left = c.if-left-eq0.false in
    let f = c.if-not-as_truth.false in
    let holds : c.as_truth.result ≡ true = grind (arith, f) in
    let one_less : c.turn.left ≡ suc (c.turn.left - 1) = omega (arith, left) in (
      omega (arith, low),
      loop_goes P c.args.at.now.thread c.args.at.now.depth (expr_of c.args.condition.now) (stmt_of c.args.body.now) c.turn.left (c.turn.left - 1) c.turn.slots c.statement.new.slots c.in_ok-v.v c.turn.plain c.expr.new.plain c.statement.new.plain _
          one_less c.in_ok-v.ensures (sym c.as_truth.ensures ∙ holds)
          (subst (λ g. stmt_answer P c.args.at.now.thread (c.turn.left - 1) c.args.at.now.depth c.turn.slots (stmt_of c.args.body.now) c.expr.new.plain ≡ Gives (ended g c.statement.new.slots) c.statement.new.plain) c.in-GoesOn.is c.in_ok-statement.ensures) c.turn.invariant.1,
    )

pub looped-returns-in-Returns : goal.looped-returns-in-Returns
looped-returns-in-Returns t c =
    let P = program_of c.args.at.now.program.now in
    let left = c.if-left-eq0.false in
    let f = c.if-not-as_truth.false in
    let holds : c.as_truth.result ≡ true = grind (arith, f) in
    let one_less : c.turn.left ≡ suc (c.turn.left - 1) = omega (arith, left) in
    loop_returns P c.args.at.now.thread c.args.at.now.depth (expr_of c.args.condition.now) (stmt_of c.args.body.now) c.turn.left (c.turn.left - 1) c.turn.slots c.statement.new.slots c.in_ok-v.v c.in-Returns.v c.turn.plain c.expr.new.plain c.statement.new.plain _
    one_less c.in_ok-v.ensures (sym c.as_truth.ensures ∙ holds)
    (subst (λ g. stmt_answer P c.args.at.now.thread (c.turn.left - 1) c.args.at.now.depth c.turn.slots (stmt_of c.args.body.now) c.expr.new.plain ≡ Gives (ended g c.statement.new.slots) c.statement.new.plain) c.in-Returns.is c.in_ok-statement.ensures) c.turn.invariant.1

pub looped-returns-in_err-statement : goal.looped-returns-in_err-statement
looped-returns-in_err-statement t c =
    let P = program_of c.args.at.now.program.now in
    let left = c.if-left-eq0.false in
    let f = c.if-not-as_truth.false in
    let holds : c.as_truth.result ≡ true = grind (arith, f) in
    let one_less : c.turn.left ≡ suc (c.turn.left - 1) = omega (arith, left) in
    let p = err_from_is_err_and c.from_residual-in_err-statement.result c.from_residual-in_err-statement.ensures.1 in
    rw (p.1, p.2)
    (loop_fails P c.args.at.now.thread c.args.at.now.depth (expr_of c.args.condition.now) (stmt_of c.args.body.now) c.turn.left (c.turn.left - 1) c.turn.slots c.in_ok-v.v c.turn.plain c.expr.new.plain c.in_err-statement.field-0.0 _
    one_less c.in_ok-v.ensures (sym c.as_truth.ensures ∙ holds) c.in_err-statement.ensures c.turn.invariant.1)

pub run_body-statement-requires : goal.run_body-statement-requires
run_body-statement-requires t c =
    let few = c.requires.few in
    let deep = c.if-at-eq100.false in
    let some = c.if-at-eq0.false in
    let body = body_in c.args.at.now.program.now.methods.items c.requires.listed.0 c.args.method.now c.requires.listed.1 in
    let less = one_turn_less c.args.at.now.turns (c.args.at.now.turns - 1) (all_nodes c.args.at.now.program.now.methods.items) (stmt_nodes (stmt_of c.args.method.now.body)) 0 (omega (arith, some)) body in
    (omega (arith, less, c.decreases), omega (arith, few, deep))

pub run_body-returns-in_err-flow : goal.run_body-returns-in_err-flow
run_body-returns-in_err-flow t c =
    let few = c.requires.few in
    let deep = c.if-at-eq100.false in
    let some = c.if-at-eq0.false in
    let one_less : c.args.at.now.turns ≡ suc (c.args.at.now.turns - 1) = omega (arith, some) in
    let one_more : c.args.at.now.depth + 1 ≡ suc c.args.at.now.depth = omega arith in
    let p = err_from_is_err_and c.from_residual-in_err-flow.result c.from_residual-in_err-flow.ensures.1 in
    rw (p.1, p.2)
    (body_fails (program_of c.args.at.now.program.now) c.args.at.now.thread c.args.at.now.turns c.args.at.now.depth (c.args.at.now.turns - 1) (method_of c.args.method.now) c.args.this c.args.values.now c.args.plain.now
    (c.args.at.now.depth + 1) c.as_mut_slice.result.now c.in_err-flow.field-0.0 one_less (lt-ltb c.args.at.now.depth 100 (omega (arith, few, deep))) one_more
    (c.as_mut_slice.ensures.value ∙ c.in_ok-slots.ensures) c.in_err-flow.ensures)
