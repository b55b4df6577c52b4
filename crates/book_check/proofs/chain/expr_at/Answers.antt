-- A call in memory is a call as plain data.
use Rattle.std.proofs.Common.{sym, ap, ◌∙◌, map}
use Rattle.algebra.specs.Basics.{seq_of}
use Rattle.core_program.specs.Locks.{path_of}
use Rattle.core_program.specs.Views.{expr_of, exprs_from}
use Rattle.core_program.proofs.ViewLemmas.{expr_of-Call}
use Rattle.rules.specs.Effect.{call_of}
use Rattle.rules.specs.Mentions.{paths_of}
use Rattle.book_check.specs.Judges.{judge_assignment, judge_program, judge_rel, judge_value}
use Rattle.effects.specs.Rules.{expr_rule}
use Rattle.book_check.proofs.chain.expr_at.Goals as goal

pub returns-in_ok-call-in-Call : goal.returns-in_ok-call-in-Call
returns-in_ok-call-in-Call c = λ H holds.
    let j = c.args.judge.now in
    let P = judge_program j in
    let vs = map (judge_value j) c.args.numbers.now in
    let e = ap expr_of c.in-Call.is ∙ expr_of-Call c.in-Call.receiver c.in-Call.callee c.in-Call.args in
    let call = (λ i. call_of P (judge_rel j) (judge_assignment j) c.in-Call.callee (path_of P (expr_of (sym c.deref-in-Call.ensures i))) (paths_of P (exprs_from (sym c.as_slice.ensures.value i))) H)
    ∙ c.in_ok-call-in-Call.ensures H holds in
    ap (λ x. expr_rule P (judge_rel j) (judge_assignment j) x vs H) e
    ∙ (λ i. seq_of (c.in_ok-before-in-Call.ensures H holds i) (call i))
    ∙ sym c.seq-in-Call.ensures
