-- A call in memory is a call as plain data.
use Rattle.std.proofs.Common.{ap, ◌∙◌, map, rules}
use Rattle.conditions.specs.Conditions.{cond_of, value_of}
use Rattle.core_program.specs.Locks.{path_of}
use Rattle.core_program.specs.Views.{expr_of, exprs_from}
use Rattle.core_program.proofs.ViewLemmas.{expr_of-Call}
use Rattle.rules.specs.Effect.{call_of}
use Rattle.rules.specs.Mentions.{paths_of}
use Rattle.book_check.specs.Judges.{judge_assignment, judge_program, judge_rel, judge_value}
use Rattle.effects.specs.Rules.{expr_rule}
use Rattle.book_check.proofs.PairLemmas.{sequence_step}
use Rattle.book_check.proofs.sequences.expr_below.Goals as goal

pub returns-in_ok-call-in-Call : goal.returns-in_ok-call-in-Call
returns-in_ok-call-in-Call c =
    let j = c.args.judge.now in
    let vs = map (judge_value j) c.args.numbers.now in
    let e = ap expr_of c.in-Call.is ∙ expr_of-Call c.in-Call.receiver c.in-Call.callee c.in-Call.args in
    sequence_step c.sequence_below-in-Call.result vs (value_of (cond_of c.in_ok-call-in-Call.call))
    (call_of (judge_program j) (judge_rel j) (judge_assignment j) c.in-Call.callee (path_of (judge_program j) (expr_of c.in-Call.receiver.value)) (paths_of (judge_program j) (exprs_from c.in-Call.args.items)))
    (value_of (cond_of c.args.d.now))
    (expr_rule (judge_program j) (judge_rel j) (judge_assignment j) (expr_of c.args.e.now) vs)
    (λ H. ap (λ x. expr_rule (judge_program j) (judge_rel j) (judge_assignment j) x vs H) e)
    (search rules) c.sequence_below-in-Call.ensures
