-- The tree that is asked for is the conclusion's.
use Rattle.std.proofs.Common.{ap, map, subst, sym, ◌∙◌}
use Rattle.conditions.specs.Conditions.{cond_of, value_of}
use Rattle.rules.specs.Rules.{AtMost}
use Rattle.book_check.specs.Conclusions.{tree_numbered, conclusions, tests_only}
use Rattle.book_check.specs.Judges.{judge_assignment, judge_program, judge_rel, judge_table, judge_value}
use Rattle.effects.specs.Rules.{rule_of}
use Rattle.effects.specs.Bodies.{part_of}
use Rattle.book_check.specs.Nearness.{steps_near}
use Rattle.book_check.proofs.StepLemmas.{near_numbers, step_is}
use Rattle.book_check.proofs.PairLemmas.{tabled_same}
use Rattle.book_check.proofs.steps.is_step.Goals as goal

pub returns-clause-step : goal.returns-clause-step
returns-clause-step g c =
    let j = c.args.steps.now.judge.now in
    step_is c.is_above_rule.result (rule_of (judge_program j) (judge_rel j) (judge_assignment j) (part_of c.args.part) (map (judge_value j) c.as_slice.result.now))
    (value_of (cond_of c.in-Some.d.now))
    (rule_of (judge_program j) (judge_rel j) (judge_assignment j) (part_of c.args.part) (conclusions (judge_value j) (g.F.Nodes.nodes c.args.premises)))
    (judge_value j c.args.number)
    (λ H. ap (λ vs. rule_of (judge_program j) (judge_rel j) (judge_assignment j) (part_of c.args.part) vs H) (ap (map (judge_value j)) c.as_slice.ensures.value ∙ c.in_ok-numbers.ensures.values (judge_value j)))
    (tabled_same (judge_table j) c.args.number (cond_of c.in-Some.d.now) c.in-Some.ensures.tree)
    c.is_above_rule.ensures.step

pub returns-clause-near : goal.returns-clause-near
returns-clause-near g c = λ own here premises.
    let j = c.args.steps.now.judge.now in
    let near = steps_near c.args.steps.now in
    c.is_above_rule.ensures.near own
    (ap (λ o. tests_only near (tree_numbered o)) (sym c.in-Some.ensures.tree) ∙ here)
    (near_numbers near (judge_table j) (g.F.Nodes.nodes c.args.premises) c.as_slice.result.now (c.as_slice.ensures.value ∙ c.in_ok-numbers.ensures.numbers) premises)

pub returns-in-Some-plain_step-clause-step : goal.returns-in-Some-plain_step-clause-step
returns-in-Some-plain_step-clause-step g c =
    let j = c.args.steps.now.judge.now in
    let vs = conclusions (judge_value j) (g.F.Nodes.nodes c.args.premises) in
    let same = tabled_same (judge_table j) c.args.number (cond_of c.in-Some.d.now) c.in-Some.ensures.tree in
    let test = c.in-Some-plain_step.ensures (judge_rel j) (judge_assignment j) in (
      (λ e H. subst (λ z. AtMost (rule_of (judge_program j) (judge_rel j) (judge_assignment j) (part_of c.args.part) vs H) z) (same H) (test.0 e H)),
      (λ all. test.1 (λ H. subst (λ z. AtMost (rule_of (judge_program j) (judge_rel j) (judge_assignment j) (part_of c.args.part) vs H) z) (sym (same H)) (all H))),
    )
