-- Either branch behind the condition.
use Rattle.conditions.specs.Conditions.{cond_of, value_of}
use Rattle.book_check.specs.Judges.{judge_value}
use Rattle.book_check.proofs.PairLemmas.{choice_below}
use Rattle.book_check.proofs.sequences.choice_below.Goals as goal

pub returns : goal.returns
returns c =
    choice_below (judge_value c.args.judge.now) c.args.numbers.now c.in-Some.branches.now c.in-Some-split_first.others.now c.in-Some-split_first-2.field-0-1.now
    c.in-Some.condition.now c.in-Some-split_first.first.now c.in-Some-split_first-2.second.now (value_of (cond_of c.args.d.now))
    c.in_ok-in_first.in_first c.in_ok-in_second.in_second c.both.result
    c.in-Some.ensures.cases.0 c.in-Some-split_first.ensures.cases.0 c.in-Some-split_first-2.ensures.cases.0 c.both.ensures
    c.in_ok-in_first.ensures c.in_ok-in_second.ensures
