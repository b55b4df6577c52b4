-- One tree more that avoids the slot.
use Rattle.conditions.specs.Conditions.{cond_of}
use Rattle.book_check.specs.Judges.{judge_table, judge_value}
use Rattle.book_check.proofs.PairLemmas.{tabled_same}
use Rattle.book_check.proofs.UnmovedLemmas.{avoid_more, avoid_none}
use Rattle.book_check.proofs.unmoved.all_avoid.Goals as goal

pub numbers-preserved : goal.numbers-preserved
numbers-preserved c = λ o H later.
    c.numbers.invariant o H
    (avoid_more (judge_value c.args.judge.now) c.numbers.rest.now c.in-Some.others.now c.in-Some.number.now (cond_of c.in-Some-tree_at.tree.now) c.args.slot
    c.in_ok-avoids.field-0 o H c.in-Some.ensures.cases.0
    (tabled_same (judge_table c.args.judge.now) c.in-Some.number.now (cond_of c.in-Some-tree_at.tree.now) c.in-Some-tree_at.ensures.tree)
    c.in_ok-avoids.ensures c.if-not-branch.false later)

pub returns : goal.returns
returns c = λ e o H. c.numbers.invariant o H (avoid_none (judge_value c.args.judge.now) c.numbers.rest.now c.args.slot o H c.in_default.ensures.cases)
