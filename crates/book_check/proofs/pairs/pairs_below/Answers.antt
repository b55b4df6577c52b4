-- What is left decides; a pair that is above the bound ends the loop.
use Rattle.conditions.specs.Conditions.{cond_of, value_of}
use Rattle.book_check.specs.Judges.{judge_table, judge_value}
use Rattle.book_check.specs.Pairs.{ArePairsBelow}
use Rattle.std.proofs.Common.{map}
use Rattle.book_check.proofs.PairLemmas.{pairs_kept, pairs_stopped, pairs_done, tabled_same}
use Rattle.book_check.proofs.pairs.pairs_below.Goals as goal

pub returns-then-not-branch : goal.returns-then-not-branch
returns-then-not-branch c =
    let V = judge_value c.args.judge.now in
    let v = value_of (cond_of c.args.first.now) in
    let d = value_of (cond_of c.args.d.now) in
    pairs_stopped V c.numbers.rest.now c.in-Some.others.now c.in-Some.number.now v d (value_of (cond_of c.in-Some-tree_at.next.now)) (ArePairsBelow v (map V c.args.numbers.now) d)
    c.in_ok-pair_below.field-0 c.in-Some.ensures.cases.0
    (tabled_same (judge_table c.args.judge.now) c.in-Some.number.now (cond_of c.in-Some-tree_at.next.now) c.in-Some-tree_at.ensures.tree)
    c.if-not-branch.true c.in_ok-pair_below.ensures c.numbers.invariant

pub numbers-preserved : goal.numbers-preserved
numbers-preserved c =
    let V = judge_value c.args.judge.now in
    let v = value_of (cond_of c.args.first.now) in
    let d = value_of (cond_of c.args.d.now) in
    pairs_kept V c.numbers.rest.now c.in-Some.others.now c.in-Some.number.now v d (value_of (cond_of c.in-Some-tree_at.next.now)) (ArePairsBelow v (map V c.args.numbers.now) d)
    c.in_ok-pair_below.field-0 c.in-Some.ensures.cases.0
    (tabled_same (judge_table c.args.judge.now) c.in-Some.number.now (cond_of c.in-Some-tree_at.next.now) c.in-Some-tree_at.ensures.tree)
    c.if-not-branch.false c.in_ok-pair_below.ensures c.numbers.invariant

pub returns : goal.returns
returns c =
    let V = judge_value c.args.judge.now in
    let v = value_of (cond_of c.args.first.now) in
    let d = value_of (cond_of c.args.d.now) in
    pairs_done V c.numbers.rest.now v d (ArePairsBelow v (map V c.args.numbers.now) d) c.in_default.ensures.cases c.numbers.invariant
