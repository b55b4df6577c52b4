-- What is left decides; a pair that is above the bound ends the loop.
use Rattle.conditions.specs.Conditions.{cond_of, value_of}
use Rattle.book_check.specs.Judges.{judge_table, judge_value}
use Rattle.book_check.specs.Pairs.{IsSequenceBelow}
use Rattle.std.proofs.Common.{map}
use Rattle.book_check.proofs.PairLemmas.{sequence_kept, sequence_stopped, sequence_ended, sequence_done, tabled_same}
use Rattle.book_check.proofs.pairs.sequence_below.Goals as goal

pub returns-then-not-branch : goal.returns-then-not-branch
returns-then-not-branch c =
    let V = judge_value c.args.judge.now in
    let l = value_of (cond_of c.args.last.now) in
    let d = value_of (cond_of c.args.d.now) in
    sequence_stopped V c.numbers.rest.now c.in-Some.others.now c.in-Some.number.now l d (value_of (cond_of c.in-Some-tree_at.first.now)) (IsSequenceBelow (map V c.args.numbers.now) l d)
    c.in_ok-pairs_below.field-0 c.in-Some.ensures.cases.0
    (tabled_same (judge_table c.args.judge.now) c.in-Some.number.now (cond_of c.in-Some-tree_at.first.now) c.in-Some-tree_at.ensures.tree)
    c.if-not-branch.true c.in_ok-pairs_below.ensures c.numbers.invariant

pub returns-then-not-branch-2 : goal.returns-then-not-branch-2
returns-then-not-branch-2 c =
    let V = judge_value c.args.judge.now in
    let l = value_of (cond_of c.args.last.now) in
    let d = value_of (cond_of c.args.d.now) in
    sequence_ended V c.numbers.rest.now c.in-Some.others.now c.in-Some.number.now l d (value_of (cond_of c.in-Some-tree_at.first.now)) (IsSequenceBelow (map V c.args.numbers.now) l d)
    c.in_ok-pair_below.field-0 c.in-Some.ensures.cases.0
    (tabled_same (judge_table c.args.judge.now) c.in-Some.number.now (cond_of c.in-Some-tree_at.first.now) c.in-Some-tree_at.ensures.tree)
    c.if-not-branch-2.true c.in_ok-pair_below.ensures c.numbers.invariant

pub numbers-preserved : goal.numbers-preserved
numbers-preserved c =
    let V = judge_value c.args.judge.now in
    let l = value_of (cond_of c.args.last.now) in
    let d = value_of (cond_of c.args.d.now) in
    sequence_kept V c.numbers.rest.now c.in-Some.others.now c.in-Some.number.now l d (value_of (cond_of c.in-Some-tree_at.first.now)) (IsSequenceBelow (map V c.args.numbers.now) l d)
    c.in_ok-pairs_below.field-0 c.in_ok-pair_below.field-0 c.in-Some.ensures.cases.0
    (tabled_same (judge_table c.args.judge.now) c.in-Some.number.now (cond_of c.in-Some-tree_at.first.now) c.in-Some-tree_at.ensures.tree)
    c.if-not-branch.false c.if-not-branch-2.false c.in_ok-pairs_below.ensures c.in_ok-pair_below.ensures c.numbers.invariant

pub returns : goal.returns
returns c =
    let V = judge_value c.args.judge.now in
    let l = value_of (cond_of c.args.last.now) in
    let d = value_of (cond_of c.args.d.now) in
    sequence_done V c.numbers.rest.now l d (value_of (cond_of c.leaf-none.result)) (IsSequenceBelow (map V c.args.numbers.now) l d) c.pair_below-2.result
    c.in_default.ensures.cases c.leaf-none.ensures.value c.pair_below-2.ensures c.numbers.invariant
