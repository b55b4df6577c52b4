-- One statement more that keeps the later values.
use Rattle.std.proofs.Common.{length, ap, arith}
use Rattle.book_check.specs.Judges.{judge_program, judge_value}
use Rattle.book_check.proofs.UnmovedLemmas.{unmoved_more, unmoved_none}
use Rattle.book_check.proofs.unmoved.is_sequence.Goals as goal

pub statements-init : goal.statements-init
statements-init c = record { same = c.requires; goes = λ all. all }

pub statements-preserved : goal.statements-preserved
statements-preserved c = record {
  same = omega (arith, c.statements.invariant.same, ap length c.in-Some.ensures.cases.0, ap length c.in-Some-split_first.ensures.cases.0);
  goes = λ rest.
      c.statements.invariant.goes
      (unmoved_more (judge_program c.args.judge.now) (judge_value c.args.judge.now) c.statements.statements.now c.in-Some.others.now c.statements.rest.now
      c.in-Some-split_first.later.now c.in-Some.s.now c.in-Some-split_first.field-0-0.now c.in-Some.ensures.cases.0 c.in-Some-split_first.ensures.cases.0
      (c.in_ok-keeps_values.ensures c.if-not-branch.false) rest);
}

pub returns : goal.returns
returns c = λ e H.
    c.statements.invariant.goes
    (λ K. unmoved_none (judge_program c.args.judge.now) (judge_value c.args.judge.now) c.statements.statements.now c.statements.rest.now c.in_default.ensures.cases c.statements.invariant.same K) H
