-- One method more, and all of them.
use Rattle.std.proofs.Common.{refl}
use Rattle.book_check.specs.Good.{IsUnderIn}
use Rattle.book_check.specs.Judges.{judge_assignment, judge_value}
use Rattle.book_check.proofs.LineLemmas.{each_more, each_all}
use Rattle.book_check.proofs.line.are_under_in.Goals as goal

pub loop-over-preserved : goal.loop-over-preserved
loop-over-preserved c =
    each_more (λ n. IsUnderIn c.args.rel.now c.args.required.now (judge_assignment c.args.steps.now.judge.now n) (judge_value c.args.steps.now.judge.now c.args.own)) c.args.overs.now c.loop-over.over-index c.over-item.result
    c.loop-over-test.true c.over-item.is c.loop-over.invariant (c.in_ok-is_under_in.ensures.under.0 c.if-not-branch.false)

pub returns-clause-under : goal.returns-clause-under
returns-clause-under c = (
  (λ e. each_all (λ n. IsUnderIn c.args.rel.now c.args.required.now (judge_assignment c.args.steps.now.judge.now n) (judge_value c.args.steps.now.judge.now c.args.own)) c.args.overs.now c.loop-over.over-index
      c.loop-over-test.false c.loop-over.invariant),
  (λ all. refl),
)
