-- What the judge's answer comes to.
use Rattle.std.proofs.Common.{subst}
use Rattle.witness.specs.declared.goal.Compared.TheVariants.{Objects}
use Rattle.witness.specs.Judging.{AreLike, IsJudged}
use Rattle.witness.specs.Verdicts.{program_of_case}
use Rattle.witness.proofs.VerdictLemmas.{shown, kept, undecided}
use Rattle.witness.proofs.verdict.told_of_many.Goals as goal

pub returns-in-Kept : goal.returns-in-Kept
returns-in-Kept c =
    let case = c.args.case.now in
    kept (program_of_case case) case.schedule.now case.most c.args.machine.now c.requires.end c.end_of.result.by c.in-Kept.order c.end_of.ensures.by
    (λ q stands. subst (IsJudged (program_of_case case) (AreLike c.end_of.result.by) case.most case.schedule.now q) c.in-Kept.is (c.in_ok-order.ensures q (c.end_of.ensures.goal q stands)))

pub returns-in-Undecided : goal.returns-in-Undecided
returns-in-Undecided c =
    let case = c.args.case.now in
    undecided (program_of_case case) case.schedule.now case.most c.args.machine.now c.requires.end c.end_of.result.by c.in-Undecided.seen
    (λ q stands. subst (IsJudged (program_of_case case) (AreLike c.end_of.result.by) case.most case.schedule.now q) c.in-Undecided.is (c.in_ok-order.ensures q (c.end_of.ensures.goal q stands)))

pub order_sense-requires-clause-broken : goal.order_sense-requires-clause-broken
order_sense-requires-clause-broken c =
    let case = c.args.case.now in
    shown (program_of_case case) case.schedule.now case.most c.args.machine.now c.requires.end Objects c.end_of.result.by c.in_ok-order.field-0 c.end_of.ensures.by
    (λ q stands. c.in_ok-order.ensures q (c.end_of.ensures.goal q stands)) c.in-Broken.is
