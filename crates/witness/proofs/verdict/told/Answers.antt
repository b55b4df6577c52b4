-- What the judge's answer comes to.
use Rattle.std.proofs.Common.{subst}
use Rattle.witness.specs.declared.goal.Compared.TheVariants.{Objects}
use Rattle.witness.specs.Judging.{AreLike, IsJudged}
use Rattle.witness.specs.Verdicts.{program_of_case}
use Rattle.witness.proofs.VerdictLemmas.{shown, kept}
use Rattle.witness.proofs.verdict.told.Goals as goal

pub returns-in-Kept : goal.returns-in-Kept
returns-in-Kept c =
    let case = c.args.case.now in
    kept (program_of_case case) case.schedule.now c.first_states.result c.args.machine.now c.requires.end c.end_of.result.by c.in-Kept.order c.end_of.ensures.by
    (λ q stands. subst (IsJudged (program_of_case case) (AreLike c.end_of.result.by) c.first_states.result case.schedule.now q) c.in-Kept.is (c.in_ok-order.ensures q (c.end_of.ensures.goal q stands)))

pub strongest-requires-clause-broken : goal.strongest-requires-clause-broken
strongest-requires-clause-broken c =
    let case = c.args.case.now in
    shown (program_of_case case) case.schedule.now c.first_states.result c.args.machine.now c.requires.end Objects c.end_of.result.by c.in_ok-order.field-0 c.end_of.ensures.by
    (λ q stands. c.in_ok-order.ensures q (c.end_of.ensures.goal q stands)) c.in-Broken.is
