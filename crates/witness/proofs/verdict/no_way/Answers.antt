-- That there is no way makes a full witness.
use Rattle.witness.specs.Verdicts.{program_of_case}
use Rattle.witness.proofs.VerdictLemmas.{shown_whole}
use Rattle.witness.proofs.verdict.no_way.Goals as goal

pub returns : goal.returns
returns c = λ told.
    let case = c.args.case.now in
    shown_whole (program_of_case case) case.schedule.now case.most c.args.machine.now c.requires.end c.args.by c.end_of.result.by c.in_ok-judged.judged c.end_of.ensures.by
    (λ q stands. c.in_ok-judged.ensures q (c.end_of.ensures.goal q stands)) (c.is_broken.ensures told)
