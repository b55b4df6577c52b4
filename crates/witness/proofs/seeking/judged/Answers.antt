-- The sense of the judge's verdict.
use Rattle.witness.specs.Verdicts.{program_of_case}
use Rattle.witness.proofs.SenseLemmas.{broken_sense}
use Rattle.witness.proofs.seeking.judged.Goals as goal

pub returns-in-Ok : goal.returns-in-Ok
returns-in-Ok c =
    let case = c.args.case.now in
    broken_sense (program_of_case case) case.schedule.now case.most c.in-Ok.verdict c.sense_of.result c.in-Ok.ensures c.sense_of.ensures
