-- The end of the schedule, with or without a thread inside an atomic call.
use Rattle.std.proofs.Common.{ap, ◌∙◌}
use Rattle.core_program.specs.Views.{program_of}
use Rattle.witness.specs.Verdicts.{program_of_case}
use Rattle.witness.proofs.VerdictLemmas.{closed_end, open_end}
use Rattle.witness.proofs.verdict.ended.Goals as goal

pub returns : goal.returns
returns c =
    let case = c.args.case.now in
    let program = c.in_ok-machine.ensures.program in
    closed_end (program_of_case case) case.schedule.now c.in_ok-machine.machine c.run_whole.new.machine c.open_thread.result (ap program_of program)
    (ap program_of (c.in_ok-run_whole.ensures.program ∙ program)) c.in_ok-run_whole.ensures.ran c.open_thread.ensures c.in-None.is

pub returns-in-Some : goal.returns-in-Some
returns-in-Some c =
    let case = c.args.case.now in
    let program = c.in_ok-machine.ensures.program in
    open_end (program_of_case case) case.schedule.now c.in_ok-machine.machine c.run_whole.new.machine c.open_thread.result (ap program_of program)
    (ap program_of (c.in_ok-run_whole.ensures.program ∙ program)) c.in_ok-run_whole.ensures.ran c.open_thread.ensures c.in-Some.thread c.in-Some.is
