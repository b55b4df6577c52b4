use Rattle.std.proofs.Common.{ap}
use Rattle.core_program.specs.Views.{program_of}
use Rattle.state.specs.States.{initial}
use Rattle.library.proofs.Neighbours.{run_to}
use Rattle.library.proofs.steps.reached.Goals as goal

pub returns-in-Ok-clause-stands : goal.returns-in-Ok-clause-stands
returns-in-Ok-clause-stands c q ran =
    let P = program_of c.args.program.now in
    run_to c.run.new.self P (program_of c.in_ok-machine.machine.program) c.args.schedule.now q (ap program_of c.in_ok-machine.ensures.program)
    (c.in-Ok.ensures.ran (initial P) c.in_ok-machine.ensures.stands) ran
