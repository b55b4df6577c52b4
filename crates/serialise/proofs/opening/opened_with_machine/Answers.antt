use Rattle.core_program.specs.Views.{program_of}
use Rattle.serialise.proofs.OpeningResults.{opening}
use Rattle.serialise.proofs.opening.opened_with_machine.Goals as goal

pub returns-clause-order : goal.returns-clause-order
returns-clause-order c = opening (program_of c.args.program.now) c.args.schedule.now (λ r. r.order.items) c.run_in_order.result c.run_in_order.ensures.opened c.run_in_order.ensures.refused
