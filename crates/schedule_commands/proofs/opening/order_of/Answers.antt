-- The refusal of a schedule that isn't put in its open order.
use Rattle.core_program.specs.Views.{program_of}
use Rattle.schedule_commands.proofs.opening.order_of.Goals as goal

pub returns-in-Err-clause-order : goal.returns-in-Err-clause-order
returns-in-Err-clause-order c = c.refuse_end.ensures (program_of c.args.program.now) c.args.schedule.now c.in-Err.ensures.order.refused

pub returns-in-Ok-clause-order : goal.returns-in-Ok-clause-order
returns-in-Ok-clause-order c = c.in-Ok.ensures.order.opened
