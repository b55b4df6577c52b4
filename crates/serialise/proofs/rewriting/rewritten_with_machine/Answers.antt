use Rattle.core_program.specs.Views.{program_of}
use Rattle.serialise.proofs.RewritingResults.{rewriting}
use Rattle.serialise.proofs.rewriting.rewritten_with_machine.Goals as goal

pub returns-clause-order : goal.returns-clause-order
returns-clause-order c = rewriting (program_of c.args.program.now) c.args.schedule.now (λ r. r.order.items) c.rewrite.result c.rewrite.ensures.rewritten c.rewrite.ensures.refused
