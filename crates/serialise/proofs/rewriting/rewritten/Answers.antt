use Rattle.std.proofs.Common.{refl}
use Rattle.core_program.specs.Views.{program_of}
use Rattle.serialise.proofs.RewritingResults.{order_alone, refused_alone}
use Rattle.serialise.proofs.rewriting.rewritten.Goals as goal

pub returns-in-Ok : goal.returns-in-Ok
returns-in-Ok c = order_alone (program_of c.args.program.now) c.args.schedule.now (λ r. r.order.items) (λ r. r.items) c.in-Ok.found c.in-Ok.found.order refl c.in-Ok.ensures.order

pub returns-in-Err : goal.returns-in-Err
returns-in-Err c = refused_alone (program_of c.args.program.now) c.args.schedule.now (λ r. r.order.items) (λ r. r.items) c.in-Err.end c.in-Err.ensures.order
