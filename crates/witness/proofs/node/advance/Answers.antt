-- The node behind the step.
use Rattle.std.proofs.Common.{refl}
use Rattle.semantics.specs.Step.{outcome}
use Rattle.machine.specs.Standing.{program_run}
use Rattle.machine.proofs.Schedules.{turned}
use Rattle.witness.proofs.node.advance.Goals as goal

pub returns-in_ok-push-in-Ok : goal.returns-in_ok-push-in-Ok
returns-in_ok-push-in-Ok c = (
  record {
    machine = c.step.new.self;
    behind = record {
      machine = refl;
      waits = λ q stands. c.goes_on-node.ensures q stands;
      counts = λ u. c.use_entry.ensures u;
    };
    runs = c.step.ensures.program;
    coded = c.step.ensures.code;
    made = c.in-Ok.ensures.counted;
    steps = λ q stands. turned c.args.thread c.step.new.self q (outcome (program_run c.args.node.now.machine) q c.args.thread) (c.in-Ok.ensures.turn q stands);
  },
  refl,
  c.in_ok-push-in-Ok.ensures.items,
)
