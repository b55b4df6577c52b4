use Rattle.std.proofs.Common.{List, ◌++◌, map, ap, ◌∙◌}
use Rattle.state.specs.States.{ThreadOf}
use Rattle.state.specs.Frames.{CellFrame}
use Rattle.machine.specs.Standing.{program_run}
use Rattle.replay.specs.Plain.{plain_thread}
use Rattle.replay.proofs.Statuses.{statuses_same}
use Rattle.replay.proofs.plain.Plain.of.Goals as goal

pub returns : goal.returns
returns c q h =
    let m = c.args.machine.now in
    λ i. record {
      heap = (c.in_ok-heap.ensures ∙ c.heap.ensures.objects ∙ h.heap) i;
      locks = (c.in_ok-locks.ensures ∙ c.locks.ensures ∙ h.locks) i;
      threads = (c.in_ok-threads.ensures ∙ ap (λ (cs : List (ThreadOf CellFrame)). map plain_thread cs) c.threads.ensures ∙ statuses_same (program_run m) m.code.code.items m.state.threads q.threads h.threads) i;
      output = (c.in_ok-extend_from_slice.ensures.items ∙ ap (λ xs. xs ++ c.output-2.result.now) c.in_ok-output.ensures.items ∙ c.output-2.ensures ∙ h.output) i;
    }
