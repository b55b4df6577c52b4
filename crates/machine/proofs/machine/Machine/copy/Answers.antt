use Rattle.std.proofs.Common.{length, ◌∙◌, ap, arith}
use Rattle.core_program.specs.Views.{program_of}
use Rattle.machine.proofs.EqualMaps.{kept_still, counted_still}
use Rattle.machine.proofs.machine.Machine.copy.Goals as goal

pub invariant_of-result : goal.invariant_of-result
invariant_of-result c =
    let i = c.self.inside in
    let v = c.self.invariant in
    let threads = c.in_ok-threads.ensures ∙ c.as_slice-2.ensures.value in
    let outputs = c.in_ok-output.ensures ∙ c.as_slice.ensures.value in
    let code = i.code.now in (
      v.0,
      omega (arith, v.1, ap length threads),
      v.2,
      kept_still (program_of i.program.now) code.code.items code.entry.items code.room.items i.shared.heap c.in_ok-heap.heap i.shared.locks c.in_ok-locks.locks i.threads.items c.in_ok-threads.threads.items
          i.shared.output.items c.in_ok-output.output.items c.in_ok-heap.ensures c.in_ok-locks.ensures threads outputs v.3,
      counted_still i.made i.shared.heap c.in_ok-heap.heap i.shared.locks c.in_ok-locks.locks c.in_ok-heap.ensures c.in_ok-locks.ensures v.4,
      c.afresh.ensures ∙ v.5,
    )

pub returns : goal.returns
returns c =
    let i = c.self.inside in
    let threads = c.in_ok-threads.ensures ∙ c.as_slice-2.ensures.value in
    let heaps = c.in_ok-heap.ensures in
    let locks = c.in_ok-locks.ensures in
    let outputs = c.in_ok-output.ensures ∙ c.as_slice.ensures.value in
    (λ j. record { program = i.program.now; code = i.code.now; state = record { heap = heaps j; locks = locks j; threads = threads j; output = outputs j }; made = i.made }) ∙ c.self.view_is
