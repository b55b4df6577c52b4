use Rattle.std.proofs.Common.{map, sym, ◌∙◌, ap}
use Rattle.std.specs.Cmp.{signed_Decides}
use Rattle.std.proofs.lemmas.Slice.Eq.{slice_eq-Decides}
use Rattle.state.specs.Frames.{code_thread}
use Rattle.machine.proofs.machine.Machine.same.Goals as goal

pub returns : goal.returns
returns c told =
    let threads = sym (ap (map code_thread) c.threads.ensures) ∙ c.same_threads.ensures c.if-not-same_threads.false ∙ ap (map code_thread) c.threads-2.ensures in
    let heaps = sym c.heap.ensures.objects ∙ c.same_heap.ensures.same c.if-not-same_heap.false ∙ c.heap-2.ensures.objects in
    let locks = sym c.locks.ensures ∙ c.same_locks.ensures c.if-not-same_locks.false ∙ c.locks-2.ensures in
    let same = (slice_eq-Decides signed_Decides c.output.result.now c.output-2.result.now c.eq.result c.eq.ensures).0 told in
    let outputs = sym c.output.ensures ∙ same ∙ c.output-2.ensures in
    λ i. record { heap = heaps i; locks = locks i; threads = threads i; output = outputs i }
