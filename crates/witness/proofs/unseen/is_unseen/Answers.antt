-- The thread, as the machine keeps it and as the state has it.
use Rattle.std.proofs.Common.{◌≡◌, refl, sym, ap, subst, ◌∙◌}
use Rattle.std.specs.Prelude.{slice_get}
use Rattle.std.proofs.lemmas.Option.{slice_get_read}
use Rattle.core_program.specs.Views.{program_of}
use Rattle.state.specs.Memory.{IsNumbered}
use Rattle.machine.specs.Standing.{program_run}
use Rattle.witness.specs.Unseen.{IsNextLasting}
use Rattle.witness.proofs.ReachLemmas.{threads_unseen}
use Rattle.witness.proofs.unseen.is_unseen.Goals as goal

pub returns-in-Running : goal.returns-in-Running
returns-in-Running c = λ yes q stands.
    let m = c.args.machine.now in
    let cell = c.in-Some.cell.now in
    let heaps : c.heap-heap.result.now ≡ q.heap = c.heap-heap.ensures.objects ∙ stands.heap in
    threads_unseen (program_run m) m.code.code.items q c.args.thread
    (subst IsNumbered heaps c.heap-heap.ensures.numbered)
    (sym (c.is_inside.ensures q stands) ∙ c.if-is_inside.false)
    m.state.threads cell
    (ap (λ xs. slice_get xs c.args.thread) (sym c.threads.ensures) ∙ slice_get_read c.threads.result.now _ c.args.thread cell refl c.in-Some.ensures.lookup.3.0 c.in-Some.ensures.lookup.1)
    stands.threads
    (sym c.state.ensures ∙ c.in-Running.is)
    (subst (λ X. X) (λ j. IsNextLasting (program_of (c.program-program.ensures j)) ((c.requires j).code.items) (heaps j) cell) (c.is_quiet_next.ensures yes))
