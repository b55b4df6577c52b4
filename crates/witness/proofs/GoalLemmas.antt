-- What a machine shows of the state that it stands for, beside the end that is looked for.
use Rattle.std.proofs.Common.{◌≡◌, List, sym, ◌∙◌}
use Rattle.std.specs.Prelude.{ℤ}
use Rattle.state.specs.Memory.{Heap}
use Rattle.state.specs.States.{State}
use Rattle.machine.specs.MachineValue.{MachineValue}
use Rattle.machine.specs.Standing.{StandsFor}
use Rattle.witness.specs.declared.goal.Goal.{Goal}
use Rattle.witness.specs.Judging.{IsGoal}

module _ (goal : Goal) (q e : State) (m : MachineValue) (g : IsGoal goal q) (h : StandsFor m e) where
  pub same_output : (printed : List ℤ) → printed ≡ m.state.output → goal.output.now ≡ printed → e.output ≡ q.output
  same_output printed is same = sym h.output ∙ sym is ∙ sym same ∙ g.printed

  pub output_same : (printed : List ℤ) → printed ≡ m.state.output → e.output ≡ q.output → goal.output.now ≡ printed
  output_same printed is same = g.printed ∙ sym same ∙ sym h.output ∙ sym is

  pub same_objects : (heap : Heap) → heap ≡ m.state.heap → goal.heap.now ≡ heap → e.heap ≡ q.heap
  same_objects heap is same = sym h.heap ∙ sym is ∙ sym same ∙ g.objects

  pub objects_same : (heap : Heap) → heap ≡ m.state.heap → e.heap ≡ q.heap → goal.heap.now ≡ heap
  objects_same heap is same = g.objects ∙ sym same ∙ sym h.heap ∙ sym is
