use Rattle.std.proofs.Common.{◌≡◌, ℕ, ◌<◌, Some, slice_get, Vec, length}
use Rattle.std.specs.declared.alloc.Global.{Global}
use Rattle.logs.specs.Numbers.{number_of_word}
use Rattle.logs.specs.Tables.{at_number}
use Rattle.logs.specs.declared.judge.Phase.{Phase}
use Rattle.logs.specs.State.{depth_of}
use Rattle.logs.proofs.judge.Judge.open_thread.Given as goal

abbrev pub invariant-loop-place : goal.invariant-loop-place
invariant-loop-place l = record {
  end : l.place-end ≡ length l.self.phases.values.entries;
  none : (i : ℕ) (e : Vec ℕ Global × Phase) → i < l.place → slice_get l.self.phases.values.entries i ≡ Some e → depth_of (at_number l.self.phases.values.entries (number_of_word e.0.items)) ≡ 0;
}
