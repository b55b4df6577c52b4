-- Numbers that are at most the number of steps.
use Rattle.std.specs.Prelude.{◌≡◌, ℕ, ◌+◌, ◌≤◌, Some}
use Rattle.std.specs.FinMap as map
use Rattle.state.specs.declared.value.Address.{Address}
use Rattle.state.specs.Memory.{Heap, Hold, Locks, made_by, IsNumbered}

-- After so many steps each thread's objects are numbered from 0, and there are at most so many of them, and one; and no lock
-- is taken more often.
pub record IsCounted (n : ℕ) (heap : Heap) (locks : Locks) : Type 0 where
  pub numbered : IsNumbered heap
  pub objects : (t : ℕ) → made_by t heap ≤ n + 1
  pub holds : (a : Address) (hold : Hold) → map.get locks a ≡ Some hold → hold.count ≤ n
