use Rattle.std.proofs.Common.{◌≡◌, ◌++◌}
use Rattle.std.specs.Prelude.{drop}
use Rattle.serialise.specs.Spreading.{spread_threads}
use Rattle.serialise.proofs.spreading.spread_threads.Given as goal

abbrev pub invariant-loop-thread : goal.invariant-loop-thread
invariant-loop-thread l = l.order.items ++ spread_threads l.thread (drop l.thread l.sizes) ≡ l.initial.order.items ++ spread_threads 0 l.sizes
