use Rattle.std.proofs.Common.{◌≡◌, ◌≤◌, ◌<◌, ℕ, Some, drop, length, map, slice_get}
use Rattle.core_program.specs.Core.{Method}
use Rattle.core_program.specs.Views.{method_of}
use Rattle.book_check.specs.Judges.{judge_program}
use Rattle.book_check.specs.Overs.{IsAboveNearest}
use Rattle.book_check.proofs.overs.are_above_nearest.Given as goal

-- the trees of the methods before this one are so
abbrev pub invariant-methods : goal.invariant-methods
invariant-methods l = record {
  methods : map method_of l.rest ≡ drop l.m (judge_program l.judge).methods;
  within : l.m ≤ length (judge_program l.judge).methods;
  before : (k : ℕ) (other : Method) → k < l.m → slice_get (judge_program l.judge).methods k ≡ Some other → IsAboveNearest l.judge l.near k other;
}

abbrev pub decreases-methods : goal.decreases-methods
decreases-methods l = length l.rest
