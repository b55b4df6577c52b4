-- The cells before this one are noted.
use Rattle.std.proofs.Common.{◌≡◌, ◌<◌, length}
use Rattle.fixpoint.specs.Waiting.{IsNoted}
use Rattle.fixpoint.proofs.rounds.note_all.Given as goal

abbrev pub invariant-loop-cell : goal.invariant-loop-cell
invariant-loop-cell l = record {
  noted : IsNoted (λ c. c < l.cell) l.fn.waits l.waits l.fn.next.items l.next.items;
  size : length l.waits ≡ length l.fn.waits;
  end : l.cell-end ≡ length l.fn.waits;
}
