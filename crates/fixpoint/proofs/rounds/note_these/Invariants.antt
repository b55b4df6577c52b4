-- The cells so far are noted.
use Rattle.std.proofs.Common.{◌≡◌, length, take}
use Rattle.std.specs.Prelude.{Contains}
use Rattle.fixpoint.specs.Waiting.{IsNoted}
use Rattle.fixpoint.proofs.rounds.note_these.Given as goal

abbrev pub invariant-loop-cell : goal.invariant-loop-cell
invariant-loop-cell l = record {
  noted : IsNoted (Contains (take l.cell-index l.cells)) l.fn.waits l.waits l.fn.next.items l.next.items;
  size : length l.waits ≡ length l.fn.waits;
}
