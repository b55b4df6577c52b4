use Rattle.std.proofs.Common.{◌≡◌, length, take}
use Rattle.rules.specs.Near.{rel_of}
use Rattle.refutation.specs.Overs.{SaysNoMore}
use Rattle.refutation.specs.Tables.{said_by}
use Rattle.refutation.specs.Waiting.{AreWokenBut}
use Rattle.refutation.proofs.waiting.wake_overridden.Given as goal

-- those of the methods so far wait of which less is said
abbrev pub invariant-loop-place : goal.invariant-loop-place
invariant-loop-place l =
    let rel = rel_of l.floors.sets.now in
    record {
      size : length l.waits ≡ length l.fn.waits;
      woken : AreWokenBut (SaysNoMore rel (said_by rel l.floors.tables.items) l.risen) l.fn.waits l.waits (take l.place-index l.methods);
    }
