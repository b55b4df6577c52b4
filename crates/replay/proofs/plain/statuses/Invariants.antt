use Rattle.std.proofs.Common.{◌≡◌, map}
use Rattle.std.specs.Prelude.{take}
use Rattle.replay.specs.Plain.{plain_thread}
use Rattle.replay.specs.Entries.{plain_thread_of}
use Rattle.replay.proofs.plain.statuses.Given as goal

abbrev pub invariant-loop-cell : goal.invariant-loop-cell
invariant-loop-cell l = map plain_thread_of l.entries.items ≡ map plain_thread (take l.cell-index l.cells)
