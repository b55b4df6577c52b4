use Rattle.std.proofs.Common.{◌≡◌, map}
use Rattle.core_program.specs.Views.{program_of}
use Rattle.replay.specs.Views.{record_told, open_of}
use Rattle.replay.proofs.Replaying.{Reached}
use Rattle.serialise.specs.Tables.{value_or}
use Rattle.replay.proofs.calls.replay.Given as goal

abbrev pub invariant-loop-thread : goal.invariant-loop-thread
invariant-loop-thread l = (l.machine.program ≡ l.program) × (l.machine.made ≡ l.thread-index) × (l.entry ≡ l.thread-index)
    × Reached (program_of l.program) l.schedule l.machine (value_or 0 l.inside.items) l.thread-index (map record_told l.calls.items) (open_of l.open)
