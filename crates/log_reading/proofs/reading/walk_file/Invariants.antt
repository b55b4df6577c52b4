use Rattle.std.proofs.Common.{◌≡◌, ◌<◌, ◌+◌, ◌-◌, ℕ, List}
use Rattle.logs.specs.Views.{guards_data}
use Rattle.log_reading.specs.Reading.{HasReadSoFar}
use Rattle.logs.specs.Stops.{stand_of}
use Rattle.log_reading.proofs.reading.walk_file.Given as goal

abbrev pub invariant-chunks : goal.invariant-chunks
invariant-chunks g l = record {
  read : HasReadSoFar (guards_data l.guards) (g.F.Folder.told l.initial.folder l.name) l.at (stand_of l.walk);
  line : 0 < l.walk.line;
  told : (other : List ℕ) → g.F.Folder.told l.folder other ≡ g.F.Folder.told l.initial.folder other;
  calm : (other : List ℕ) → g.F.Folder.faults l.folder other ≡ g.F.Folder.faults l.initial.folder other;
}

abbrev pub decreases-chunks : goal.decreases-chunks
decreases-chunks g l = (l.limit + 1) - l.at
