use Rattle.std.proofs.Common.{◌≡◌, ◌+◌, ◌≤◌, length, take}
use Rattle.core_program.specs.Views.{program_of}
use Rattle.rules.specs.Near.{rel_of}
use Rattle.refutation.specs.Overs.{TellsOver}
use Rattle.refutation.specs.Tables.{said_by, TablesSay}
use Rattle.refutation.specs.Works.{most_work, look_work, work_left, program_work}
use Rattle.refutation.specs.Wrongs.{PassBefore, justified_at}
use Rattle.refutation.proofs.check.unjustified.Given as goal

-- the tables say what the lines so far say, which follow from those before them
abbrev pub invariant-loop-at : goal.invariant-loop-at
invariant-loop-at l = record {
  same : l.floors.sets.now ≡ l.sets;
  size : length l.floors.tables.items ≡ length (program_of l.program).methods;
  says : TablesSay (rel_of l.sets) l.floors.tables.items (take l.at l.lines);
  known : let rel = rel_of l.floors.sets.now in TellsOver (program_of l.program) rel (said_by rel l.floors.tables.items) l.looks.known.method l.looks.known.table l.looks.known.whole;
  left : let looks = look_work (program_of l.program) in let all = length (program_of l.program).methods in
      most_work + work_left looks l.floors.tables.items all ≤ l.looks.left + program_work looks (rel_of l.sets) all;
  before : PassBefore (justified_at (program_of l.program) (rel_of l.sets) l.lines) l.lines l.at;
}
