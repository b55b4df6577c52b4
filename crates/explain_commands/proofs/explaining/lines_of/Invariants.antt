use Rattle.std.proofs.Common.{◌≡◌, map, string_bytes}
use Rattle.classes.specs.Views.{table_data}
use Rattle.core_program.specs.Views.{program_of}
use Rattle.explain_commands.specs.Explained.{page_of}
use Rattle.explain_commands.proofs.Writing.{AreSoFar}
use Rattle.rules.specs.Near.{rel_of}
use Rattle.rules.specs.Search.{row_at}
use Rattle.syntax.specs.Views.{member_of}
use Rattle.explain_commands.proofs.explaining.lines_of.Given as goal

-- whatever lines of the rest complete the lines so far to those of all, and the fields are those of the program
abbrev pub invariant-loop-x : goal.invariant-loop-x
invariant-loop-x g l = record {
  texts : AreSoFar (program_of l.walk.program.now) (rel_of l.walk.sets.now) (g.A.Assigned.assigned l.walk.assigned.now)
      (page_of l.told.file.now l.told.index.now (table_data l.told.source.now.table) (map (λ m. member_of m.now) l.told.methods.now.items)) (row_at l.over)
      l.all l.x-index (string_bytes l.text);
  finals : l.finals ≡ l.walk.program.now;
}
