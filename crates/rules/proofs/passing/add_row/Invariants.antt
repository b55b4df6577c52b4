use Rattle.std.proofs.Common.{◌≡◌, ◌++◌, drop}
use Rattle.core_program.specs.Views.{program_of}
use Rattle.rules.specs.Passing.{row_clauses}
use Rattle.rules.proofs.passing.add_row.Given as goal

-- the clauses so far and those of the rest are those of all
abbrev pub invariant-loop-place : goal.invariant-loop-place
invariant-loop-place l = l.clauses.items ++ row_clauses (program_of l.program) l.method (drop l.place l.row) ≡ l.fn.clauses.items ++ row_clauses (program_of l.program) l.method l.row
