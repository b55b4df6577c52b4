use Rattle.std.proofs.Common.{◌≡◌, ◌++◌, ◌-◌}
use Rattle.core_program.specs.Views.{program_of}
use Rattle.rules.specs.Passing.{rows_clauses}
use Rattle.rules.proofs.passing.add_rows.Given as goal

-- the clauses so far and those of the methods that are left are those of all
abbrev pub invariant-loop-place : goal.invariant-loop-place
invariant-loop-place g l = l.clauses.items ++ rows_clauses (program_of l.program) (g.R.Overriding.rows l.over) l.place (l.count - l.place)
    ≡ l.fn.clauses.items ++ rows_clauses (program_of l.program) (g.R.Overriding.rows l.over) 0 l.count
