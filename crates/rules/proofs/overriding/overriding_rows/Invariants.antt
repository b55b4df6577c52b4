use Rattle.core_program.specs.Dispatch.{Overrides}
use Rattle.core_program.specs.Views.{program_of}
use Rattle.rules.specs.Overriding.{HaveFirst}
use Rattle.rules.specs.Search.{rows_of}
use Rattle.rules.proofs.overriding.overriding_rows.Given as goal

-- the methods so far are in the rows
abbrev pub invariant-loop-place : goal.invariant-loop-place
invariant-loop-place l = HaveFirst (λ over m. Overrides (program_of l.program) over m) (rows_of l.rows.items) l.place
