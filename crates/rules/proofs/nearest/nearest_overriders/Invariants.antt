use Rattle.std.proofs.Common.{◌≡◌, Some}
use Rattle.core_program.specs.Overridden.{next_overridden}
use Rattle.rules.specs.Overriding.{HaveFirst}
use Rattle.rules.specs.Search.{rows_of}
use Rattle.rules.proofs.nearest.nearest_overriders.Given as goal

-- the methods so far are in the rows
abbrev pub invariant-loop-place : goal.invariant-loop-place
invariant-loop-place l = HaveFirst (λ over m. next_overridden l.program over ≡ Some m) (rows_of l.rows.items) l.place
