use Rattle.std.proofs.Common.{◌≡◌, length}
use Rattle.core_program.specs.Views.{program_of}
use Rattle.rules.specs.Search.{row_at as overs_at}
use Rattle.rules.proofs.CalleeLemmas.{SoFar}
use Rattle.rules.proofs.callers.add_methods.Given as goal

-- the methods before this one were looked at
abbrev pub invariant-loop-caller : goal.invariant-loop-caller
invariant-loop-caller g l = record {
  size : length l.rows ≡ length l.fn.rows;
  callers : SoFar (program_of l.program) (overs_at (g.R.Overriding.rows l.over)) l.rows l.caller;
}
