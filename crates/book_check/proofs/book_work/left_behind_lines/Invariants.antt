use Rattle.std.proofs.Common.{◌≡◌, ◌+◌, length, map}
use Rattle.conditions.specs.Conditions.{cond_of}
use Rattle.core_program.specs.Views.{method_of}
use Rattle.book_check.specs.BookWork.{lines_work}
use Rattle.book_check.proofs.book_work.left_behind_lines.Given as goal

-- what is taken and what is left to take are all
abbrev pub invariant-loop-line : goal.invariant-loop-line
invariant-loop-line g l = record {
  kept : g.L.Lines.AreLinesKept l.ahead;
  spent : lines_work (map cond_of l.table) (map method_of l.fn.methods) (g.L.Lines.lines l.fn.from) + l.behind ≡ l.fn.left + lines_work (map cond_of l.table) (map method_of l.methods) (g.L.Lines.lines l.ahead);
}

abbrev pub decreases-loop-line : goal.decreases-loop-line
decreases-loop-line g l = length (g.L.Lines.lines l.ahead)
