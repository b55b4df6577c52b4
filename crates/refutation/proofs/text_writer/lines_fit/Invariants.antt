use Rattle.std.proofs.Common.{drop}
use Rattle.std.specs.List.{AllByRecursion}
use Rattle.refutation.specs.Lines.{AreAscending}
use Rattle.refutation.specs.Texts.{IsWritableLine}
use Rattle.refutation.proofs.text_writer.lines_fit.Given as goal

-- the paths of the rest ascend, and the rest can be written where all can
abbrev pub invariant-loop-line : goal.invariant-loop-line
invariant-loop-line l = record {
  ascend : AreAscending (drop l.line-index l.lines);
  all : AllByRecursion IsWritableLine (drop l.line-index l.lines) → AllByRecursion IsWritableLine l.lines;
  rest : AllByRecursion IsWritableLine l.lines → AllByRecursion IsWritableLine (drop l.line-index l.lines);
}
