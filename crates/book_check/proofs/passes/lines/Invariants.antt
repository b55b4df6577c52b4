use Rattle.std.proofs.Common.{◌≡◌, ◌≤◌, drop, length, map}
use Rattle.core_program.specs.Views.{method_of}
use Rattle.book_check.specs.Judges.{judge_program}
use Rattle.book_check.proofs.PassLemmas.{LinesSoFar}
use Rattle.book_check.proofs.passes.lines.Given as goal

abbrev pub invariant-methods : goal.invariant-methods
invariant-methods g l = record {
  kept : g.L.Lines.AreLinesKept l.ahead;
  methods : map method_of l.rest ≡ drop l.m (judge_program l.judge).methods;
  within : l.m ≤ length (judge_program l.judge).methods;
  so_far : LinesSoFar l.judge (g.L.Lines.lines l.fn.from) l.m (g.L.Lines.lines l.ahead);
}

abbrev pub decreases-methods : goal.decreases-methods
decreases-methods g l = length l.rest
