use Rattle.std.proofs.Common.{◌≡◌, ◌≤◌, drop, length, map}
use Rattle.core_program.specs.Views.{method_of, program_of}
use Rattle.book_check.proofs.PassLemmas.{ShapesSoFar}
use Rattle.book_check.proofs.passes.shapes.Given as goal

abbrev pub invariant-methods : goal.invariant-methods
invariant-methods g l = record {
  kept : g.L.Lines.AreLinesKept l.ahead;
  methods : map method_of l.rest ≡ drop l.m (program_of l.program).methods;
  within : l.m ≤ length (program_of l.program).methods;
  so_far : ShapesSoFar (program_of l.program).methods (g.L.Lines.lines l.fn.from) l.m l.numbers.items (g.L.Lines.lines l.ahead);
}

abbrev pub decreases-methods : goal.decreases-methods
decreases-methods g l = length l.rest
