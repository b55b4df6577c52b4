use Rattle.std.proofs.Common.{◌≡◌, ◌++◌, drop, List}
use Rattle.std.specs.List.{AllByRecursion}
use Rattle.std.specs.List.Sorted.{IsStrictlySortedBy}
use Rattle.paths.specs.Paths.{path_order}
use Rattle.algebra.specs.HeldPaths.{has_path}
use Rattle.core_program.specs.Views.{program_of}
use Rattle.rules.specs.Near.{rel_of}
use Rattle.rules.specs.Rules.{IsSubset}
use Rattle.refutation.specs.Passes.{MethodAtSet, pass}
use Rattle.refutation.specs.Ends.{KeptAgrees, cells_at}
use Rattle.refutation.specs.Waiting.{Adds}
use Rattle.refutation.specs.Bodies.{IsBodyKnown}
use Rattle.refutation.proofs.ask.ask_sets.Given as goal

-- a pass that asks the rest now goes as one that asks all from the start
abbrev pub invariant-loop-part : goal.invariant-loop-part
invariant-loop-part l =
    let P = program_of l.judged.program.now in let rel = rel_of l.judged.sets.now in
    record {
      agrees : KeptAgrees P l.judged.sets.now l.said.floors.sets.now l.said.floors.tables.items l.said.lines.items;
      ascend : AllByRecursion (IsStrictlySortedBy path_order) (drop l.part-index l.parts);
      inside : AllByRecursion (λ held. IsSubset (has_path held) (has_path (rel l.over.method))) (drop l.part-index l.parts);
      body : IsBodyKnown P rel l.over.method (drop l.part-index l.parts) l.said.lines.items l.bodies.table l.bodies.is_told l.bodies.is_said;
      adds : Adds l.over.method l.fn.said.lines.items l.said.lines.items;
      asked : (cs : List MethodAtSet) → pass P rel (cells_at l.over.method l.parts ++ cs) l.fn.said.lines.items ≡ pass P rel (cells_at l.over.method (drop l.part-index l.parts) ++ cs) l.said.lines.items;
    }
