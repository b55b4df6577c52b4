use Rattle.algebra.specs.Values.{Keeps}
use Rattle.rules.specs.Near.{rel_of}
use Rattle.infer.specs.Tables.{table_assignment}
use Rattle.infer.proofs.ValueLemmas.{AreValues}
use Rattle.infer.proofs.inference.values_of.Given as goal

-- the methods before this one have their values, and what was known is known still
abbrev pub invariant-loop-method : goal.invariant-loop-method
invariant-loop-method G l = record {
  values : AreValues G.G.Algebra.IsKnown G.G.Algebra.value (table_assignment (rel_of l.sets) l.tables) l.algebra l.values.items l.method;
  keeps : Keeps G.G.Algebra.IsKnown G.G.Algebra.value l.fn.algebra l.algebra;
}
