use Rattle.std.proofs.Common.{arith}
use Rattle.rules.specs.Near.{rel_of}
use Rattle.infer.specs.Tables.{table_assignment}
use Rattle.effects.proofs.Values.{keeps_both}
use Rattle.infer.proofs.ValueLemmas.{all_values, values_more, assigned_past}
use Rattle.infer.proofs.inference.values_of.Goals as goal

pub returns-clause-same : goal.returns-clause-same
returns-clause-same g c =
    let rel = rel_of c.args.sets.now in
    λ i m H. all_values g.G.Algebra.IsKnown g.G.Algebra.value (table_assignment rel c.args.tables.now) c.loop-method.algebra c.loop-method.values.items c.loop-method.method c.loop-method.invariant.values
    (λ n K past. assigned_past rel c.args.tables.now n K (omega (arith, past, c.loop-method-test.false))) m H i

pub loop-method-preserved : goal.loop-method-preserved
loop-method-preserved g c = record {
  values = values_more g.G.Algebra.IsKnown g.G.Algebra.value (table_assignment (rel_of c.args.sets.now) c.args.tables.now) c.loop-method.algebra c.value_of.new.algebra c.loop-method.values.items c.push.new.self.items
      c.in_ok-value_of.field-0 c.loop-method.method c.in_ok-push.ensures.items c.value_of.ensures.keeps c.in_ok-value_of.ensures.known c.in_ok-value_of.ensures.value c.loop-method.invariant.values;
  keeps = keeps_both g.G.Algebra.IsKnown g.G.Algebra.value _ _ _ c.loop-method.invariant.keeps c.value_of.ensures.keeps;
}
