use Rattle.std.proofs.Common.{ap, map}
use Rattle.infer.specs.Tables.{chosen}
use Rattle.effects.proofs.Values.{value_same}
use Rattle.infer.proofs.table.value_of.Goals as goal

pub returns-clause-value : goal.returns-clause-value
returns-clause-value g c = value_same g.G.Algebra.value c.pick_held.new.algebra c.pick_held.result _ _
    (λ H.
    let bits = ap (map H) c.rel.ensures in
    λ i. chosen (bits i) (c.table_at.ensures i))
    c.pick_held.ensures.value
