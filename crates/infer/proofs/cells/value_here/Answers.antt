use Rattle.std.proofs.Common.{◌++◌, map, ◌∙◌}
use Rattle.infer.specs.Bodies.{rel_at, known_paths}
use Rattle.infer.specs.Names.{known_name}
use Rattle.effects.proofs.Values.{value_same}
use Rattle.infer.proofs.KnownLemmas.{known_picked}
use Rattle.infer.proofs.cells.value_here.Goals as goal

pub returns-clause-value : goal.returns-clause-value
returns-clause-value g c =
    let walk = c.args.walk.now in
    let required = c.args.required.now in
    let names = c.as_slice.ensures.value ∙ c.in_ok-names.ensures ∙ (λ i. map (λ q. (q, known_name (required ++ c.rel-relevant.ensures i) q)) (c.rel.ensures i)) in
    value_same g.G.Algebra.value c.pick.new.algebra c.pick.result _ _
    (λ H. known_picked (rel_at walk) walk.tables.now c.args.method (known_paths walk required) _ _ H names c.table_at.ensures)
    c.pick.ensures.value
