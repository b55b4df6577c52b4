-- The pairs that are lent are those of the map.
use Rattle.std.proofs.Common.{◌≡◌, ◌∙◌, subst}
use Rattle.algebra.specs.HeldPaths.{Held, renamed}
use Rattle.conditions.specs.Conditions.{value_of}
use Rattle.conditions.proofs.RenameLemmas.{rename-is}
use Rattle.conditions.specs.Nodes.{tree_at}
use Rattle.conditions.proofs.Values.{value_by}
use Rattle.conditions.proofs.node_algebra.NodeTableAlgebra.rename.Goals as goal

pub returns-clause-value : goal.returns-clause-value
returns-clause-value c =
    let f = c.in_ok-renamed.ensures in
    let old = c.args.self.now in
    subst (λ pairs. (H : Held) → value_of (tree_at c.renamed.new.self c.in_ok-renamed.field-0) H ≡ value_of (tree_at old c.args.a.now.0) (renamed pairs H))
    (c.as_slice.ensures.value ∙ c.map.view_is)
    (value_by c.renamed.new.self c.in_ok-renamed.field-0 _ _ f.stands (rename-is c.as_slice.result.now (tree_at old c.args.a.now.0) (f.grows.was.canonical c.args.a.now.0 c.requires)))
