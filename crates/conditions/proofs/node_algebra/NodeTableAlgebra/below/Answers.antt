-- The comparison of trees is exact.
use Rattle.std.proofs.Common.{sym, ◌∙◌}
use Rattle.conditions.proofs.BelowLemmas.{below-exact}
use Rattle.conditions.specs.Nodes.{tree_at}
use Rattle.conditions.proofs.node_algebra.NodeTableAlgebra.below.Goals as goal

pub returns : goal.returns
returns c =
    let f = c.below_at.ensures in
    let now = c.args.self.now in
    let exact = below-exact (tree_at now c.args.a.now.0) (tree_at now c.args.b.now.0) (f.table.canonical c.args.a.now.0 c.requires.a_known) (f.table.canonical c.args.b.now.0 c.requires.b_known) in
    (λ found. exact.sound (sym f.below ∙ found), λ below. f.below ∙ exact.complete below)
