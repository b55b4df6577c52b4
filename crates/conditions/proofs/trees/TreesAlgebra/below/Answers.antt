use Rattle.std.proofs.Common.{sym, ◌∙◌}
use Rattle.conditions.specs.Conditions.{cond_of}
use Rattle.conditions.proofs.BelowLemmas.{below-exact}
use Rattle.conditions.proofs.trees.TreesAlgebra.below.Goals as goal

pub returns : goal.returns
returns c =
    let exact = below-exact (cond_of c.args.a.now) (cond_of c.args.b.now) c.requires.a_known c.requires.b_known in
    (λ found. exact.sound (sym c.below_in.ensures ∙ found), λ below. c.below_in.ensures ∙ exact.complete below)
