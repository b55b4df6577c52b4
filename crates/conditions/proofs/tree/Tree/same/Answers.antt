use Rattle.std.proofs.Common.{sym, ◌∙◌}
use Rattle.conditions.specs.Conditions.{cond_of}
use Rattle.conditions.proofs.CondLemmas.{cond_eq-is, is-cond_eq}
use Rattle.conditions.proofs.tree.Tree.same.Goals as goal

pub returns : goal.returns
returns c =
    let t = cond_of c.args.self.now in
    let u = cond_of c.args.other.now in
    (λ found. cond_eq-is t u (sym c.same_tree.ensures ∙ found), λ equal. c.same_tree.ensures ∙ is-cond_eq t u equal)
