use Rattle.std.proofs.Common.{◌≡◌, ◌∙◌, subst, IfOk}
use Rattle.algebra.specs.HeldPaths.{Held, renamed}
use Rattle.conditions.specs.Conditions.{cond_of, value_of}
use Rattle.conditions.proofs.RenameLemmas.{rename-is}
use Rattle.conditions.proofs.AlgebraLemmas.{known_from, value_from}
use Rattle.conditions.proofs.trees.TreesAlgebra.rename.Goals as goal

pub returns-clause-known : goal.returns-clause-known
returns-clause-known c = known_from _ _ _ (rename-is c.as_slice.result.now (cond_of c.args.a.now) c.requires) c.rename_in.ensures

pub returns-clause-value : goal.returns-clause-value
returns-clause-value c =
    subst (λ pairs. IfOk c.rename_in.result (λ t. (H : Held) → value_of (cond_of t) H ≡ value_of (cond_of c.args.a.now) (renamed pairs H)))
    (c.as_slice.ensures.value ∙ c.map.view_is)
    (value_from _ _ _ (rename-is c.as_slice.result.now (cond_of c.args.a.now) c.requires) c.rename_in.ensures)
