-- From what an operation means on plain trees to the clauses of the algebra.
use Rattle.std.proofs.Common.{◌≡◌, sym, ap, ◌∙◌, subst, Result, Ok, Err, IfOk}
use Rattle.algebra.specs.declared.basic.Basic.{Basic}
use Rattle.algebra.specs.HeldPaths.{Held}
use Rattle.conditions.specs.declared.tree.Tree.{Tree}
use Rattle.conditions.specs.Conditions.{Cond, cond_of, value_of, IsCanonical}
use Rattle.conditions.proofs.NodeLemmas.{Is}

pub known_from : {E : Type 0} (v : Held → Basic) (t : Cond) (r : Result Tree E) → Is v t → IfOk r (λ x. cond_of x ≡ t) → IfOk r (λ x. IsCanonical (cond_of x))
known_from v t (Ok x) is same = subst IsCanonical (sym same) is.canonical
known_from v t (Err e) is same = tt

pub value_from : {E : Type 0} (v : Held → Basic) (t : Cond) (r : Result Tree E) → Is v t → IfOk r (λ x. cond_of x ≡ t) → IfOk r (λ x. (H : Held) → value_of (cond_of x) H ≡ v H)
value_from v t (Ok x) is same = λ H. ap (λ u. value_of u H) same ∙ is.same H
value_from v t (Err e) is same = tt
