-- Comparisons with the value of a rule, and nodes that are near.
use Rattle.std.proofs.Common.{◌≡◌, ◌↔◌, ℕ, Bool, true, List, Result, Ok, Err, IfOk, refl, sym, ◌∙◌, ap, subst}
use Rattle.std.proofs.lemmas.Bool.{and_from}
use Rattle.std.specs.List.{list_all}
use Rattle.paths.specs.Paths.{PathData}
use Rattle.algebra.specs.HeldPaths.{Held}
use Rattle.conditions.specs.Conditions.{Cond}
use Rattle.books.specs.Derivations.{node, Nodes, no_nodes, and_node}
use Rattle.rules.specs.Rules.{AtMost}
use Rattle.effects.specs.Rules.{Value}
use Rattle.book_check.specs.Nearness.{is_near, conclusion_numbers, AreAllNear}

-- a comparison of two trees, in other words
pub step_is : {E : Type 0} (r : Result Bool E) (a b c d : Value) → ((H : Held) → a H ≡ c H) → ((H : Held) → b H ≡ d H) →
    IfOk r (λ x. (x ≡ true) ↔ ((H : Held) → AtMost (a H) (b H))) → IfOk r (λ x. (x ≡ true) ↔ ((H : Held) → AtMost (c H) (d H)))
step_is (Ok x) a b c d first second test = (
  (λ e H. subst (λ z. AtMost z (d H)) (first H) (subst (λ z. AtMost (a H) z) (second H) (test.0 e H))),
  (λ all. test.1 (λ H. subst (λ z. AtMost z (b H)) (sym (first H)) (subst (λ z. AtMost (c H) z) (sym (second H)) (all H)))),
)
step_is (Err e) a b c d first second test = tt

all_near : (paths : List PathData) (table : List Cond) (ds : Nodes) → AreAllNear paths table ds → list_all (is_near paths table) (conclusion_numbers ds) ≡ true
all_near paths table no_nodes are = refl
all_near paths table (and_node (node w n es) ds) are = and_from (is_near paths table n) (list_all (is_near paths table) (conclusion_numbers ds)) are.0.0 (all_near paths table ds are.1)

-- the trees of near nodes
pub near_numbers : (paths : List PathData) (table : List Cond) (ds : Nodes) (ns : List ℕ) → ns ≡ conclusion_numbers ds → AreAllNear paths table ds → list_all (is_near paths table) ns ≡ true
near_numbers paths table ds ns is are = ap (list_all (is_near paths table)) is ∙ all_near paths table ds are
