-- Where walks end.
use Rattle.std.proofs.Common.{◌≡◌, ℕ, suc, ◌+◌, ◌↔◌, Bool, true, List, [], ◌∷◌, ◌++◌, length, length-append, Result, Ok, Err, IfOk, refl, sym, ◌∙◌, ap, subst, arith}
use Rattle.books.specs.declared.word.Word.{Word}
use Rattle.books.specs.Derivations.{Node, node, Nodes, no_nodes, and_node}
use Rattle.book_check.specs.declared.walk.End.{End}
use Rattle.book_check.specs.declared.walk.End.TheVariants.{Good, Bad}
use Rattle.effects.specs.Parts.{Part, parts_of}
use Rattle.book_check.specs.Parts.{PlacedNode, places, places_of}
use Rattle.paths.specs.Paths.{PathData}
use Rattle.conditions.specs.Conditions.{Cond}
use Rattle.book_check.specs.Nearness.{AreNear, AreAllNear}
use Rattle.book_check.specs.Walks.{AllIn, AllNodes, IsWalkEnd}
use Rattle.book_check.proofs.Lists.{each_both, each_none, each_one, bad_left, bad_right}

abbrev mutual
  -- how many nodes
  pub size_node : Node → ℕ
  size_node (node w n ds) = suc (size_nodes ds)

  pub size_nodes : Nodes → ℕ
  size_nodes no_nodes = 0
  size_nodes (and_node d ds) = size_node d + size_nodes ds

-- a good front, and then the rest
pub end_both : (G : PlacedNode → Type 0) (xs ys : List PlacedNode) (at next : ℕ) (e : End) → IsWalkEnd G xs at (Good next) → IsWalkEnd G ys next e → IsWalkEnd G (xs ++ ys) at e
end_both G xs ys at next (Good n) first rest = (each_both G xs ys first.0 rest.0, omega (arith, first.1, rest.1, length-append xs ys))
end_both G xs ys at next (Bad n) first rest = (length xs + rest.0, omega (arith, first.1, rest.1), bad_right G xs ys rest.0 first.0 rest.2)

-- a bad front
pub end_bad : (G : PlacedNode → Type 0) (xs ys : List PlacedNode) (at n : ℕ) → IsWalkEnd G xs at (Bad n) → IsWalkEnd G (xs ++ ys) at (Bad n)
end_bad G xs ys at n first = (first.0, first.1, bad_left G xs ys first.0 first.2)

pub end_none : (G : PlacedNode → Type 0) (at : ℕ) → IsWalkEnd G [] at (Good at)
end_none G at = (each_none G, omega arith)

-- the node itself
pub node_good : (G : PlacedNode → Type 0) (x : Part) (w : Word) (n : ℕ) (ds : Nodes) (at next : ℕ) (b : Bool) (e : End) → (b ≡ true) ↔ G (record { part = x; at = node w n ds }) → b ≡ true →
    next ≡ at + 1 → (xs : List Part) → xs ≡ parts_of x → IsWalkEnd G (places_of xs ds) next e → IsWalkEnd G (places x (node w n ds)) at e
node_good G x w n ds at next b e test is one xs parts rest =
    end_both G (record { part = x; at = node w n ds } ∷ []) (places_of (parts_of x) ds) at next e
    (each_one G (record { part = x; at = node w n ds }) (test.0 is), omega (arith, one))
    (subst (λ z. IsWalkEnd G (places_of z ds) next e) parts rest)

-- one premise more
pub premise_good : (G : PlacedNode → Type 0) (xs ys : List Part) (ds es : Nodes) (x : Part) (d : Node) (at next : ℕ) (e : End) → xs ≡ x ∷ ys → ds ≡ and_node d es →
    IsWalkEnd G (places x d) at (Good next) → IsWalkEnd G (places_of ys es) next e → IsWalkEnd G (places_of xs ds) at e
premise_good G xs ys ds es x d at next e parts nodes first rest =
    subst (λ z. IsWalkEnd G (places_of z ds) at e) (sym parts) (subst (λ z. IsWalkEnd G (places_of (x ∷ ys) z) at e) (sym nodes) (end_both G (places x d) (places_of ys es) at next e first rest))

pub premise_bad : (G : PlacedNode → Type 0) (xs ys : List Part) (ds es : Nodes) (x : Part) (d : Node) (at n : ℕ) → xs ≡ x ∷ ys → ds ≡ and_node d es →
    IsWalkEnd G (places x d) at (Bad n) → IsWalkEnd G (places_of xs ds) at (Bad n)
premise_bad G xs ys ds es x d at n parts nodes first =
    subst (λ z. IsWalkEnd G (places_of z ds) at (Bad n)) (sym parts) (subst (λ z. IsWalkEnd G (places_of (x ∷ ys) z) at (Bad n)) (sym nodes) (end_bad G (places x d) (places_of ys es) at n first))

places_none : (xs : List Part) → places_of xs no_nodes ≡ []
places_none [] = refl
places_none (x ∷ xs) = refl

pub nodes_end : (G : PlacedNode → Type 0) (xs : List Part) (ds : Nodes) (at : ℕ) → ds ≡ no_nodes → IsWalkEnd G (places_of xs ds) at (Good at)
nodes_end G xs ds at e = subst (λ z. IsWalkEnd G z at (Good at)) (sym (ap (places_of xs) e ∙ places_none xs)) (end_none G at)

pub parts_end : (G : PlacedNode → Type 0) (xs : List Part) (ds : Nodes) (at : ℕ) → xs ≡ [] → IsWalkEnd G (places_of xs ds) at (Good at)
parts_end G xs ds at e = subst (λ z. IsWalkEnd G (places_of z ds) at (Good at)) (sym e) (end_none G at)

pub ok_as : {E : Type 0} (r : Result End E) (A B : End → Type 0) → ((e : End) → A e → B e) → IfOk r A → IfOk r B
ok_as (Ok e) A B h a = h e a
ok_as (Err d) A B h a = tt

-- the first of nodes side by side, and the others
pub all_parts : (Q : Node → Type 0) (ds es : Nodes) (d : Node) → ds ≡ and_node d es → AllIn Q ds → AllNodes Q d × AllIn Q es
all_parts Q ds es d is all = subst (AllIn Q) is all

abbrev mutual
  -- a fact that holds of a node as far as near trees go
  pub near_nodes : (O : Type 0) (paths : List PathData) (table : List Cond) (d : Node) → O → AreNear paths table d → AllNodes (λ x. O × AreNear paths table x) d
  near_nodes O paths table (node w n ds) own near = ((own, near), near_in O paths table ds own near.1)

  pub near_in : (O : Type 0) (paths : List PathData) (table : List Cond) (ds : Nodes) → O → AreAllNear paths table ds → AllIn (λ x. O × AreNear paths table x) ds
  near_in O paths table no_nodes own near = tt
  near_in O paths table (and_node d ds) own near = (near_nodes O paths table d own near.0, near_in O paths table ds own near.1)

abbrev mutual
  -- what holds of everything
  pub plain_nodes : (d : Node) → AllNodes (λ x. Unit {0}) d
  plain_nodes (node w n ds) = (tt, plain_in ds)

  pub plain_in : (ds : Nodes) → AllIn (λ x. Unit {0}) ds
  plain_in no_nodes = tt
  plain_in (and_node d ds) = (plain_nodes d, plain_in ds)
