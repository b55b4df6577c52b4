-- A node that was moved, and then its premises.
use Rattle.std.proofs.Common.{◌≡◌, ℕ, zero, suc, ◌<◌, inl, inr, List, [], ◌∷◌, length, length-append, map, get_or, Some, slice_get, refl, sym, ◌∙◌, ap, subst, arith}
use Rattle.std.proofs.lemmas.Option.{slice_get_within}
use Rattle.std.proofs.lemmas.List.{length-map}
use Rattle.conditions.specs.declared.tree.Tree.{Tree}
use Rattle.conditions.specs.Conditions.{Cond, cond_of}
use Rattle.books.specs.declared.word.Word.{Word}
use Rattle.books.specs.declared.derivation.Derivation.{Derivation}
use Rattle.books.specs.Derivations.{Node, node, Nodes, no_nodes, and_node}
use Rattle.books.specs.Memory.{nodes_at}
use Rattle.derive.specs.Concluded.{BeginsWithTrees}
use Rattle.derive.specs.Derived.{node_numbers, nodes_numbers, AreInOrder}
use Rattle.derive.specs.Pools.{IsNumberIn}
use Rattle.derive.specs.Moved.{IsSame, AreSame, IsMoved, AreMoved}
use Rattle.base.proofs.Lists.{get_last}
use Rattle.derive.proofs.Rows.{begins_itself, begins_chain, begins_one, begins_as, get_begins, order_both}

mutual
  same_later : (from to new : List Cond) → BeginsWithTrees to new → (d e : Node) → IsSame from to d e → IsSame from new d e
  same_later from to new begins (node w n ds) (node y k es) same =
      (same.0, (same.1.0, same.1.1, get_begins to new k same.1.0 begins same.1.2), all_same_later from to new begins ds es same.2)

  all_same_later : (from to new : List Cond) → BeginsWithTrees to new → (ds es : Nodes) → AreSame from to ds es → AreSame from new ds es
  all_same_later from to new begins no_nodes no_nodes same = tt
  all_same_later from to new begins no_nodes (and_node e es) same = absurd same
  all_same_later from to new begins (and_node d ds) no_nodes same = absurd same
  all_same_later from to new begins (and_node d ds) (and_node e es) same = (same_later from to new begins d e same.0, all_same_later from to new begins ds es same.1)

-- a tree that got its number
pub number_begins : (old new : List Cond) (t : Cond) (n : ℕ) → IsNumberIn old t n new → BeginsWithTrees old new
number_begins old new t n (inl p) = begins_as old new p.1
number_begins old new t n (inr p) = begins_one old new t p.1

pub number_at : (old new : List Cond) (t : Cond) (n : ℕ) → IsNumberIn old t n new → slice_get new n ≡ Some t
number_at old new t n (inl p) = ap (λ k. slice_get k n) p.1 ∙ p.0
number_at old new t n (inr p) = (λ i. slice_get (p.1 i) (p.0 i)) ∙ get_last old t

pub number_order : (old mid new : List Cond) (t : Cond) (n : ℕ) (ns : List ℕ) → IsNumberIn old t n mid → AreInOrder (length mid) ns (length new) → AreInOrder (length old) (n ∷ ns) (length new)
number_order old mid new t n ns (inl p) rest = inl (slice_get_within old n t p.0, subst (λ k. AreInOrder k ns (length new)) (ap length p.1) rest)
number_order old mid new t n ns (inr p) rest =
    let longer : length mid ≡ suc (length old) = let e = ap length p.1 in omega (arith, e, length-append old (t ∷ [])) in
    inr (p.0, subst (λ k. AreInOrder k ns (length new)) longer rest)

pub moved_node : (from old mid new : List Cond) (w : Word) (n k : ℕ) (t : Cond) (ds es : Nodes) → slice_get from n ≡ Some t → IsNumberIn old t k mid → AreMoved from mid new ds es →
    IsMoved from old new (node w n ds) (node w k es)
moved_node from old mid new w n k t ds es at number rest = record {
  begins = begins_chain old mid new (number_begins old mid t k number) rest.begins;
  same = (refl, (t, at, get_begins mid new k t rest.begins (number_at old mid t k number)), rest.same);
  in_order = number_order old mid new t k (nodes_numbers es) number rest.in_order;
}

pub moved_none : (from to : List Cond) → AreMoved from to to no_nodes no_nodes
moved_none from to = record { begins = begins_itself to; same = tt; in_order = refl }

-- one more, and then the others
pub moved_both : (from old mid new : List Cond) (d e : Node) (ds es : Nodes) → IsMoved from old mid d e → AreMoved from mid new ds es → AreMoved from old new (and_node d ds) (and_node e es)
moved_both from old mid new d e ds es first rest = record {
  begins = begins_chain old mid new first.begins rest.begins;
  same = (same_later from mid new rest.begins d e first.same, rest.same);
  in_order = order_both (length old) (length mid) (length new) (node_numbers e) (nodes_numbers es) first.in_order rest.in_order;
}

-- nothing is left
pub moved_end : (from to : List Cond) (ds : List Derivation) → length ds ≡ 0 → AreMoved from to to (nodes_at ds) no_nodes
moved_end from to [] none = moved_none from to
moved_end from to (d ∷ ds) none = absurd (omega (arith, none))

-- what stands at a place, seen by a function
pub get_seen : {A B : Type 0} (f : A → B) (xs : List A) (n : ℕ) (x : A) → n < length xs → x ≡ get_or xs n x → slice_get (map f xs) n ≡ Some (f x)
get_seen f [] n x below is = absurd (omega (arith, below))
get_seen f (y ∷ xs) zero x below is = ap (λ z. Some (f z)) (sym is)
get_seen f (y ∷ xs) (suc n) x below is = get_seen f xs n x (omega (arith, below)) is

pub tree_there : (trees : List Tree) (n : ℕ) (t : Tree) → n < length (map cond_of trees) → t ≡ get_or trees n t → slice_get (map cond_of trees) n ≡ Some (cond_of t)
tree_there trees n t below is = get_seen cond_of trees n t (subst (λ k. n < k) (length-map trees cond_of) below) is
