-- Tables that grow, and the trees of their nodes.
use Rattle.std.proofs.Common.{◌≡◌, ℕ, zero, suc, ◌<◌, ◌≤◌, List, [], ◌∷◌, ◌++◌, length, get_or, Option, Some, None, slice_get, option_map, IfSome, refl, ◌∙◌, ap, subst, arith}
use Rattle.std.proofs.lemmas.List.{map-append, length-map}
use Rattle.std.proofs.lemmas.Option.{slice_get-map, slice_get-get_or}
use Rattle.algebra.specs.HeldPaths.{Held}
use Rattle.conditions.specs.Conditions.{Cond, value_of, IsCanonical}
use Rattle.conditions.proofs.SameValues.{unique}
use Rattle.conditions.specs.declared.table.Node.{Node}
use Rattle.conditions.specs.Nodes.{Items, tree_at, IsTable, KeepsTrees}
use Rattle.conditions.specs.Shown.{IsAmongFirst, AreAmongFirst, node_tree, node_value, trees_at}
use Rattle.effects.specs.Rules.{AreAllKnown}
use Rattle.derive.specs.Named.{Keeping}

pub keeps_chain : {old mid new : Items} → Keeping old mid → Keeping mid new → Keeping old new
keeps_chain first second = record {
  known = λ n there. second.known n (first.known n there);
  same = λ n there H. second.same n (first.known n there) H ∙ first.same n there H;
}

pub keeps_itself : (is : Items) → Keeping is is
keeps_itself is = record { known = λ n there. there; same = λ n there H. refl }

-- nodes that are there are known to their table
pub all_there : (is : Items) (ns : List Node) → AreAmongFirst (length is) ns → AreAllKnown (λ s n. IsAmongFirst (length s) n) is ns
all_there is [] are = tt
all_there is (n ∷ ns) are = (are 0, all_there is ns (λ m. are (suc m)))

there_before : (count : ℕ) (n : Node) (ns : List Node) → IsAmongFirst count n → AreAmongFirst count ns → (m : ℕ) → IfSome (slice_get (n ∷ ns) m) (λ x. x.0 < count)
there_before count n ns one are zero = one
there_before count n ns one are (suc m) = are m

pub there_pushed : (count : ℕ) (ns : List Node) (n : Node) → AreAmongFirst count ns → IsAmongFirst count n → AreAmongFirst count (ns ++ (n ∷ []))
there_pushed count [] n are one = there_before count n [] one (λ m. tt)
there_pushed count (x ∷ ns) n are one = there_before count x (ns ++ (n ∷ [])) (are 0) (there_pushed count ns n (λ m. are (suc m)) one)

still_there : (old new : ℕ) (o : Option Node) → old ≤ new → IfSome o (λ n. n.0 < old) → IfSome o (λ n. n.0 < new)
still_there old new None longer there = tt
still_there old new (Some n) longer there = omega (arith, longer, there)

-- in a table that grew nodes are there, and stand for the trees that they stood for
pub there_on : (old new : Items) (ns : List Node) → KeepsTrees old new → AreAmongFirst (length old) ns → AreAmongFirst (length new) ns
there_on old new ns grows are = λ m. still_there (length old) (length new) (slice_get ns m) grows.longer (are m)

pub trees_on : (old new : Items) (ns : List Node) → KeepsTrees old new → AreAmongFirst (length old) ns → trees_at new ns ≡ trees_at old ns
trees_on old new [] grows are = refl
trees_on old new (n ∷ ns) grows are =
    let first = grows.same n.0 (are 0) in
    let rest = trees_on old new ns grows (λ m. are (suc m)) in
    λ i. first i ∷ rest i

-- one node more
pub trees_pushed : (old new : Items) (ns all : List Node) (n : Node) → KeepsTrees old new → AreAmongFirst (length old) ns → all ≡ ns ++ (n ∷ []) → trees_at new all ≡ trees_at old ns ++ (node_tree new n ∷ [])
trees_pushed old new ns all n grows are pushed =
    ap (trees_at new) pushed ∙ map-append (node_tree new) ns (n ∷ []) ∙ ap (λ ts. ts ++ (node_tree new n ∷ [])) (trees_on old new ns grows are)

pub below_length : (is : Items) (ns : List Node) (k : ℕ) → k < length (trees_at is ns) → k < length ns
below_length is ns k below = subst (λ n. k < n) (length-map ns (node_tree is)) below

-- the tree of a node at a place
pub tree_got : (is : Items) (ns : List Node) (k : ℕ) (d : Node) → k < length ns → slice_get (trees_at is ns) k ≡ Some (node_tree is (get_or ns k d))
tree_got is ns k d below = slice_get-map (node_tree is) ns k ∙ ap (option_map (node_tree is)) (slice_get-get_or ns k d below)

longer_by : (a b : ℕ) → ((n : Node) → n.0 < a → n.0 < b) → a ≤ b
longer_by zero b known = omega arith
longer_by (suc a) b known = omega (arith, known (record { 0 = a }) (omega arith))

-- a table that keeps its nodes grows
pub grows_by : (old new : Items) → IsTable old → IsTable new → Keeping old new → KeepsTrees old new
grows_by old new was is keeps = record {
  longer = longer_by (length old) (length new) keeps.known;
  same = λ n there. unique (tree_at new n) (tree_at old n) (is.canonical n (keeps.known (record { 0 = n }) there)) (was.canonical n there) (λ H. keeps.same (record { 0 = n }) there H);
  was = was;
  is = is;
}

-- a node with the values of a canonical tree stands for it
pub stands_for : (is : Items) (n : Node) (t : Cond) → IsTable is → IsAmongFirst (length is) n → IsCanonical t → ((H : Held) → node_value is n H ≡ value_of t H) → node_tree is n ≡ t
stands_for is n t table there canonical values = unique (node_tree is n) t (table.canonical n.0 there) canonical values
