-- A canonical tree can be written, and the place of its node among the nodes is its number.
use Rattle.std.proofs.Common.{◌≡◌, ◌≢◌, ℕ, zero, suc, ◌<◌, ◌^◌, ◌⊎◌, inl, inr, Bool, true, false, not, List, [], ◌∷◌, ◌++◌, length, length-append, Option, Some, None, slice_get, refl, sym, ◌∙◌, ap, subst, arith, if◌then◌else◌, option_map, eqb-true, eq-eqb}
use Rattle.std.specs.List.{list_any}
use Rattle.indexmap.specs.IndexSet.{insert_key}
use Rattle.std.proofs.lemmas.Bool.{or_parts}
use Rattle.std.proofs.lemmas.Option.{slice_get-map}
use Rattle.std.proofs.lemmas.List.{map-append}
use Rattle.paths.specs.Paths.{PathData}
use Rattle.conditions.specs.declared.tree.Tree.{Tree}
use Rattle.conditions.specs.Conditions.{Cond, LeafC, TestC, cond_eq, IsAfter, IsCanonical}
use Rattle.conditions.proofs.CondLemmas.{cond_eq-is}
use Rattle.conditions.specs.declared.table.Node.{Node}
use Rattle.conditions.specs.contracts.table.NodePartialEq.TheImpl as nodes
use Rattle.conditions.specs.Nodes.{Items, IsTable, KeepsTrees}
use Rattle.conditions.specs.Shown.{IsAmongFirst, AreAmongFirst, node_tree, trees_at}
use Rattle.books.specs.Books.{IsTree, AreTrees, is_less, comes_after, is_canonical_below}
use Rattle.derive.specs.declared.pool.Pool.{Pool}
use Rattle.derive.specs.Derived.{AreDistinct}
use Rattle.derive.specs.Pools.{pool_table, ArePooled, IsPool, IsAtMost}
use Rattle.derive.proofs.Rows.{get_pushed}
use Rattle.derive.proofs.Tables.{there_pushed, there_on, trees_on}

-- a canonical tree passes the test
abbrev IsBehind : Option PathData → Cond → Type 0
IsBehind None t = Unit {0}
IsBehind (Some p) t = IsAfter p t

differs : (a b : Cond) (c : Bool) → cond_eq a b ≡ c → a ≢ b → not c ≡ true
differs a b true e d = absurd (d (cond_eq-is a b e))
differs a b false e d = refl

comes : (above : Option PathData) (q : PathData) (a b : Cond) → IsBehind above (TestC q a b) → comes_after above q ≡ true
comes None q a b behind = refl
comes (Some p) q a b behind = ap is_less behind.0

tested : (above : Option PathData) (t : Cond) → IsCanonical t → IsBehind above t → is_canonical_below above t ≡ true
tested above (LeafC b) is behind = refl
tested above (TestC q a b) is behind =
    let first = comes above q a b behind in
    let second = differs a b (cond_eq a b) refl is.differ in
    let third = tested (Some q) a is.a_is is.after_a in
    let fourth = tested (Some q) b is.b_is is.after_b in
    rw (first, second, third, fourth) refl

pub tree_is : (t : Cond) → IsCanonical t → IsAtMost 65 t → IsTree t
tree_is t is low = record { paths = low.paths; high = omega (arith, low.high); canonical = tested None t is tt }

pub trees_pushed : (ts : List Cond) (t : Cond) → AreTrees ts → IsTree t → AreTrees (ts ++ (t ∷ []))
trees_pushed [] t are is = (is, tt)
trees_pushed (x ∷ ts) t are is = (are.0, trees_pushed ts t are.1 is)

abbrev pub same : Node → Node → Bool
same = nodes.eq-value.it

same_is : (m n : Node) → same m n ≡ true → m ≡ n
same_is m n told = let e = eqb-true m.0 n.0 told in λ i. record { 0 = e i }

equal_trees : (t u : Cond) → Some t ≡ Some u → t ≡ u
equal_trees t u e = cc

-- the tree of a node that is not among nodes is not among their trees
absent_tree : (is : Items) (keys : List Node) (n : Node) (i : ℕ) → IsTable is → AreAmongFirst (length is) keys → IsAmongFirst (length is) n → list_any (same n) keys ≡ false →
    slice_get (trees_at is keys) i ≡ Some (node_tree is n) → ⊥
absent_tree is [] n i table are there absent at = absurd (let h : None ≡ Some (node_tree is n) = at in cc)
absent_tree is (k ∷ keys) n zero table are there absent at =
    let e = table.apart n.0 k.0 there (are 0) (equal_trees (node_tree is n) (node_tree is k) (sym at)) in
    let h : true ≡ false = sym (eq-eqb n.0 k.0 e) ∙ (or_parts (same n k) (list_any (same n) keys) absent).0 in
    absurd (let no : true ≡ false = h in cc)
absent_tree is (k ∷ keys) n (suc i) table are there absent at = absent_tree is keys n i table (λ m. are (suc m)) there (or_parts (same n k) (list_any (same n) keys) absent).1 at

-- a new tree stands once
distinct_pushed : (ts : List Cond) (t : Cond) → AreDistinct ts → ((i : ℕ) → slice_get ts i ≡ Some t → ⊥) → AreDistinct (ts ++ (t ∷ []))
distinct_pushed ts t distinct absent = λ i j u at also. chosen i j u (get_pushed ts t i u at) (get_pushed ts t j u also)
  where
    there : (i : ℕ) (u : Cond) → slice_get ts i ≡ Some u → t ≡ u → ⊥
    there i u at e = absent i (at ∙ ap Some (sym e))

    chosen : (i j : ℕ) (u : Cond) → (slice_get ts i ≡ Some u) ⊎ ((i ≡ length ts) × (t ≡ u)) → (slice_get ts j ≡ Some u) ⊎ ((j ≡ length ts) × (t ≡ u)) → i ≡ j
    chosen i j u (inl a) (inl b) = distinct i j u a b
    chosen i j u (inl a) (inr b) = absurd (there i u a b.1)
    chosen i j u (inr a) (inl b) = absurd (there j u b a.1)
    chosen i j u (inr a) (inr b) = a.0 ∙ sym b.0

unless : (b : Bool) → false ≡ not b → b ≡ true
unless true e = refl
unless false e = absurd (let h : false ≡ true = e in cc)

where_not : (b : Bool) → true ≡ not b → b ≡ false
where_not true e = absurd (let h : true ≡ false = e in cc)
where_not false e = refl

-- a node that was there
pub kept_keys : (keys new : List Node) (n : Node) (is_new : Bool) → is_new ≡ not (list_any (same n) keys) → is_new ≡ false → new ≡ insert_key same keys n → new ≡ keys
kept_keys keys new n is_new told old kept =
    kept ∙ ap (λ b. if b then keys else keys ++ (n ∷ [])) (unless (list_any (same n) keys) (sym old ∙ told))

pub number_found : (is : Items) (table : List Cond) (keys new : List Node) (n k : Node) (place : ℕ) → trees_at is keys ≡ table → new ≡ keys → slice_get new place ≡ Some k → same n k ≡ true →
    slice_get table place ≡ Some (node_tree is n)
number_found is table keys new n k place trees kept at equal =
    ap (λ ts. slice_get ts place) (sym trees) ∙ slice_get-map (node_tree is) keys place
    ∙ ap (option_map (node_tree is)) (ap (λ ks. slice_get ks place) (sym kept) ∙ at ∙ ap Some (sym (same_is n k equal)))

-- the trees with one more
pub pool_longer : (is : Items) (pool : Pool) (new : List Node) (n : Node) (t : Cond) (table : List Cond) (is_new : Bool) → IsTable is → IsPool is pool → IsAmongFirst (length is) n → node_tree is n ≡ t → IsTree t →
    length table < 2 ^ 32 → is_new ≡ not (list_any (same n) pool.nodes.keys) → is_new ≡ true → new ≡ insert_key same pool.nodes.keys n → table ≡ pool_table pool ++ (t ∷ []) →
    ArePooled table × AreAmongFirst (length is) new × (trees_at is new ≡ table)
pool_longer is pool new n t table is_new nodes are there tree good few told fresh kept pushed =
    let keys = pool.nodes.keys in
    let absent : list_any (same n) keys ≡ false = where_not (list_any (same n) keys) (sym fresh ∙ told) in
    let longer : new ≡ keys ++ (n ∷ []) = kept ∙ ap (λ b. if b then keys else keys ++ (n ∷ [])) absent in
    let gone : (i : ℕ) → slice_get (pool_table pool) i ≡ Some t → ⊥ = λ i at. absent_tree is keys n i nodes are.there there absent (ap (λ ts. slice_get ts i) are.nodes ∙ at ∙ ap Some (sym tree)) in (
      record {
        few = few;
        trees = subst AreTrees (sym pushed) (trees_pushed (pool_table pool) t are.pooled.trees good);
        distinct = subst AreDistinct (sym pushed) (distinct_pushed (pool_table pool) t are.pooled.distinct gone);
      },
      subst (AreAmongFirst (length is)) (sym longer) (there_pushed (length is) keys n are.there there),
      ap (trees_at is) longer ∙ map-append (node_tree is) keys (n ∷ []) ∙ (λ i. are.nodes i ++ (tree i ∷ [])) ∙ sym pushed,
    )

pub longer_few : (trees : List Tree) (ts : List Cond) (t : Cond) (n : ℕ) → length ts ≡ length trees → n ≡ length trees → n < 4294967295 → length (ts ++ (t ∷ [])) < 2 ^ 32
longer_few trees ts t n same count below = omega (arith, same, count, below, length-append ts (t ∷ []))

-- over a table that grew
pub pool_on : (old new : Items) (pool : Pool) → KeepsTrees old new → IsPool old pool → IsPool new pool
pool_on old new pool grows are = record {
  pooled = are.pooled;
  there = there_on old new pool.nodes.keys grows are.there;
  nodes = trees_on old new pool.nodes.keys grows are.there ∙ are.nodes;
}
