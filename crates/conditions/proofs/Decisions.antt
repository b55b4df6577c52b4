-- A decision in the list: it is found, or added at the end.
use Rattle.std.proofs.Common.{◌≡◌, ◌==◌, ◌+◌, ◌-◌, ◌&&◌, ℕ, zero, suc, ◌<◌, ◌≤◌, Bool, true, false, List, [], ◌∷◌, ◌++◌, length, map, Option, Some, None, slice_get, option_map, refl, sym, ◌∙◌, ap, subst, arith, eqb-true, eq-eqb, if◌then◌else◌}
use Rattle.std.specs.Cmp.{first_so, second_so}
use Rattle.std.specs.List.{list_any}
use Rattle.std.proofs.lemmas.List.{map-append}
use Rattle.std.proofs.lemmas.Option.{slice_get_within, slice_get-map}
use Rattle.std.proofs.lemmas.Bool.{or_parts}
use Rattle.indexmap.specs.IndexSet.{insert_key}
use Rattle.paths.specs.Paths.{PathData, path_eq}
use Rattle.algebra.specs.declared.basic.Basic.TheVariants.{Const, Mover, Atomic, Cmpd, Error}
use Rattle.paths.proofs.PathOrder.{eq_is, eq_itself}
use Rattle.conditions.specs.Conditions.{TestC, IsCanonical}
use Rattle.conditions.specs.declared.rows.Item.{Item}
use Rattle.conditions.specs.declared.rows.Item.TheVariants.{Leaf}
use Rattle.conditions.specs.declared.rows.Decision.{Decision}
use Rattle.conditions.specs.contracts.rows.DecisionPartialEq.TheImpl as decisions
use Rattle.conditions.specs.Nodes.{test_of, items_of, basic_in, tree_at, item_tree, AreBefore, IsTable, KeepsTrees, StandsForTree}
use Rattle.conditions.proofs.Tables.{got, grows_itself, grown}

abbrev pub same : Decision → Decision → Bool
same = decisions.eq-value.it

-- the derived test of equality is exact
pub same_is : (d e : Decision) → same d e ≡ true → d ≡ e
same_is d e told =
    let root = eq_is d.path e.path (first_so (path_eq d.path e.path) ((d.held == e.held) && (d.free == e.free)) told) in
    let rest = second_so (path_eq d.path e.path) ((d.held == e.held) && (d.free == e.free)) told in
    let first = eqb-true _ _ (first_so (d.held == e.held) (d.free == e.free) rest) in
    let second = eqb-true _ _ (second_so (d.held == e.held) (d.free == e.free) rest) in
    λ i. record { path = root i; held = first i; free = second i }

both_so : (a b : Bool) → a ≡ true → b ≡ true → (a && b) ≡ true
both_so a b first second = (λ i. first i && b) ∙ second

pub same_itself : (d : Decision) → same d d ≡ true
same_itself d =
    both_so (path_eq d.path d.path) ((d.held == d.held) && (d.free == d.free)) (eq_itself d.path)
    (both_so (d.held == d.held) (d.free == d.free) (eq-eqb _ _ refl) (eq-eqb _ _ refl))

same_test : (d e : Decision) → Some (test_of d) ≡ Some (test_of e) → d ≡ e
same_test d e told =
    let h : test_of d ≡ test_of e = cc in
    let root : d.path ≡ e.path = cc in
    let first : d.held ≡ e.held = cc in
    let second : d.free ≡ e.free = cc in
    λ i. record { path = root i; held = first i; free = second i }

-- a decision that the test finds nowhere is nowhere
nowhere : (ds : List Decision) (d : Decision) (n : ℕ) → list_any (same d) ds ≡ false → slice_get (map test_of ds) n ≡ Some (test_of d) → ⊥
nowhere [] d n absent at = absurd (let h : None ≡ Some (test_of d) = at in cc)
nowhere (e ∷ ds) d zero absent at =
    let is : same d e ≡ true = ap (same d) (same_test e d at) ∙ same_itself d in
    absurd (let h : true ≡ false = sym is ∙ (or_parts (same d e) (list_any (same d) ds) absent).0 in cc)
nowhere (e ∷ ds) d (suc n) absent at = nowhere ds d n (or_parts (same d e) (list_any (same d) ds) absent).1 at

nowhere_at : (ds : List Decision) (d : Decision) (n : ℕ) → list_any (same d) ds ≡ false → slice_get (items_of ds) n ≡ Some (test_of d) → ⊥
nowhere_at ds d zero absent at = absurd (let h : Leaf Const ≡ test_of d = cc in cc)
nowhere_at ds d (suc zero) absent at = absurd (let h : Leaf Mover ≡ test_of d = cc in cc)
nowhere_at ds d (suc (suc zero)) absent at = absurd (let h : Leaf Atomic ≡ test_of d = cc in cc)
nowhere_at ds d (suc (suc (suc zero))) absent at = absurd (let h : Leaf Cmpd ≡ test_of d = cc in cc)
nowhere_at ds d (suc (suc (suc (suc zero)))) absent at = absurd (let h : Leaf Error ≡ test_of d = cc in cc)
nowhere_at ds d (suc (suc (suc (suc (suc n))))) absent at = nowhere ds d n absent at

pushed : (ds : List Decision) (d : Decision) → items_of (ds ++ (d ∷ [])) ≡ items_of ds ++ (test_of d ∷ [])
pushed ds d = ap (λ is. Leaf Const ∷ Leaf Mover ∷ Leaf Atomic ∷ Leaf Cmpd ∷ Leaf Error ∷ is) (map-append test_of ds (d ∷ []))

-- the parts of a decision are there, and its tree is canonical
pub record IsFit (is : List Item) (d : Decision) : Type 0 where
  pub held_there : d.held < length is
  pub free_there : d.free < length is
  pub canonical : IsCanonical (TestC d.path (tree_at is d.held) (tree_at is d.free))

pub inserted : (ds ns : List Decision) (old : List Item) (d : Decision) → items_of ds ≡ old → IsTable (items_of ds) → IsFit old d → ns ≡ insert_key same ds d → KeepsTrees old (items_of ns)
inserted ds ns old d view table fit e = by (list_any (same d) ds) refl
  where
    old_table : IsTable old
    old_table = subst IsTable view table

    by : (b : Bool) → list_any (same d) ds ≡ b → KeepsTrees old (items_of ns)
    by true found =
        let kept : ns ≡ ds = e ∙ ap (λ b. if b then ds else ds ++ (d ∷ [])) found in
        subst (KeepsTrees old) (sym (ap items_of kept ∙ view)) (grows_itself old old_table)
    by false absent =
        let longer : ns ≡ ds ++ (d ∷ []) = e ∙ ap (λ b. if b then ds else ds ++ (d ∷ [])) absent in
        subst (KeepsTrees old) (sym (ap items_of longer ∙ pushed ds d ∙ ap (λ is. is ++ (test_of d ∷ [])) view))
        (grown old (test_of d) old_table (fit.held_there, fit.free_there) fit.canonical (λ n at. nowhere_at ds d n absent (ap (λ is. slice_get is n) view ∙ at)))

five_more : (n : ℕ) → suc (suc (suc (suc (suc n)))) ≡ 5 + n
five_more n = omega arith

-- the number of a decision that is there
pub numbered : (ns : List Decision) (old : List Item) (d k : Decision) (n : ℕ) → IsFit old d → KeepsTrees old (items_of ns) → slice_get ns n ≡ Some k → same d k ≡ true
    → StandsForTree (items_of ns) (5 + n) (TestC d.path (tree_at old d.held) (tree_at old d.free))
numbered ns old d k n fit grows at is =
    let there : slice_get (items_of ns) (suc (suc (suc (suc (suc n))))) ≡ Some (test_of d) =
    slice_get-map test_of ns n ∙ ap (option_map test_of) (at ∙ ap Some (sym (same_is d k is))) in
    subst (λ m. StandsForTree (items_of ns) m (TestC d.path (tree_at old d.held) (tree_at old d.free))) (five_more n)
    record {
      there = slice_get_within (items_of ns) (suc (suc (suc (suc (suc n))))) (test_of d) there;
      tree = got (items_of ns) (suc (suc (suc (suc (suc n))))) (test_of d) grows.is there
          ∙ (let first = grows.same d.held fit.held_there in let second = grows.same d.free fit.free_there in λ i. TestC d.path (first i) (second i));
    }

-- the item behind the basics
pub item_at : (ds : List Decision) (old : List Item) (d : Decision) (n k : ℕ) → items_of ds ≡ old → IsTable (items_of ds) → n ≡ 5 + k → slice_get ds k ≡ Some d → (tree_at old n ≡ item_tree old (test_of d)) × AreBefore n (test_of d)
item_at ds old d n k view table e at =
    let there : slice_get old n ≡ Some (test_of d) =
    ap (slice_get old) (e ∙ sym (five_more k)) ∙ ap (λ is. slice_get is (suc (suc (suc (suc (suc k)))))) (sym view) ∙ slice_get-map test_of ds k ∙ ap (option_map test_of) at in
    let old_table = subst IsTable view table in
    (got old n (test_of d) old_table there, old_table.before n (test_of d) there)

by_decision : (d : Option Decision) → basic_in (option_map test_of d) ≡ None
by_decision None = refl
by_decision (Some d) = refl

-- no number behind the basics stands for one
pub no_basic : (ds : List Decision) (now : List Item) (n : ℕ) → items_of ds ≡ now → 5 ≤ n → None ≡ basic_in (slice_get now n)
no_basic ds now n view far =
    let k = n - 5 in
    let at : suc (suc (suc (suc (suc k)))) ≡ n = omega arith in
    sym (ap basic_in (ap (slice_get now) (sym at) ∙ ap (λ is. slice_get is (suc (suc (suc (suc (suc k)))))) (sym view) ∙ slice_get-map test_of ds k) ∙ by_decision (slice_get ds k))

-- the number of a decision that a hint tells
pub hinted : (ds : List Decision) (now : List Item) (d : Decision) (p : PathData) (held free at : ℕ) → items_of ds ≡ now → IsTable (items_of ds) → slice_get ds at ≡ Some d
    → d.held ≡ held → d.free ≡ free → d.path ≡ p → StandsForTree now (5 + at) (TestC p (tree_at now held) (tree_at now free))
hinted ds now d p held free at view table told held_is free_is path_is =
    let there : slice_get now (suc (suc (suc (suc (suc at))))) ≡ Some (test_of d) =
    ap (λ is. slice_get is (suc (suc (suc (suc (suc at)))))) (sym view) ∙ slice_get-map test_of ds at ∙ ap (option_map test_of) told in
    subst (λ m. StandsForTree now m (TestC p (tree_at now held) (tree_at now free))) (five_more at)
    record {
      there = slice_get_within now (suc (suc (suc (suc (suc at))))) (test_of d) there;
      tree = got now (suc (suc (suc (suc (suc at))))) (test_of d) (subst IsTable view table) there
          ∙ (λ i. TestC (path_is i) (tree_at now (held_is i)) (tree_at now (free_is i)));
    }

pub at_most_one : (b : Bool) → (if b then 1 else 0) ≤ 1
at_most_one true = omega arith
at_most_one false = omega arith
