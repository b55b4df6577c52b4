-- What nodes conclude stays so over more trees, and under other numbers.
use Rattle.std.proofs.Common.{◌≡◌, ℕ, zero, suc, ◌<◌, List, [], ◌∷◌, ◌++◌, length, Some, slice_get, refl, sym, ◌∙◌, ap, subst, arith}
use Rattle.std.proofs.lemmas.Option.{slice_get_within}
use Rattle.paths.specs.Paths.{PathData}
use Rattle.algebra.specs.HeldPaths.{Held}
use Rattle.core_program.specs.Core.{Program}
use Rattle.conditions.specs.Conditions.{Cond, value_of}
use Rattle.rules.specs.Effect.{Assignment}
use Rattle.books.specs.declared.word.Word.{Word}
use Rattle.books.specs.Derivations.{Node, node, Nodes, no_nodes, and_node, conclusion_number, count_nodes}
use Rattle.books.specs.Books.{IsNumbered, AreNumbered}
use Rattle.effects.specs.Parts.{Part, parts_of}
use Rattle.book_check.specs.Parts.{node_word, places, places_of, FitsPart, Each}
use Rattle.effects.specs.Rules.{rule_of}
use Rattle.book_check.specs.Conclusions.{tree_value, table_value, conclusions}
use Rattle.book_check.specs.Good.{ConcludesExactly}
use Rattle.books.specs.Memory.{node_of, nodes_at}
use Rattle.books.specs.declared.derivation.Derivation.{Derivation}
use Rattle.book_check.proofs.Lists.{each_both, each_none, each_one}
use Rattle.effects.specs.Effects.{part_effect, effects_of}
use Rattle.effects.proofs.Effects.{rule_is}
use Rattle.derive.specs.Concluded.{Concludes, ConcludeAll, BeginsWithTrees}
use Rattle.derive.specs.Moved.{IsSame, AreSame}
use Rattle.base.proofs.Lists.{get_last}
use Rattle.derive.proofs.Rows.{get_begins}

-- as many nodes, and as many values
same_count : (from to : List Cond) (ds es : Nodes) → AreSame from to ds es → count_nodes es ≡ count_nodes ds
same_count from to no_nodes no_nodes same = refl
same_count from to no_nodes (and_node e es) same = absurd same
same_count from to (and_node d ds) no_nodes same = absurd same
same_count from to (and_node d ds) (and_node e es) same = ap suc (same_count from to ds es same.1)

same_value : (from to : List Cond) (n k : ℕ) (t : Cond) → slice_get from n ≡ Some t → slice_get to k ≡ Some t → table_value to k ≡ table_value from n
same_value from to n k t a b = λ i H. tree_value ((b ∙ sym a) i) H

same_conclusions : (from to : List Cond) (ds es : Nodes) → AreSame from to ds es → conclusions (table_value to) es ≡ conclusions (table_value from) ds
same_conclusions from to no_nodes no_nodes same = refl
same_conclusions from to no_nodes (and_node e es) same = absurd same
same_conclusions from to (and_node d ds) no_nodes same = absurd same
same_conclusions from to (and_node (node w n cs) ds) (and_node (node x k bs) es) same =
    let first = same_value from to n k same.0.1.0 same.0.1.1 same.0.1.2 in
    let rest = same_conclusions from to ds es same.1 in
    λ i. first i ∷ rest i

all_count : (P : Program) (rel : ℕ → List PathData) (A : Assignment) (table : List Cond) (xs : List Part) (ds : Nodes) → ConcludeAll P rel A table xs ds → count_nodes ds ≡ length xs
all_count P rel A table [] no_nodes all = refl
all_count P rel A table [] (and_node d ds) all = absurd all
all_count P rel A table (x ∷ xs) no_nodes all = absurd all
all_count P rel A table (x ∷ xs) (and_node d ds) all = ap suc (all_count P rel A table xs ds all.1)

pub some_at : {A : Type 0} (table : List A) (n : ℕ) → n < length table → (t : A) × (slice_get table n ≡ Some t)
some_at [] n below = absurd (omega (arith, below))
some_at (t ∷ table) zero below = (t, refl)
some_at (t ∷ table) (suc n) below = some_at table n (omega (arith, below))

module _ (P : Program) (rel : ℕ → List PathData) (A : Assignment) where
  module _ (from to : List Cond) where
    mutual
      -- under other numbers of the same trees
      pub carried : (x : Part) (d e : Node) → Concludes P rel A from x d → IsSame from to d e → Concludes P rel A to x e
      carried x (node w n ds) (node y k es) is same = (
        slice_get_within to k same.1.0 same.1.2,
        record { word = sym same.0 ∙ is.1.word; count = same_count from to ds es same.2 ∙ is.1.count },
        (λ H. ap (λ v. v H) (same_value from to n k same.1.0 same.1.1 same.1.2) ∙ is.2 H ∙ ap (λ vs. rule_of P rel A x vs H) (sym (same_conclusions from to ds es same.2))),
        all_carried (parts_of x) ds es is.3 same.2,
      )

      all_carried : (xs : List Part) (ds es : Nodes) → ConcludeAll P rel A from xs ds → AreSame from to ds es → ConcludeAll P rel A to xs es
      all_carried [] no_nodes no_nodes all same = tt
      all_carried [] no_nodes (and_node e es) all same = absurd same
      all_carried [] (and_node d ds) es all same = absurd all
      all_carried (x ∷ xs) no_nodes es all same = absurd all
      all_carried (x ∷ xs) (and_node d ds) no_nodes all same = absurd same
      all_carried (x ∷ xs) (and_node d ds) (and_node e es) all same = (carried x d e all.0 same.0, all_carried xs ds es all.1 same.1)

  module _ (table new : List Cond) (begins : BeginsWithTrees table new) where
    one_of : (n : ℕ) → n < length table → (t : Cond) × (slice_get table n ≡ Some t) × (slice_get new n ≡ Some t)
    one_of n below = let t = some_at table n below in (t.0, t.1, get_begins table new n t.0 begins t.1)

    mutual
      grown_same : (x : Part) (d : Node) → Concludes P rel A table x d → IsSame table new d d
      grown_same x (node w n ds) is = (refl, one_of n is.0, all_grown_same (parts_of x) ds is.3)

      all_grown_same : (xs : List Part) (ds : Nodes) → ConcludeAll P rel A table xs ds → AreSame table new ds ds
      all_grown_same [] no_nodes all = tt
      all_grown_same [] (and_node d ds) all = absurd all
      all_grown_same (x ∷ xs) no_nodes all = absurd all
      all_grown_same (x ∷ xs) (and_node d ds) all = (grown_same x d all.0, all_grown_same xs ds all.1)

    -- over more trees
    pub grown : (x : Part) (d : Node) → Concludes P rel A table x d → Concludes P rel A new x d
    grown x d is = carried table new x d d is (grown_same x d is)

    pub all_grown : (xs : List Part) (ds : Nodes) → ConcludeAll P rel A table xs ds → ConcludeAll P rel A new xs ds
    all_grown xs ds all = all_carried table new xs ds ds all (all_grown_same xs ds all)

  -- a node whose tree is put behind those of its premises
  pub concluded_node : (table new : List Cond) (x : Part) (w : Word) (n : ℕ) (ds : Nodes) (t : Cond) → ConcludeAll P rel A table (parts_of x) ds → new ≡ table ++ (t ∷ []) → n ≡ length table → w ≡ node_word x →
      ((H : Held) → value_of t H ≡ rule_of P rel A x (conclusions (table_value table) ds) H) → Concludes P rel A new x (node w n ds)
  concluded_node table new x w n ds t all pushed last word value =
      let begins : BeginsWithTrees table new = record { behind = t ∷ []; is = pushed } in
      let own : slice_get new n ≡ Some t = (λ i. slice_get (pushed i) (last i)) ∙ get_last table t in (
        slice_get_within new n t own,
        record { word = word; count = all_count P rel A table (parts_of x) ds all },
        (λ H. ap (λ o. tree_value o H) own ∙ value H ∙ ap (λ vs. rule_of P rel A x vs H) (sym (same_conclusions table new ds ds (all_grown_same table new begins (parts_of x) ds all)))),
        all_grown table new begins (parts_of x) ds all,
      )

  module _ (table : List Cond) where
    mutual
      pub numbered : (x : Part) (d : Node) → Concludes P rel A table x d → IsNumbered (length table) d
      numbered x (node w n ds) is = (is.0, all_numbered (parts_of x) ds is.3)

      all_numbered : (xs : List Part) (ds : Nodes) → ConcludeAll P rel A table xs ds → AreNumbered (length table) ds
      all_numbered [] no_nodes all = tt
      all_numbered [] (and_node d ds) all = absurd all
      all_numbered (x ∷ xs) no_nodes all = absurd all
      all_numbered (x ∷ xs) (and_node d ds) all = (numbered x d all.0, all_numbered xs ds all.1)

    mutual
      pub each_fits : (x : Part) (d : Node) → Concludes P rel A table x d → Each FitsPart (places x d)
      each_fits x (node w n ds) is =
          each_both FitsPart (record { part = x; at = node w n ds } ∷ []) (places_of (parts_of x) ds) (each_one FitsPart (record { part = x; at = node w n ds }) is.1) (all_fit (parts_of x) ds is.3)

      all_fit : (xs : List Part) (ds : Nodes) → ConcludeAll P rel A table xs ds → Each FitsPart (places_of xs ds)
      all_fit [] no_nodes all = each_none FitsPart
      all_fit [] (and_node d ds) all = absurd all
      all_fit (x ∷ xs) no_nodes all = absurd all
      all_fit (x ∷ xs) (and_node d ds) all = each_both FitsPart (places x d) (places_of xs ds) (each_fits x d all.0) (all_fit xs ds all.1)

    mutual
      pub each_exact : (x : Part) (d : Node) → Concludes P rel A table x d → Each (ConcludesExactly P rel (table_value table) A) (places x d)
      each_exact x (node w n ds) is =
          each_both (ConcludesExactly P rel (table_value table) A) (record { part = x; at = node w n ds } ∷ []) (places_of (parts_of x) ds)
          (each_one (ConcludesExactly P rel (table_value table) A) (record { part = x; at = node w n ds }) is.2) (all_exact (parts_of x) ds is.3)

      all_exact : (xs : List Part) (ds : Nodes) → ConcludeAll P rel A table xs ds → Each (ConcludesExactly P rel (table_value table) A) (places_of xs ds)
      all_exact [] no_nodes all = each_none (ConcludesExactly P rel (table_value table) A)
      all_exact [] (and_node d ds) all = absurd all
      all_exact (x ∷ xs) no_nodes all = absurd all
      all_exact (x ∷ xs) (and_node d ds) all =
          each_both (ConcludesExactly P rel (table_value table) A) (places x d) (places_of xs ds) (each_exact x d all.0) (all_exact xs ds all.1)

    mutual
      -- a node concludes the effect of its part
      pub effect_is : (x : Part) (d : Node) → Concludes P rel A table x d → (H : Held) → table_value table (conclusion_number d) H ≡ part_effect P rel A x H
      effect_is x (node w n ds) is H = is.2 H ∙ ap (λ vs. rule_of P rel A x vs H) (all_effects (parts_of x) ds is.3) ∙ rule_is P rel A x H

      all_effects : (xs : List Part) (ds : Nodes) → ConcludeAll P rel A table xs ds → conclusions (table_value table) ds ≡ effects_of P rel A xs
      all_effects [] no_nodes all = refl
      all_effects [] (and_node d ds) all = absurd all
      all_effects (x ∷ xs) no_nodes all = absurd all
      all_effects (x ∷ xs) (and_node d ds) all =
          let first : table_value table (conclusion_number d) ≡ part_effect P rel A x = λ i H. effect_is x d all.0 H i in
          let rest = all_effects xs ds all.1 in
          λ i. first i ∷ rest i

-- one part more, and then the others
pub all_more : (P : Program) (rel : ℕ → List PathData) (A : Assignment) (mid table : List Cond) (xs : List Part) (x : Part) (rest : List Part) (d : Derivation) (later : List Derivation) → xs ≡ x ∷ rest →
    BeginsWithTrees mid table → Concludes P rel A mid x (node_of d) → ConcludeAll P rel A table rest (nodes_at later) → ConcludeAll P rel A table xs (nodes_at (d ∷ later))
all_more P rel A mid table xs x rest d later e begins first others =
    subst (λ k. ConcludeAll P rel A table k (nodes_at (d ∷ later))) (sym e) (grown P rel A mid table begins x (node_of d) first, others)

pub all_none : (P : Program) (rel : ℕ → List PathData) (A : Assignment) (table : List Cond) (xs : List Part) → xs ≡ [] → ConcludeAll P rel A table xs no_nodes
all_none P rel A table xs e = subst (λ k. ConcludeAll P rel A table k no_nodes) (sym e) tt
