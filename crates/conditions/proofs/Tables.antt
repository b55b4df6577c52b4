-- The trees of numbers, and a list of nodes with one item more.
use Rattle.std.proofs.Common.{◌≡◌, ℕ, zero, suc, ◌<◌, ◌≤◌, ◌⊎◌, inl, inr, List, [], ◌∷◌, ◌++◌, length, length-append, get_or, Option, Some, None, slice_get, refl, sym, ◌∙◌, ap, subst, arith}
use Rattle.std.proofs.lemmas.Option.{slice_get_within, slice_get-get_or}
use Rattle.base.proofs.Lists.{get_left, get_last}
use Rattle.algebra.specs.declared.basic.Basic.TheVariants.{Const}
use Rattle.conditions.specs.Conditions.{Cond, LeafC, TestC, IsCanonical}
use Rattle.conditions.specs.declared.rows.Item.{Item}
use Rattle.conditions.specs.declared.rows.Item.TheVariants.{Leaf, Test}
use Rattle.conditions.specs.Nodes.{by_parts, tree_to, tree_at, item_tree, AreBefore, IsTable, KeepsTrees}

front_or_last : (n end : ℕ) → n < suc end → (n < end) ⊎ (n ≡ end)
front_or_last zero zero below = inr refl
front_or_last zero (suc end) below = inl (omega arith)
front_or_last (suc n) zero below = absurd (omega (arith, below))
front_or_last (suc n) (suc end) below = next (front_or_last n end (omega (arith, below)))
  where
    next : (n < end) ⊎ (n ≡ end) → (suc n < suc end) ⊎ (suc n ≡ suc end)
    next (inl less) = inl (omega (arith, less))
    next (inr e) = inr (ap suc e)

same_some : (i j : Item) → Some i ≡ Some j → i ≡ j
same_some i j e = cc

-- the tree of an item depends on its parts alone
by_parts_same : (n : ℕ) (t u : ℕ → Cond) (o : Option Item) → ((i : Item) → o ≡ Some i → AreBefore n i) → ((a : ℕ) → a < n → t a ≡ u a) → by_parts t o ≡ by_parts u o
by_parts_same n t u None before same = refl
by_parts_same n t u (Some (Leaf b)) before same = refl
by_parts_same n t u (Some (Test p a b)) before same =
    let parts = before (Test p a b) refl in
    let first = same a parts.0 in
    let second = same b parts.1 in
    λ i. TestC p (first i) (second i)

-- any depth above the number gives its tree
deep : (is : List Item) → IsTable is → (d e n : ℕ) → n < d → n < e → tree_to is d n ≡ tree_to is e n
deep is table zero e n d_is e_is = absurd (omega (arith, d_is))
deep is table (suc d) zero n d_is e_is = absurd (omega (arith, e_is))
deep is table (suc d) (suc e) n d_is e_is =
    by_parts_same n (tree_to is d) (tree_to is e) (slice_get is n) (table.before n)
    (λ a less. deep is table d e a (omega (arith, d_is, less)) (omega (arith, e_is, less)))

-- the tree of a number is that of its item
pub got : (is : List Item) (n : ℕ) (i : Item) → IsTable is → slice_get is n ≡ Some i → tree_at is n ≡ item_tree is i
got is n i table e =
    ap (by_parts (tree_to is n)) e
    ∙ by_parts_same n (tree_to is n) (tree_at is) (Some i) (λ j same. table.before n j (e ∙ same)) (λ a less. deep is table n (suc a) a less (omega arith))

front_tree : (old more : List Item) → IsTable old → (d n : ℕ) → n < length old → tree_to (old ++ more) d n ≡ tree_to old d n
front_tree old more table zero n below = refl
front_tree old more table (suc d) n below =
    ap (by_parts (tree_to (old ++ more) d)) (get_left old more n below)
    ∙ by_parts_same n (tree_to (old ++ more) d) (tree_to old d) (slice_get old n) (table.before n) (λ a less. front_tree old more table d a (omega (arith, below, less)))

pub grows_itself : (is : List Item) → IsTable is → KeepsTrees is is
grows_itself is table = record { longer = omega arith; same = λ n below. refl; was = table; is = table }

pub grows_chain : (old mid new : List Item) → KeepsTrees old mid → KeepsTrees mid new → KeepsTrees old new
grows_chain old mid new first second = record {
  longer = omega (arith, first.longer, second.longer);
  same = λ n below. second.same n (omega (arith, first.longer, below)) ∙ first.same n below;
  was = first.was;
  is = second.is;
}

-- items with one tree are one
same_item : (is : List Item) → IsTable is → (i j : Item) → AreBefore (length is) i → AreBefore (length is) j → item_tree is i ≡ item_tree is j → i ≡ j
same_item is table (Leaf b) (Leaf c) i_is j_is e = cc
same_item is table (Leaf b) (Test q c d) i_is j_is e = absurd (let h : LeafC b ≡ TestC q (tree_at is c) (tree_at is d) = e in cc)
same_item is table (Test p a b) (Leaf c) i_is j_is e = absurd (let h : TestC p (tree_at is a) (tree_at is b) ≡ LeafC c = e in cc)
same_item is table (Test p a b) (Test q c d) i_is j_is e =
    let whole : TestC p (tree_at is a) (tree_at is b) ≡ TestC q (tree_at is c) (tree_at is d) = e in
    let root : p ≡ q = cc in
    let first = table.apart a c i_is.0 j_is.0 (let h : tree_at is a ≡ tree_at is c = cc in h) in
    let second = table.apart b d i_is.1 j_is.1 (let h : tree_at is b ≡ tree_at is d = cc in h) in
    λ k. Test (root k) (first k) (second k)

before_longer : (m n : ℕ) (i : Item) → m ≤ n → AreBefore m i → AreBefore n i
before_longer m n (Leaf b) longer before = tt
before_longer m n (Test p a b) longer before = (omega (arith, longer, before.0), omega (arith, longer, before.1))

module _ (old : List Item) (i : Item) (table : IsTable old) (parts : AreBefore (length old) i) (canonical : IsCanonical (item_tree old i)) (absent : (n : ℕ) → slice_get old n ≡ Some i → ⊥) where
  abbrev new : List Item
  new = old ++ (i ∷ [])

  new_length : length new ≡ suc (length old)
  new_length = omega (arith, length-append old (i ∷ []))

  front : (n : ℕ) → n < length old → tree_at new n ≡ tree_at old n
  front n below = front_tree old (i ∷ []) table (suc n) n below

  last : tree_at new (length old) ≡ item_tree old i
  last =
      ap (by_parts (tree_to new (length old))) (get_last old i)
      ∙ by_parts_same (length old) (tree_to new (length old)) (tree_at old) (Some i) (λ j e. subst (AreBefore (length old)) (same_some i j e) parts)
      (λ a less. front_tree old (i ∷ []) table (length old) a less ∙ deep old table (length old) (suc a) a less (omega arith))

  places : (n : ℕ) → n < length new → (n < length old) ⊎ (n ≡ length old)
  places n below = front_or_last n (length old) (omega (arith, new_length, below))

  new_before : (n : ℕ) (j : Item) → slice_get new n ≡ Some j → AreBefore n j
  new_before n j e = by (places n (slice_get_within new n j e))
    where
      by : (n < length old) ⊎ (n ≡ length old) → AreBefore n j
      by (inl below) = table.before n j (sym (get_left old (i ∷ []) n below) ∙ e)
      by (inr at) = subst (λ k. AreBefore k j) (sym at) (subst (AreBefore (length old)) (same_some i j (sym (get_last old i) ∙ ap (slice_get new) (sym at) ∙ e)) parts)

  new_canonical : (n : ℕ) → n < length new → IsCanonical (tree_at new n)
  new_canonical n below = by (places n below)
    where
      by : (n < length old) ⊎ (n ≡ length old) → IsCanonical (tree_at new n)
      by (inl less) = subst IsCanonical (sym (front n less)) (table.canonical n less)
      by (inr at) = subst IsCanonical (sym (ap (tree_at new) at ∙ last)) canonical

  -- no number that was there stands for the new item's tree
  fresh : (n : ℕ) → n < length old → tree_at old n ≡ item_tree old i → ⊥
  fresh n below e =
      let there = slice_get-get_or old n (Leaf Const) below in
      let j = get_or old n (Leaf Const) in
      absent n (there ∙ ap Some (same_item old table j i (before_longer n (length old) j (omega (arith, below)) (table.before n j there)) parts (sym (got old n j table there) ∙ e)))

  new_apart : (m n : ℕ) → m < length new → n < length new → tree_at new m ≡ tree_at new n → m ≡ n
  new_apart m n m_there n_there e = by (places m m_there) (places n n_there)
    where
      by : (m < length old) ⊎ (m ≡ length old) → (n < length old) ⊎ (n ≡ length old) → m ≡ n
      by (inl a) (inl b) = table.apart m n a b (sym (front m a) ∙ e ∙ front n b)
      by (inl a) (inr b) = absurd (fresh m a (sym (front m a) ∙ e ∙ ap (tree_at new) b ∙ last))
      by (inr a) (inl b) = absurd (fresh n b (sym (front n b) ∙ sym e ∙ ap (tree_at new) a ∙ last))
      by (inr a) (inr b) = a ∙ sym b

  pub grown : KeepsTrees old new
  grown = record {
    longer = omega (arith, new_length);
    same = front;
    was = table;
    is = record { before = new_before; canonical = new_canonical; apart = new_apart };
  }
