-- The schedule that leads to a node, followed back to the start.
use Rattle.std.proofs.Common.{◌≡◌, ℕ, ◌<◌, List, [], ◌++◌, length, refl, sym, ap, subst, ◌∙◌, arith, append-nil, append_assoc}
use Rattle.std.specs.Prelude.{Some, reverse, slice_get}
use Rattle.std.proofs.lemmas.List.{reverse-reverse, reverse-append}
use Rattle.std.proofs.lemmas.Option.{same_Some, slice_get_within}
use Rattle.witness.specs.declared.node.Node.{Node}
use Rattle.witness.specs.Searching.{IsScheduleTo, at_start, on_from}

-- nothing leads to the first node
to_first : (nodes : List Node) (place : ℕ) (r : List ℕ) → IsScheduleTo nodes place r → place ≡ 0 → r ≡ []
to_first nodes _ _ at_start is = refl
to_first nodes _ _ (on_from place n before there earlier leads) is = absurd (omega (arith, is, earlier))

-- another node was reached from one before it
to_other : (nodes : List Node) (place : ℕ) (r : List ℕ) (n : Node) → IsScheduleTo nodes place r → 0 < place → slice_get nodes place ≡ Some n
    → (before : List ℕ) × (n.from < place) × IsScheduleTo nodes n.from before × (r ≡ before ++ n.steps.items)
to_other nodes _ _ n at_start some there = absurd (omega (arith, some))
to_other nodes _ _ n (on_from place m before here earlier leads) some there =
    subst (λ (x : Node). (xs : List ℕ) × (x.from < place) × IsScheduleTo nodes x.from xs × (before ++ m.steps.items ≡ xs ++ x.steps.items))
    (same_Some m n (sym here ∙ there)) (before, earlier, leads, refl)

-- a place to which something leads is one of a node, or the first one
pub leads_within : (nodes : List Node) (place : ℕ) (r : List ℕ) → IsScheduleTo nodes place r → 0 < place → place < length nodes
leads_within nodes _ _ at_start some = absurd (omega (arith, some))
leads_within nodes _ _ (on_from place n before there earlier leads) some = slice_get_within nodes place n there

-- The schedule that leads to a node is one that leads to another one, and then these entries, which are written backwards.
pub record IsFollowedBack (nodes : List Node) (place at : ℕ) (backwards : List ℕ) : Type 0 where
  pub front : List ℕ
  pub leads : IsScheduleTo nodes at front
  pub whole : (r : List ℕ) → IsScheduleTo nodes place r → (xs : List ℕ) × IsScheduleTo nodes at xs × (r ≡ xs ++ reverse backwards)

pub none_back : (nodes : List Node) (place : ℕ) (backwards : List ℕ) → backwards ≡ [] → (r : List ℕ) × IsScheduleTo nodes place r → IsFollowedBack nodes place place backwards
none_back nodes place backwards none found = record {
  front = found.0;
  leads = found.1;
  whole = λ r leads. (r, leads, sym (append-nil r) ∙ ap (λ xs. r ++ reverse xs) (sym none));
}

module _ (nodes : List Node) (place at : ℕ) (n : Node) (backwards : List ℕ) (h : IsFollowedBack nodes place at backwards) (some : 0 < at) (there : slice_get nodes at ≡ Some n) where
  pub earlier_from : n.from < at
  earlier_from = (to_other nodes at h.front n h.leads some there).1

  pub one_back : (new : List ℕ) → new ≡ backwards ++ reverse n.steps.items → IsFollowedBack nodes place n.from new
  one_back new is = record {
    front = (to_other nodes at h.front n h.leads some there).0;
    leads = (to_other nodes at h.front n h.leads some there).2;
    whole = λ r leads.
        let found = h.whole r leads in
        let before = to_other nodes at found.0 n found.1 some there in
        (before.0, before.2, found.2 ∙ ap (λ xs. xs ++ reverse backwards) before.3 ∙ append_assoc before.0 n.steps.items (reverse backwards) ∙ ap (λ xs. before.0 ++ xs) (sym turned));
  }
    where
      turned : reverse new ≡ n.steps.items ++ reverse backwards
      turned = ap reverse is ∙ reverse-append backwards (reverse n.steps.items) ∙ ap (λ xs. xs ++ reverse backwards) (reverse-reverse n.steps.items)

pub all_back : (nodes : List Node) (place at : ℕ) (backwards found : List ℕ) → IsFollowedBack nodes place at backwards → at ≡ 0 → found ≡ reverse backwards → (r : List ℕ) → IsScheduleTo nodes place r → found ≡ r
all_back nodes place at backwards found h start is r leads =
    let whole = h.whole r leads in
    is ∙ ap (λ xs. xs ++ reverse backwards) (sym (to_first nodes at whole.0 whole.1 start)) ∙ sym whole.2
