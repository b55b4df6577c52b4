-- Paths put in order ascend strictly, and they are the same paths.
use Rattle.std.proofs.Common.{◌≡◌, ◌⊎◌, inl, inr, List, [], ◌∷◌, refl, sym, ap, subst, ◌∙◌}
use Rattle.std.specs.List.{AllByRecursion}
use Rattle.std.specs.List.Sorted.{IsStrictlySortedBy}
use Rattle.std.specs.declared.cmp.Ordering.{Ordering}
use Rattle.std.specs.declared.cmp.Ordering.TheVariants.{Less, Equal, Greater}
use Rattle.paths.specs.Paths.{PathData, path_order}
use Rattle.paths.proofs.PathOrder.{equal_is, greater_turned, less_chain, never_less}
use Rattle.typing.specs.Programs.{chosen_by_order, inserted, ascending}
use Rattle.classes.proofs.Parts.{Each}

-- a path is below each of a list
abbrev Below : PathData → List PathData → Type 0
Below p = AllByRecursion (λ q. path_order p q ≡ Less)

below_chain : (p q : PathData) (qs : List PathData) → path_order p q ≡ Less → Below q qs → Below p qs
below_chain p q [] less h = tt
below_chain p q (r ∷ qs) less h = (less_chain p q r less h.0, below_chain p q qs less h.1)

-- what holds of a path and of each of a list holds of each with the path put in
pub each_inserted : (P : PathData → Type 0) (p : PathData) (qs : List PathData) → P p → Each P qs → Each P (inserted p qs)
each_inserted P p [] h k = (h, tt)
each_inserted P p (q ∷ qs) h k =
    elim (path_order p q) as (λ o. Each P (chosen_by_order o (p ∷ q ∷ qs) (q ∷ qs) (q ∷ inserted p qs))) [
      | Less ↦ (h, k)
      | Equal ↦ k
      | Greater ↦ (k.0, each_inserted P p qs h k.1)
    ]

pub each_ascending : (P : PathData → Type 0) (ps : List PathData) → Each P ps → Each P (ascending ps)
each_ascending P [] h = tt
each_ascending P (p ∷ ps) h = each_inserted P p (ascending ps) h.0 (each_ascending P ps h.1)

below_inserted : (p q : PathData) (qs : List PathData) → path_order q p ≡ Less → Below q qs → Below q (inserted p qs)
below_inserted p q [] less h = (less, tt)
below_inserted p q (r ∷ qs) less h =
    elim (path_order p r) as (λ o. Below q (chosen_by_order o (p ∷ r ∷ qs) (r ∷ qs) (r ∷ inserted p qs))) [
      | Less ↦ (less, h)
      | Equal ↦ h
      | Greater ↦ (h.0, below_inserted p q qs less h.1)
    ]

sorted_inserted : (p : PathData) (qs : List PathData) → IsStrictlySortedBy path_order qs → IsStrictlySortedBy path_order (inserted p qs)
unfolding IsStrictlySortedBy
sorted_inserted p [] h = (tt, tt)
sorted_inserted p (q ∷ qs) h =
    elim (path_order p q) as (λ o. path_order p q ≡ o → IsStrictlySortedBy path_order (chosen_by_order o (p ∷ q ∷ qs) (q ∷ qs) (q ∷ inserted p qs))) [
      | Less ↦ λ is. ((is, below_chain p q qs is h.0), h)
      | Equal ↦ λ is. h
      | Greater ↦ λ is. (below_inserted p q qs (greater_turned p q is) h.0, sorted_inserted p qs h.1)
    ] refl

pub sorted_ascending : (ps : List PathData) → IsStrictlySortedBy path_order (ascending ps)
unfolding IsStrictlySortedBy
sorted_ascending [] = tt
sorted_ascending (p ∷ ps) = sorted_inserted p (ascending ps) (sorted_ascending ps)

-- ---- the same paths in order are the same list

-- whether a path is one of a list
abbrev pub Among : PathData → List PathData → Type 0
Among p [] = ⊥
Among p (q ∷ qs) = (q ≡ p) ⊎ Among p qs

among_inserted : (p q : PathData) (qs : List PathData) → Among p (inserted q qs) → (q ≡ p) ⊎ Among p qs
among_inserted p q [] h = h
among_inserted p q (r ∷ qs) h = by_order_of (path_order q r) (among_inserted p q qs) h
  where
    by_order_of : (o : Ordering) → (Among p (inserted q qs) → (q ≡ p) ⊎ Among p qs) → Among p (chosen_by_order o (q ∷ r ∷ qs) (r ∷ qs) (r ∷ inserted q qs)) → (q ≡ p) ⊎ Among p (r ∷ qs)
    by_order_of Less later k = k
    by_order_of Equal later k = inr k
    by_order_of Greater later (inl same) = inr (inl same)
    by_order_of Greater later (inr rest) = elim (later rest) as (λ _. (q ≡ p) ⊎ Among p (r ∷ qs)) [
      | inl same ↦ inl same
      | inr among ↦ inr (inr among)
    ]

inserted_among : (p q : PathData) (qs : List PathData) → (q ≡ p) ⊎ Among p qs → Among p (inserted q qs)
inserted_among p q [] h = h
inserted_among p q (r ∷ qs) h = by_order_of (path_order q r) refl (inserted_among p q qs) h
  where
    by_order_of : (o : Ordering) → path_order q r ≡ o → ((q ≡ p) ⊎ Among p qs → Among p (inserted q qs)) → (q ≡ p) ⊎ Among p (r ∷ qs) → Among p (chosen_by_order o (q ∷ r ∷ qs) (r ∷ qs) (r ∷ inserted q qs))
    by_order_of Less is later k = k
    by_order_of Equal is later (inl same) = inl (sym (equal_is q r is) ∙ same)
    by_order_of Equal is later (inr among) = among
    by_order_of Greater is later (inl same) = inr (later (inl same))
    by_order_of Greater is later (inr (inl same)) = inl same
    by_order_of Greater is later (inr (inr among)) = inr (later (inr among))

pub among_ascending : (p : PathData) (ps : List PathData) → Among p (ascending ps) → Among p ps
among_ascending p [] h = h
among_ascending p (q ∷ ps) h = elim (among_inserted p q (ascending ps) h) as (λ _. Among p (q ∷ ps)) [
  | inl same ↦ inl same
  | inr among ↦ inr (among_ascending p ps among)
]

pub ascending_among : (p : PathData) (ps : List PathData) → Among p ps → Among p (ascending ps)
ascending_among p [] h = h
ascending_among p (q ∷ ps) (inl same) = inserted_among p q (ascending ps) (inl same)
ascending_among p (q ∷ ps) (inr among) = inserted_among p q (ascending ps) (inr (ascending_among p ps among))

-- what is below each of a list is below each path of it
below_each : (p q : PathData) (qs : List PathData) → Below p qs → Among q qs → path_order p q ≡ Less
below_each p q [] h k = absurd k
below_each p q (r ∷ qs) h (inl same) = subst (λ z. path_order p z ≡ Less) same h.0
below_each p q (r ∷ qs) h (inr among) = below_each p q qs h.1 among

-- of two lists that ascend, with the same paths, the first ones are the same
first_same : (p q : PathData) (ps qs : List PathData) → Below p ps → Below q qs → Among p (q ∷ qs) → Among q (p ∷ ps) → p ≡ q
first_same p q ps qs low other (inl same) k = sym same
first_same p q ps qs low other (inr h) (inl same) = same
first_same p q ps qs low other (inr h) (inr k) = absurd (never_less p (less_chain p q p (below_each p q ps low k) (below_each q p qs other h)))

rest_among : (p q : PathData) (ps qs : List PathData) → p ≡ q → Below p ps → ((r : PathData) → Among r (p ∷ ps) → Among r (q ∷ qs)) → (r : PathData) → Among r ps → Among r qs
rest_among p q ps qs same low part r h = elim (part r (inr h)) as (λ _. Among r qs) [
  | inl first ↦ absurd (never_less p (subst (λ z. path_order p z ≡ Less) (sym first ∙ sym same) (below_each p r ps low h)))
  | inr later ↦ later
]

same_sorted : (ps qs : List PathData) → IsStrictlySortedBy path_order ps → IsStrictlySortedBy path_order qs
    → ((r : PathData) → Among r ps → Among r qs) → ((r : PathData) → Among r qs → Among r ps) → ps ≡ qs
unfolding IsStrictlySortedBy
same_sorted [] [] h k part back = refl
same_sorted [] (q ∷ qs) h k part back = absurd (back q (inl refl))
same_sorted (p ∷ ps) [] h k part back = absurd (part p (inl refl))
same_sorted (p ∷ ps) (q ∷ qs) h k part back =
    let same = first_same p q ps qs h.0 k.0 (part p (inl refl)) (back q (inl refl)) in
    ap (λ z. z ∷ ps) same
    ∙ ap (λ z. q ∷ z) (same_sorted ps qs h.1 k.1 (rest_among p q ps qs same h.0 part) (rest_among q p qs ps (sym same) k.0 back))

-- lists with the same paths are the same in order
pub same_ascending : (ps qs : List PathData) → ((r : PathData) → Among r ps → Among r qs) → ((r : PathData) → Among r qs → Among r ps) → ascending ps ≡ ascending qs
same_ascending ps qs part back =
    same_sorted (ascending ps) (ascending qs) (sorted_ascending ps) (sorted_ascending qs)
    (λ r h. ascending_among r qs (part r (among_ascending r ps h)))
    (λ r h. ascending_among r ps (back r (among_ascending r qs h)))
