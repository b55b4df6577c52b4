-- Places in lists, and which is the least bad one.
use Rattle.std.proofs.Common.{◌≡◌, ℕ, zero, suc, ◌+◌, ◌<◌, ◌⊎◌, inl, inr, List, [], ◌∷◌, ◌++◌, length, Some, None, ◌∙◌, subst, arith, slice_get}
use Rattle.std.proofs.lemmas.Option.{same_Some, slice_get_within}
use Rattle.base.proofs.Lists.{at_left, at_either, get_right}
use Rattle.book_check.specs.Parts.{PlacedNode, Each, IsLeastBad}

pub each_left : (G : PlacedNode → Type 0) (xs ys : List PlacedNode) → Each G (xs ++ ys) → Each G xs
each_left G xs ys all = λ k x e. all k x (at_left xs ys k x e)

pub each_right : (G : PlacedNode → Type 0) (xs ys : List PlacedNode) → Each G (xs ++ ys) → Each G ys
each_right G xs ys all = λ k x e. all (length xs + k) x (get_right xs ys k ∙ e)

pub each_both : (G : PlacedNode → Type 0) (xs ys : List PlacedNode) → Each G xs → Each G ys → Each G (xs ++ ys)
each_both G xs ys first second = λ k x e. chosen (at_either xs ys k x e)
  where
    chosen : {k : ℕ} {x : PlacedNode} → (slice_get xs k ≡ Some x) ⊎ ((j : ℕ) × (k ≡ length xs + j) × (slice_get ys j ≡ Some x)) → G x
    chosen {k = k} {x = x} (inl e) = first k x e
    chosen {x = x} (inr j) = second j.0 x j.2

pub each_none : (G : PlacedNode → Type 0) → Each G []
each_none G = λ k x e. absurd (let h : None ≡ Some x = e in cc)

pub each_one : (G : PlacedNode → Type 0) (x : PlacedNode) → G x → Each G (x ∷ [])
each_one G x good zero y e = subst G (same_Some x y e) good
each_one G x good (suc k) y e = absurd (let h : None ≡ Some y = e in cc)

pub bad_left : (G : PlacedNode → Type 0) (xs ys : List PlacedNode) (k : ℕ) → IsLeastBad G xs k → IsLeastBad G (xs ++ ys) k
bad_left G xs ys k b = record {
  place = b.place;
  is = at_left xs ys k b.place b.is;
  bad = b.bad;
  first = λ j y below e. before j y below (at_either xs ys j y e);
}
  where
    before : (j : ℕ) (y : PlacedNode) → j < k → (slice_get xs j ≡ Some y) ⊎ ((i : ℕ) × (j ≡ length xs + i) × (slice_get ys i ≡ Some y)) → G y
    before j y below (inl e) = b.first j y below e
    before j y below (inr i) = absurd (omega (arith, below, i.1, slice_get_within xs k b.place b.is))

pub bad_right : (G : PlacedNode → Type 0) (xs ys : List PlacedNode) (k : ℕ) → Each G xs → IsLeastBad G ys k → IsLeastBad G (xs ++ ys) (length xs + k)
bad_right G xs ys k good b = record {
  place = b.place;
  is = get_right xs ys k ∙ b.is;
  bad = b.bad;
  first = λ j y below e. before j y below (at_either xs ys j y e);
}
  where
    before : (j : ℕ) (y : PlacedNode) → j < length xs + k → (slice_get xs j ≡ Some y) ⊎ ((i : ℕ) × (j ≡ length xs + i) × (slice_get ys i ≡ Some y)) → G y
    before j y below (inl e) = good j y e
    before j y below (inr i) = b.first i.0 y (omega (arith, below, i.1)) i.2

-- a list has one least bad place, and none where all are good
pub one_least : (G : PlacedNode → Type 0) (xs : List PlacedNode) (j k : ℕ) → IsLeastBad G xs j → IsLeastBad G xs k → j ≡ k
one_least G xs j k a b = tied j k (λ below. a.bad (b.first j a.place below a.is)) (λ below. b.bad (a.first k b.place below b.is))
  where
    tied : (j k : ℕ) → (j < k → ⊥) → (k < j → ⊥) → j ≡ k
    tied j k below above = omega (arith, below, above)

pub none_bad : (G : PlacedNode → Type 0) (xs : List PlacedNode) (k : ℕ) → Each G xs → IsLeastBad G xs k → ⊥
none_bad G xs k good b = b.bad (good k b.place b.is)
