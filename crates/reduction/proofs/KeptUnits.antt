-- The units that pass a test, in order, are those of the units in order.
use Rattle.std.proofs.Common.{◌≡◌, ◌≤◌, Bool, true, false, List, [], ◌∷◌, refl, sym, ap, ◌∙◌, arith}
use Rattle.std.specs.Prelude.{nat_le, filter, cond}
use Rattle.std.proofs.lemmas.Bool.{leb-true}
use Rattle.semantics.specs.Units.{Entry, commit_place, placed, in_order}
use Rattle.reduction.proofs.Shape.{Each, each_more, Sorted, sorted_in_order}
use Rattle.reduction.proofs.Ordering.{least_first}

-- a filter, by its test of the first
pub kept_by : {A : Type 0} (p : A → Bool) (u : A) (us : List A) (b : Bool) → p u ≡ b → filter p (u ∷ us) ≡ cond b (u ∷ filter p us) (filter p us)
kept_by p u us b is = ap (λ x. cond x (u ∷ filter p us) (filter p us)) is

pub each_kept : {A : Type 0} (Q : A → Type 0) (p : A → Bool) (us : List A) → Each Q us → Each Q (filter p us)
each_kept Q p [] h = tt
each_kept Q p (u ∷ us) h = by (p u) (each_kept Q p us h.1)
  where
    by : (b : Bool) → Each Q (filter p us) → Each Q (cond b (u ∷ filter p us) (filter p us))
    by true rest = (h.0, rest)
    by false rest = rest

module _ (p : List Entry → Bool) where
  placed_by : (u v : List Entry) (us : List (List Entry)) (b : Bool) → nat_le (commit_place u) (commit_place v) ≡ b → placed u (v ∷ us) ≡ cond b (u ∷ v ∷ us) (v ∷ placed u us)
  placed_by u v us b e = ap (λ (x : Bool). cond x (u ∷ v ∷ us) (v ∷ placed u us)) e

  -- a unit that passes is put among those that pass
  filter_placed : (u : List Entry) → p u ≡ true → (us : List (List Entry)) → Sorted us → filter p (placed u us) ≡ placed u (filter p us)
  filter_placed u is [] sorted = kept_by p u [] true is
  filter_placed u is (v ∷ us) sorted = by (nat_le (commit_place u) (commit_place v)) refl (filter_placed u is us sorted.1)
    where
      by : (b : Bool) → nat_le (commit_place u) (commit_place v) ≡ b → filter p (placed u us) ≡ placed u (filter p us) → filter p (placed u (v ∷ us)) ≡ placed u (filter p (v ∷ us))
      by true low rest =
          let least = leb-true (commit_place u) (commit_place v) low in
          ap (filter p) (placed_by u v us true low) ∙ kept_by p u (v ∷ us) true is
          ∙ sym (least_first u (filter p (v ∷ us)) (each_kept (λ w. commit_place u ≤ commit_place w) p (v ∷ us)
          (least, each_more (λ w. commit_place v ≤ commit_place w) (λ w. commit_place u ≤ commit_place w) (λ w k. omega (arith, least, k)) us sorted.0)))
      by false high rest = ap (filter p) (placed_by u v us false high) ∙ other (p v) refl
        where
          other : (c : Bool) → p v ≡ c → filter p (v ∷ placed u us) ≡ placed u (filter p (v ∷ us))
          other true at = kept_by p v (placed u us) true at ∙ ap (λ ws. v ∷ ws) rest ∙ sym (ap (placed u) (kept_by p v us true at) ∙ placed_by u v (filter p us) false high)
          other false at = kept_by p v (placed u us) false at ∙ rest ∙ sym (ap (placed u) (kept_by p v us false at))

  -- one that doesn't pass leaves them as they are
  filter_passed : (u : List Entry) → p u ≡ false → (us : List (List Entry)) → filter p (placed u us) ≡ filter p us
  filter_passed u not [] = kept_by p u [] false not
  filter_passed u not (v ∷ us) = by (nat_le (commit_place u) (commit_place v)) refl (filter_passed u not us)
    where
      by : (b : Bool) → nat_le (commit_place u) (commit_place v) ≡ b → filter p (placed u us) ≡ filter p us → filter p (placed u (v ∷ us)) ≡ filter p (v ∷ us)
      by true low rest = ap (filter p) (placed_by u v us true low) ∙ kept_by p u (v ∷ us) false not
      by false high rest = ap (filter p) (placed_by u v us false high) ∙ ap (λ ws. cond (p v) (v ∷ ws) ws) rest

  pub filter_in_order : (us : List (List Entry)) → filter p (in_order us) ≡ in_order (filter p us)
  filter_in_order [] = refl
  filter_in_order (u ∷ us) = by (p u) refl (filter_in_order us)
    where
      by : (b : Bool) → p u ≡ b → filter p (in_order us) ≡ in_order (filter p us) → filter p (placed u (in_order us)) ≡ in_order (filter p (u ∷ us))
      by true is rest = filter_placed u is (in_order us) (sorted_in_order us) ∙ ap (placed u) rest ∙ sym (ap in_order (kept_by p u us true is))
      by false not rest = filter_passed u not (in_order us) ∙ rest ∙ sym (ap in_order (kept_by p u us false not))
