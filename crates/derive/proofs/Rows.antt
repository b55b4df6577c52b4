-- Lists that begin with others, and places in them.
use Rattle.std.proofs.Common.{append-nil, ◌≡◌, ℕ, zero, suc, ◌⊎◌, inl, inr, List, [], ◌∷◌, ◌++◌, length, Some, None, refl, sym, ◌∙◌, ap, subst, slice_get, append_assoc}
use Rattle.conditions.specs.Conditions.{Cond}
use Rattle.base.proofs.Lists.{at_left}
use Rattle.derive.specs.Concluded.{BeginsWithTrees}
use Rattle.derive.specs.Derived.{AreInOrder}

pub begins_itself : (xs : List Cond) → BeginsWithTrees xs xs
begins_itself xs = record { behind = []; is = sym (append-nil xs) }

pub begins_chain : (xs ys zs : List Cond) → BeginsWithTrees xs ys → BeginsWithTrees ys zs → BeginsWithTrees xs zs
begins_chain xs ys zs a b = record { behind = a.behind ++ b.behind; is = b.is ∙ ap (λ k. k ++ b.behind) a.is ∙ append_assoc xs a.behind b.behind }

pub begins_one : (xs ys : List Cond) (y : Cond) → ys ≡ xs ++ (y ∷ []) → BeginsWithTrees xs ys
begins_one xs ys y e = record { behind = y ∷ []; is = e }

pub begins_as : (xs ys : List Cond) → ys ≡ xs → BeginsWithTrees xs ys
begins_as xs ys e = record { behind = []; is = e ∙ sym (append-nil xs) }

-- what stands in the front stands in the whole
pub get_begins : (xs ys : List Cond) (n : ℕ) (t : Cond) → BeginsWithTrees xs ys → slice_get xs n ≡ Some t → slice_get ys n ≡ Some t
get_begins xs ys n t b e = ap (λ k. slice_get k n) b.is ∙ at_left xs b.behind n t e

-- one of a longer list is of the front, or the last
pub get_pushed : {A : Type 0} (xs : List A) (x : A) (k : ℕ) (y : A) → slice_get (xs ++ (x ∷ [])) k ≡ Some y → (slice_get xs k ≡ Some y) ⊎ ((k ≡ length xs) × (x ≡ y))
get_pushed [] x zero y e = inr (refl, cc)
get_pushed [] x (suc k) y e = absurd (let h : None ≡ Some y = e in cc)
get_pushed (z ∷ xs) x zero y e = inl e
get_pushed (z ∷ xs) x (suc k) y e = next (get_pushed xs x k y e)
  where
    next : (slice_get xs k ≡ Some y) ⊎ ((k ≡ length xs) × (x ≡ y)) → (slice_get xs k ≡ Some y) ⊎ ((suc k ≡ suc (length xs)) × (x ≡ y))
    next (inl e) = inl e
    next (inr p) = inr (ap suc p.0, p.1)

pub order_both : (a b c : ℕ) (xs ys : List ℕ) → AreInOrder a xs b → AreInOrder b ys c → AreInOrder a (xs ++ ys) c
order_both a b c [] ys first second = subst (λ k. AreInOrder k ys c) (sym first) second
order_both a b c (n ∷ xs) ys (inl p) second = inl (p.0, order_both a b c xs ys p.1 second)
order_both a b c (n ∷ xs) ys (inr p) second = inr (p.0, order_both (suc a) b c xs ys p.1 second)

-- pushing, and then more
pub pushed_more : {A : Type 0} (old new : List A) (x : A) (more : List A) → new ≡ old ++ (x ∷ []) → new ++ more ≡ old ++ (x ∷ more)
pushed_more old new x more e = ap (λ k. k ++ more) e ∙ append_assoc old (x ∷ []) more
