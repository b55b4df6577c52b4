-- A walk through one part and then the next.
use Rattle.std.proofs.Common.{◌≡◌, ℕ, suc, ◌+◌, ◌<◌, List, [], ◌∷◌, ◌++◌, length, drop, get_or, ap, sym, ◌∙◌, refl, subst, arith}
use Rattle.std.proofs.Math.Seq.{drop-cons}
use Rattle.logs.specs.Logs.{Guard}
use Rattle.logs.specs.Stops.{IsEnd}
use Rattle.logs.specs.declared.walk.WalkEnd.{WalkEnd}
use Rattle.logs.specs.declared.walk.WalkEnd.TheVariants as ends
use Rattle.logs.specs.Walks.{Stand, WalkedTo, Stands, NoLine, Refused, after_byte, walk_then, walked}

then_then : (w : WalkedTo) (f g : Stand → WalkedTo) → walk_then (walk_then w f) g ≡ walk_then w (λ s. walk_then (f s) g)
then_then (Stands s) f g = refl
then_then (NoLine n) f g = refl
then_then (Refused n said why) f g = refl

-- where a walk ends, what is done then changes nothing
end_then : (m : Stand) (w : WalkedTo) (later : Stand → WalkedTo) (end : WalkEnd) → IsEnd m w end → IsEnd m (walk_then w later) end
end_then m w later ends.NoLine is = ap (λ x. walk_then x later) is
end_then m w later (ends.Refused why) is = (is.0, is.1, ap (λ x. walk_then x later) is.2)
end_then m w later ends.NoMemory is = tt

module _ (guard : ℕ → Guard) where
  pub walked_append : (s : Stand) (xs ys : List ℕ) → walked guard s (xs ++ ys) ≡ walk_then (walked guard s xs) (λ next. walked guard next ys)
  walked_append s [] ys = refl
  walked_append s (b ∷ xs) ys =
      ap (walk_then (after_byte guard s b)) (λ i. λ next. walked_append next xs ys i)
      ∙ sym (then_then (after_byte guard s b) (λ next. walked guard next xs) (λ next. walked guard next ys))

  -- on from where a part led
  pub walked_on : (s m : Stand) (xs ys : List ℕ) → walked guard s xs ≡ Stands m → walked guard s (xs ++ ys) ≡ walked guard m ys
  walked_on s m xs ys e = walked_append s xs ys ∙ ap (λ w. walk_then w (λ next. walked guard next ys)) e

  -- one byte more of a text led on
  pub byte_on : (first s m : Stand) (items : List ℕ) (i b : ℕ) → i < length items → get_or items i 0 ≡ b → walked guard first items ≡ walked guard s (drop i items) → after_byte guard s b ≡ Stands m
      → walked guard first items ≡ walked guard m (drop (i + 1) items)
  byte_on first s m items i b within at before leads =
      let next : suc i ≡ i + 1 = omega (arith) in
      let parts : drop i items ≡ b ∷ drop (i + 1) items = drop-cons items i 0 within ∙ ap (λ z. z ∷ drop (suc i) items) at ∙ ap (λ n. b ∷ drop n items) next in
      before ∙ ap (walked guard s) parts ∙ ap (λ w. walk_then w (λ after. walked guard after (drop (i + 1) items))) leads

  -- one byte more of a text led to an end
  pub byte_ends : (first s m : Stand) (items : List ℕ) (i b : ℕ) (end : WalkEnd) → i < length items → get_or items i 0 ≡ b → walked guard first items ≡ walked guard s (drop i items)
      → IsEnd m (after_byte guard s b) end → IsEnd m (walked guard first items) end
  byte_ends first s m items i b end within at before stops =
      let next : suc i ≡ i + 1 = omega (arith) in
      let parts : drop i items ≡ b ∷ drop (i + 1) items = drop-cons items i 0 within ∙ ap (λ z. z ∷ drop (suc i) items) at ∙ ap (λ n. b ∷ drop n items) next in
      subst (λ w. IsEnd m w end) (sym (before ∙ ap (walked guard s) parts)) (end_then m (after_byte guard s b) (λ after. walked guard after (drop (i + 1) items)) end stops)
