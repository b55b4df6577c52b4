-- Rows of overriding methods: what is assigned to the methods of a row together.
use Rattle.std.proofs.Common.{◌≡◌, ℕ, zero, suc, ◌+◌, ◌<◌, ◌⊎◌, List, [], ◌∷◌, ◌++◌, length, map, take, drop, refl, sym, ap, subst, ◌∙◌, arith, inl, inr}
use Rattle.std.specs.Prelude.{Contains, slice_get}
use Rattle.std.proofs.lemmas.List.{length-map}
use Rattle.std.proofs.lemmas.Grind.{common_steps}
use Rattle.base.proofs.Lists.{contains_cases, contains_later}
use Rattle.fixpoint.proofs.NoteLemmas.{contains_none}
use Rattle.paths.specs.Paths.{PathData}
use Rattle.algebra.specs.declared.basic.Basic.{Basic}
use Rattle.algebra.specs.Basics.{join_of}
use Rattle.algebra.specs.HeldPaths.{Held}
use Rattle.core_program.specs.Core.{Program}
use Rattle.rules.specs.Search.{row_at}
use Rattle.rules.specs.Overriding.{AreOverriders}
use Rattle.rules.specs.Effect.{Assignment}
use Rattle.rules.specs.Rules.{AtMost, held_in}
use Rattle.rules.proofs.BasicLemmas.{below_chain, both_below}
use Rattle.refutation.specs.Lines.{overriding, joined_over, body_effect, certified_effect}
use Rattle.refutation.proofs.Sets.{below_const, join_least, join_first, join_second}
use Rattle.refutation.proofs.Over.{over_least, over_above}

-- a place before one more is an earlier one or the last
pub last_or : (c count : ℕ) → c < count + 1 → (c < count) ⊎ (c ≡ count)
last_or zero zero below = inr refl
last_or zero (suc count) below = inl (omega arith)
last_or (suc c) zero below = absurd (omega (arith, below))
last_or (suc c) (suc count) below = elim (last_or c count (omega (arith, below))) as (λ _. (suc c < suc count) ⊎ (suc c ≡ suc count)) [
  | inl less ↦ inl (omega (arith, less))
  | inr same ↦ inr (ap suc same)
]

-- as many methods or classes as in memory
pub same_count : {A B : Type 0} (f : A → B) (xs : List A) (ys : List B) → map f xs ≡ ys → length xs ≡ length ys
same_count f xs ys all = sym (length-map xs f) ∙ ap length all

-- what a whole slice of a list becomes, the list becomes
pub whole_written : {A : Type 0} (n : ℕ) (new old : List A) → n ≡ length old → length new ≡ length old → take n (new ++ drop (length new) old) ≡ new
whole_written n new old a b = grind (arith, common_steps)

module _ (rel : ℕ → List PathData) (A : Assignment) (H : Held) where
  -- what is assigned to the methods of a list together is at most a basic where that of each is
  list_least : (ns : List ℕ) (b : Basic) → ((n : ℕ) → Contains ns n → AtMost (A n (held_in (rel n) H)) b) → AtMost (joined_over rel A ns H) b
  list_least [] b h = below_const b
  list_least (n ∷ ns) b h = join_least _ _ b (h n (0, omega arith, refl)) (list_least ns b (λ k c. h k (contains_later n k ns c)))

  list_above : (ns : List ℕ) (n : ℕ) → Contains ns n → AtMost (A n (held_in (rel n) H)) (joined_over rel A ns H)
  list_above [] n c = absurd (contains_none n c)
  list_above (k ∷ ns) n c = elim (contains_cases k n ns c) as (λ _. AtMost (A n (held_in (rel n) H)) (joined_over rel A (k ∷ ns) H)) [
    | inl same ↦ subst (λ x. AtMost (A x (held_in (rel x) H)) (joined_over rel A (k ∷ ns) H)) same (join_first _ _)
    | inr later ↦ below_chain _ _ _ (list_above ns n later) (join_second _ _)
  ]

  -- the row of a method has its overriding methods
  pub row_same : (P : Program) (rows : List (List ℕ)) (m : ℕ) → AreOverriders P rows → joined_over rel A (row_at rows m) H ≡ joined_over rel A (overriding P m) H
  row_same P rows m are = both_below _ _
      (list_least (row_at rows m) _ (λ n c. over_above P rel A m H n ((are m n).0 c)))
      (over_least P rel A m H _ (λ n o. list_above (row_at rows m) n ((are m n).1 o)))

-- a method's body and what overrides it
pub run_is : (P : Program) (rel : ℕ → List PathData) (A : Assignment) (H : Held) (rows : List (List ℕ)) (m : ℕ) (methods : List ℕ) (body others result : Basic) → AreOverriders P rows → methods ≡ row_at rows m
    → body ≡ body_effect P rel A (slice_get P.methods m) H → others ≡ joined_over rel A methods H → result ≡ join_of body others → result ≡ certified_effect P rel A m H
run_is P rel A H rows m methods body others result are row b o r =
    r ∙ (λ i. join_of (b i) ((o ∙ ap (λ ns. joined_over rel A ns H) row ∙ row_same rel A H P rows m are) i))
