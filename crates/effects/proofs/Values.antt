-- Values of a list that are known to their store, and what a store keeps.
use Rattle.std.proofs.Common.{◌≡◌, ℕ, zero, suc, ◌<◌, List, [], ◌∷◌, length, get_or, refl, sym, ◌∙◌, subst, arith, Result, Ok, Err, IfOk}
use Rattle.algebra.specs.declared.basic.Basic.{Basic}
use Rattle.algebra.specs.HeldPaths.{Held}
use Rattle.algebra.specs.Values.{Keeps}
use Rattle.effects.specs.Rules.{AreAllKnown}

-- a value of the list is known
pub known_at : {S A : Type 0} (k : S → A → Type 0) (s : S) (xs : List A) (place : ℕ) (x : A) → place < length xs → x ≡ get_or xs place x → AreAllKnown k s xs → k s x
known_at k s [] place x below is known = absurd (omega (arith, below))
known_at k s (y ∷ xs) zero x below is known = subst (k s) (sym is) known.0
known_at k s (y ∷ xs) (suc place) x below is known = known_at k s xs place x (omega (arith, below)) is known.1

-- what two calls keep, one after the other
pub keeps_both : {S A : Type 0} (k : S → A → Type 0) (v : S → A → Held → Basic) (a b c : S) → Keeps k v a b → Keeps k v b c → Keeps k v a c
keeps_both k v a b c first second = record {
  known = λ x is. second.known x (first.known x is);
  same = λ x is H. second.same x (first.known x is) H ∙ first.same x is H;
}

-- a store keeps what it has
pub keeps_itself : {S A : Type 0} (k : S → A → Type 0) (v : S → A → Held → Basic) (s : S) → Keeps k v s s
keeps_itself k v s = record { known = λ x is. is; same = λ x is H. refl }

-- what a call answers, told in other words
pub value_same : {S A E : Type 0} (value : S → A → Held → Basic) (s : S) (r : Result A E) (f g : Held → Basic) → ((H : Held) → f H ≡ g H) → IfOk r (λ a. (H : Held) → value s a H ≡ f H) → IfOk r (λ a. (H : Held) → value s a H ≡ g H)
value_same value s (Ok a) f g same is = λ H. is H ∙ same H
value_same value s (Err e) f g same is = is
