-- The trees of premises, one after the other.
use Rattle.std.proofs.Common.{◌≡◌, ℕ, zero, suc, ◌+◌, ◌<◌, List, [], ◌∷◌, ◌++◌, map, drop, length, get_or, refl, sym, ◌∙◌, ap, arith}
use Rattle.std.proofs.lemmas.List.{append_assoc, map-append}
use Rattle.algebra.specs.HeldPaths.{Held}
use Rattle.conditions.specs.declared.tree.Tree.{Tree}
use Rattle.effects.specs.Rules.{AreAllKnown, Value}

next_value : (V : ℕ → Value) (ns : List ℕ) (i : ℕ) → i < length ns → map V (drop i ns) ≡ V (get_or ns i 0) ∷ map V (drop (suc i) ns)
next_value V [] i below = absurd (omega (arith, below))
next_value V (m ∷ ns) zero below = refl
next_value V (m ∷ ns) (suc i) below = next_value V ns i (omega (arith, below))

pushed_more : (old new : List Value) (x : Value) (more : List Value) → new ≡ old ++ (x ∷ []) → new ++ more ≡ old ++ (x ∷ more)
pushed_more old new x more e = ap (λ k. k ++ more) e ∙ append_assoc old (x ∷ []) more

-- one premise more
pub values_more : (f : Tree → Value) (V : ℕ → Value) (found new : List Tree) (t : Tree) (ns : List ℕ) (i : ℕ) (all : List Value) → i < length ns →
    ((H : Held) → f t H ≡ V (get_or ns i 0) H) → new ≡ found ++ (t ∷ []) → map f found ++ map V (drop i ns) ≡ all → map f new ++ map V (drop (i + 1) ns) ≡ all
values_more f V found new t ns i all below value pushed so_far =
    let one : f t ≡ V (get_or ns i 0) = λ j H. value H j in
    let next : i + 1 ≡ suc i = omega arith in
    pushed_more (map f found) (map f new) (f t) (map V (drop (i + 1) ns)) (ap (map f) pushed ∙ map-append f found (t ∷ []))
    ∙ (λ j. map f found ++ (one j ∷ map V (drop (next j) ns)))
    ∙ ap (λ vs. map f found ++ vs) (sym (next_value V ns i below))
    ∙ so_far

pub known_pushed : {S A : Type 0} (K : S → A → Type 0) (s : S) (xs : List A) (x : A) → AreAllKnown K s xs → K s x → AreAllKnown K s (xs ++ (x ∷ []))
known_pushed K s [] x are one = (one, tt)
known_pushed K s (y ∷ xs) x are one = (are.0, known_pushed K s xs x are.1 one)
