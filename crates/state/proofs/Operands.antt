-- Operands in a vector, the topmost last.
use Rattle.std.proofs.Common.{◌≡◌, ℕ, zero, suc, ◌-◌, ◌≤◌, List, [], ◌∷◌, ◌++◌, length, take, drop, reverse, refl, sym, ap, ◌∙◌, arith, length-drop}
use Rattle.std.specs.Prelude.{true, false, nat_le, Result, Ok, Err, OnOk}
use Rattle.std.specs.declared.alloc.AllocError.{AllocError}
use Rattle.std.proofs.lemmas.List.{reverse-append, length-reverse, take-append-drop}
use Rattle.std.proofs.lemmas.Bool.Decides.{nat_tests}
use Rattle.state.specs.declared.value.Value.{Value}
use Rattle.state.specs.Values.{dropped}

dropped_front : (n : ℕ) (xs ys : List Value) → length xs ≡ n → dropped n (xs ++ ys) ≡ ys
dropped_front zero [] ys e = refl
dropped_front zero (x ∷ xs) ys e = absurd (omega arith)
dropped_front (suc n) [] ys e = absurd (omega arith)
dropped_front (suc n) (x ∷ xs) ys e = dropped_front n xs ys (omega arith)

dropped_all : (n : ℕ) (ops : List Value) → length ops ≤ n → dropped n ops ≡ []
dropped_all zero [] h = refl
dropped_all zero (v ∷ ops) h = absurd (omega arith)
dropped_all (suc n) [] h = dropped_all n [] (omega arith)
dropped_all (suc n) (v ∷ ops) h = dropped_all n ops (omega arith)

-- the topmost operands are the last ones
pub dropped-reverse : (n kept : ℕ) (xs : List Value) → kept ≡ length xs - n → dropped n (reverse xs) ≡ reverse (take kept xs)
dropped-reverse n kept xs is = elim (nat_le n (length xs)) as (λ b. nat_le n (length xs) ≡ b → dropped n (reverse xs) ≡ reverse (take kept xs)) [
  | true ↦ λ e.
      let few : n ≤ length xs = le_from n (length xs) e in
      let front : length (reverse (drop kept xs)) ≡ n = length-reverse (drop kept xs) ∙ length-drop kept xs ∙ omega arith in
      ap (dropped n) (ap reverse (sym (take-append-drop kept xs)) ∙ reverse-append (take kept xs) (drop kept xs))
      ∙ dropped_front n (reverse (drop kept xs)) (reverse (take kept xs)) front
  | false ↦ λ e.
      let many : length xs ≤ n = lt_from n (length xs) e in
      let none : kept ≡ 0 = omega arith in
      dropped_all n (reverse xs) (omega (arith, length-reverse xs)) ∙ sym (ap (λ k. reverse (take k xs)) none ∙ nothing xs)
] refl
  where
    le_from : (a b : ℕ) → nat_le a b ≡ true → a ≤ b
    le_from a b e = grind (arith, nat_tests)

    lt_from : (a b : ℕ) → nat_le a b ≡ false → b ≤ a
    lt_from a b e = grind (arith, nat_tests)

    nothing : (xs : List Value) → reverse (take 0 xs) ≡ []
    nothing [] = refl
    nothing (x ∷ xs) = refl

pub put_on : (r : Result (Unit {0}) AllocError) (new xs : List Value) (n kept : ℕ) (v : Value) → kept ≡ length xs - n → OnOk r (new ≡ take kept xs ++ v ∷ []) → OnOk r (reverse new ≡ v ∷ dropped n (reverse xs))
put_on (Err e) new xs n kept v is h = tt
put_on (Ok u) new xs n kept v is h = ap reverse h ∙ reverse-append (take kept xs) (v ∷ []) ∙ ap (λ ops. v ∷ ops) (sym (dropped-reverse n kept xs is))
