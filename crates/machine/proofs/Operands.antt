-- The operand under some others, where the topmost stands last.
use Rattle.std.proofs.Common.{◌≡◌, ℕ, zero, suc, ◌+◌, ◌-◌, ◌<◌, ◌≤◌, List, [], ◌∷◌, ◌++◌, length, reverse, get_or, refl, sym, ap, ◌∙◌, arith}
use Rattle.std.proofs.lemmas.List.{reverse-append, length-reverse}
use Rattle.state.specs.declared.value.Value.{Value}
use Rattle.state.specs.declared.value.Value.TheVariants.{Null}
use Rattle.state.specs.Values.{top, dropped}

none_left : (n : ℕ) → top (dropped n []) ≡ Null
none_left zero = refl
none_left (suc n) = none_left n

top_is : (n : ℕ) (ops : List Value) (d : Value) → n < length ops → top (dropped n ops) ≡ get_or ops n d
top_is n [] d below = absurd (omega arith)
top_is zero (v ∷ ops) d below = refl
top_is (suc n) (v ∷ ops) d below = top_is n ops d (omega arith)

pub past_top : (n : ℕ) (ops : List Value) → length ops ≤ n → top (dropped n ops) ≡ Null
past_top n [] past = none_left n
past_top zero (v ∷ ops) past = absurd (omega arith)
past_top (suc n) (v ∷ ops) past = past_top n ops (omega arith)

get_front : (xs ys : List Value) (k : ℕ) (d : Value) → k < length xs → get_or (xs ++ ys) k d ≡ get_or xs k d
get_front [] ys k d below = absurd (omega arith)
get_front (x ∷ xs) ys zero d below = refl
get_front (x ∷ xs) ys (suc k) d below = get_front xs ys k d (omega arith)

get_last : (xs : List Value) (v : Value) (k : ℕ) (d : Value) → k ≡ length xs → get_or (xs ++ v ∷ []) k d ≡ v
get_last [] v zero d e = refl
get_last [] v (suc k) d e = absurd (omega arith)
get_last (x ∷ xs) v zero d e = absurd (omega arith)
get_last (x ∷ xs) v (suc k) d e = get_last xs v k d (omega arith)

get_reverse : (xs : List Value) (n k : ℕ) (d : Value) → n + k + 1 ≡ length xs → get_or (reverse xs) n d ≡ get_or xs k d
get_reverse [] n k d e = absurd (omega arith)
get_reverse (x ∷ xs) n zero d e =
    ap (λ l. get_or l n d) (reverse-append (x ∷ []) xs) ∙ get_last (reverse xs) x n d (omega (arith, length-reverse xs))
get_reverse (x ∷ xs) n (suc k) d e =
    ap (λ l. get_or l n d) (reverse-append (x ∷ []) xs) ∙ get_front (reverse xs) (x ∷ []) n d (omega (arith, length-reverse xs)) ∙ get_reverse xs n k d (omega arith)

pub operand_is : (xs : List Value) (n k : ℕ) (d : Value) → n < length xs → k ≡ length xs - 1 - n → get_or xs k d ≡ top (dropped n (reverse xs))
operand_is xs n k d below is = sym (get_reverse xs n k d (omega arith)) ∙ sym (top_is n (reverse xs) d (omega (arith, length-reverse xs)))
