-- A number of the source is what `parse` reads as one.
use Rattle.std.proofs.Common.{◌≡◌, ℕ, ◌<◌, ◌==◌, ◌&&◌, Bool, true, false, List, [], ◌∷◌, length, if◌then◌else◌, refl, arith, eqb-true, ap, sym, subst, ◌^◌, nat_lt, Some, None, Err, Result}
use Rattle.std.proofs.lemmas.Bool.{and_parts}
use Rattle.std.proofs.lemmas.Bool.Decides.{nat_tests}
use Rattle.std.specs.List.{list_all}
use Rattle.std.specs.Char.{digit_value}
use Rattle.std.specs.Str.Parse.{IsNumeral, AllDigits, without_leading_plus, ParsesUnsigned, digits_value}
use Rattle.lexer.specs.Limits.{greatest_literal}
use Rattle.lexer.specs.Pieces.{is_number, is_digit}

pub digit_is : (c : ℕ) → is_digit c ≡ true → digit_value c < 10
digit_is c h = grind (arith, nat_tests)

all_digits : (cs : List ℕ) → list_all is_digit cs ≡ true → AllDigits 10 cs
all_digits [] h = tt
all_digits (c ∷ cs) h = let b = and_parts (is_digit c) (list_all is_digit cs) h in (digit_is c b.0, all_digits cs b.1)

none_left : (cs : List ℕ) → (length cs == 0) ≡ true → list_all is_digit cs ≡ true
none_left [] h = refl
none_left (c ∷ cs) h = absurd (let e : length (c ∷ cs) ≡ 0 = eqb-true (length (c ∷ cs)) 0 h in omega arith)

-- each byte of a number is a digit
pub number_digits : (c : ℕ) (cs : List ℕ) (zero : Bool) → (c == 48) ≡ zero → (if zero then length cs == 0 else (is_digit c && list_all is_digit cs)) ≡ true
    → (is_digit c ≡ true) × (list_all is_digit cs ≡ true)
number_digits c cs true e h = let z : c ≡ 48 = eqb-true c 48 e in (ap is_digit z, none_left cs h)
number_digits c cs false e h = and_parts (is_digit c) (list_all is_digit cs) h

no_plus : (c : ℕ) (cs : List ℕ) → is_digit c ≡ true → without_leading_plus (c ∷ cs) ≡ c ∷ cs
no_plus c cs h = let e : (c == 43) ≡ false = grind (arith, nat_tests) in rw e refl

pub no_plus_in_number : (p : List ℕ) → is_number p ≡ true → without_leading_plus p ≡ p
no_plus_in_number [] h = absurd (cc)
no_plus_in_number (c ∷ cs) h = no_plus c cs (number_digits c cs (c == 48) refl h).0

pub number_is_numeral : (p : List ℕ) → is_number p ≡ true → IsNumeral 10 p
number_is_numeral [] h = absurd (cc)
number_is_numeral (c ∷ cs) h = (omega arith, all_digits (c ∷ cs) (let d = number_digits c cs (c == 48) refl h in rw (d.0) d.1))

-- where `parse` fails, the number is too large
pub too_large : {E : Type 0} (p : List ℕ) (r : Result ℕ E) (e : E) → is_number p ≡ true → r ≡ Err e → ParsesUnsigned 32 10 p r
    → None ≡ (if nat_lt greatest_literal (digits_value 10 p) then None else Some (digits_value 10 p))
too_large {E} p r e h is parses =
    let plain = no_plus_in_number p h in
    let fails : ParsesUnsigned {E = E} 32 10 p (Err e) = subst (ParsesUnsigned 32 10 p) is parses in
    let above : digits_value 10 p < 2 ^ 32 → ⊥ = λ l. fails (subst (λ q. IsNumeral 10 q × (digits_value 10 q < 2 ^ 32)) (sym plain) (number_is_numeral p h, l)) in
    let t : nat_lt greatest_literal (digits_value 10 p) ≡ true = grind (arith, nat_tests) in rw t refl
