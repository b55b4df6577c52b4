-- Fronts of lists, and digits at the front of a text.
use Rattle.std.proofs.Common.{◌≡◌, ℕ, ◌+◌, ◌^◌, ◌<◌, ◌≤◌, Bool, true, false, List, [], ◌∷◌, ◌++◌, length, take, drop, cond, suc, refl, sym, ◌∙◌, ap, subst, arith}
use Rattle.std.proofs.lemmas.Fmt.{decimal_nonempty}
use Rattle.std.proofs.lemmas.List.{take-append-drop}
use Rattle.std.proofs.lemmas.List.Sums.{take_while-cons}
use Rattle.std.proofs.lemmas.Grind.{common_steps}
use Rattle.std.specs.Char.{is_ascii_digit}
use Rattle.std.specs.Str.{all_ascii_digits}
use Rattle.std.specs.Str.Parse.{digits_value}
use Rattle.std.proofs.lemmas.Bool.{false_from_ne_true}
use Rattle.schedule.specs.Faults.{writes_number, first_digits, after_digits}
use Rattle.schedule.proofs.NumberLemmas.{take-digits, number_is}
use Rattle.schedule.proofs.UniqueLemmas.{begins_with, first_of, digits_all, drop-front}

-- lists
pub take_front : (xs ys : List ℕ) → take (length xs) (xs ++ ys) ≡ xs
take_front [] ys = refl
take_front (x ∷ xs) ys = ap (λ t. x ∷ t) (take_front xs ys)

pub take_next : (xs : List ℕ) (c : ℕ) (ys : List ℕ) → take (suc (length xs)) (xs ++ c ∷ ys) ≡ xs ++ c ∷ []
take_next [] c ys = refl
take_next (x ∷ xs) c ys = ap (λ t. x ∷ t) (take_next xs c ys)

pub length_both : (xs ys : List ℕ) → length xs + length ys ≡ length (xs ++ ys)
length_both xs ys = grind (arith, common_steps)

-- the digits and what stands behind them
pub digits_split : (text : List ℕ) → text ≡ first_digits text ++ after_digits text
digits_split text = sym (take-append-drop (length (first_digits text)) text) ∙ ap (λ t. t ++ after_digits text) (take-digits text (length (first_digits text)) refl)

behind_step : (b : Bool) (byte : ℕ) (text : List ℕ) → is_ascii_digit byte ≡ b → begins_with is_ascii_digit (after_digits text) ≡ false →
    begins_with is_ascii_digit (drop (length (cond b (byte ∷ first_digits text) [])) (byte ∷ text)) ≡ false
behind_step true byte text e rest = rest
behind_step false byte text e rest = e

pub behind_digits : (text : List ℕ) → begins_with is_ascii_digit (after_digits text) ≡ false
behind_digits [] = refl
behind_digits (byte ∷ text) = rw (take_while-cons is_ascii_digit byte text) (behind_step (is_ascii_digit byte) byte text refl (behind_digits text))

-- digits before something that is no digit
pub record Digits (ds more : List ℕ) : Type 0 where
  pub first : first_digits (ds ++ more) ≡ ds
  pub after : after_digits (ds ++ more) ≡ more

pub digits_of : (ds more : List ℕ) → all_ascii_digits ds ≡ true → begins_with is_ascii_digit more ≡ false → Digits ds more
digits_of ds more all stop =
    let first = first_of is_ascii_digit ds more (digits_all ds all) stop in
    record { first = first; after = ap (λ d. drop (length d) (ds ++ more)) first ∙ drop-front ds more }

pub some_digits : (low end : ℕ) (ds : List ℕ) → end ≤ 2 ^ 64 → writes_number low end ds ≡ true → 0 < length ds
some_digits low end ds small w =
    let n = number_is low end ds w in
    subst (λ d. 0 < length d) n.0 (decimal_nonempty (digits_value 10 ds) (omega (arith, n.2, small)))

pub none_written : (low end : ℕ) → end ≤ 2 ^ 64 → writes_number low end [] ≡ false
none_written low end small = false_from_ne_true (writes_number low end []) (λ w. let some = some_digits low end [] small w in omega (arith, some))

-- a byte that is no digit
pub digits_none : (byte : ℕ) (more : List ℕ) → is_ascii_digit byte ≡ false → first_digits (byte ∷ more) ≡ []
digits_none byte more e = take_while-cons is_ascii_digit byte more ∙ ap (λ b. cond b (byte ∷ first_digits more) []) e

pub digits_some : (byte : ℕ) (more : List ℕ) → is_ascii_digit byte ≡ true → 0 < length (first_digits (byte ∷ more))
digits_some byte more e = subst (λ ds. 0 < length ds) (sym (take_while-cons is_ascii_digit byte more ∙ ap (λ b. cond b (byte ∷ first_digits more) []) e)) (omega arith)
