-- Digits and what they are worth.
use Rattle.std.proofs.Common.{◌≡◌, ◌-◌, ℕ, true, arith}
use Rattle.std.specs.Char.{is_ascii_digit, digit_value}
use Rattle.std.specs.Str.{all_ascii_digits}
use Rattle.std.specs.Str.Parse.{digits_value}
use Rattle.std.proofs.lemmas.Bool.Decides.{nat_tests}
use Rattle.std.proofs.lemmas.Str.Parse.{numerals_by_value, tells_all_ascii_digits, IsNumeralModel}

-- std's words for digits and their value
pub numerals : IsNumeralModel (λ ds. all_ascii_digits ds ≡ true) (digits_value 10)
numerals = numerals_by_value (λ ds. all_ascii_digits ds ≡ true) tells_all_ascii_digits

pub worth : (d : ℕ) → is_ascii_digit d ≡ true → digit_value d ≡ d - 48
worth d e = grind (arith, nat_tests)
