-- The number grows by a digit at a time; where it no longer fits, the whole doesn't either.
use Rattle.std.proofs.Common.{◌≡◌, ◌+◌, ◌-◌, ◌*◌, true, sym, ap, ◌∙◌, arith, get_or, take}
use Rattle.std.specs.Char.{is_ascii_digit}
use Rattle.std.specs.Str.Parse.{digits_value}
use Rattle.std.proofs.lemmas.List.Folds.{length-prefix_len}
use Rattle.std.proofs.lemmas.List.Sums.{prefix_len-le-length}
use Rattle.schedule.specs.Faults.{first_digits}
use Rattle.schedule.proofs.NumberLemmas.{more_digits, all_digits, next_number, fits_then, none_then, fitting, too_large}
use Rattle.schedule.proofs.numbers.leading_digits.Goals as goal

pub returns-in_default-clause-value : goal.returns-in_default-clause-value
returns-in_default-clause-value c =
    let text = c.args.text.now in
    let i = c.digits.length in
    let is : is_ascii_digit (get_or text i 0) ≡ true = sym c.is_ascii_digit.ensures.value ∙ c.if-is_ascii_digit.true in
    let more = c.digits.value * 10 + (get_or text i 0 - 48) in
    too_large text (i + 1) more (more_digits text i c.digits.invariant.0 c.digits-test.true is) (next_number text i c.digits.value c.digits-test.true is c.digits.invariant.1) (none_then more c.in_default.ensures)

pub digits-preserved : goal.digits-preserved
digits-preserved c =
    let text = c.args.text.now in
    let i = c.digits.length in
    let is : is_ascii_digit (get_or text i 0) ≡ true = sym c.is_ascii_digit.ensures.value ∙ c.if-is_ascii_digit.true in
    let fits = fits_then (c.digits.value * 10 + (get_or text i 0 - 48)) c.in-Some.more c.in-Some.ensures in
    (more_digits text i c.digits.invariant.0 c.digits-test.true is, fits.0 ∙ sym (next_number text i c.digits.value c.digits-test.true is c.digits.invariant.1), fits.1)

pub returns-else-is_ascii_digit-clause-length : goal.returns-else-is_ascii_digit-clause-length
returns-else-is_ascii_digit-clause-length c =
    let text = c.args.text.now in
    all_digits text c.digits.length c.digits.invariant.0 (sym c.is_ascii_digit.ensures.value ∙ c.if-is_ascii_digit.false) ∙ sym (length-prefix_len is_ascii_digit text)

pub returns-else-is_ascii_digit-clause-value : goal.returns-else-is_ascii_digit-clause-value
returns-else-is_ascii_digit-clause-value c =
    let text = c.args.text.now in
    let all = all_digits text c.digits.length c.digits.invariant.0 (sym c.is_ascii_digit.ensures.value ∙ c.if-is_ascii_digit.false) in
    fitting c.digits.value (digits_value 10 (first_digits text)) (c.digits.invariant.1 ∙ ap (λ k. digits_value 10 (take k text)) all) c.digits.invariant.2

pub returns-after-digits-clause-inside : goal.returns-after-digits-clause-inside
returns-after-digits-clause-inside c = let most = prefix_len-le-length is_ascii_digit c.args.text.now in omega (arith, most, c.digits.invariant.0)
