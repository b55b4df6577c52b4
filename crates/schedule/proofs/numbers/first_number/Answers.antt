-- The digits at the front write a number, or they don't.
use Rattle.std.proofs.Common.{◌≡◌, ◌≢◌, ◌∙◌, ◌<◌, ℕ, Some, None, true, false, refl, sym, ap, subst, arith, if◌then◌else◌, nat_lt, ◌&&◌, ◌==◌, length, get_or}
use Rattle.std.specs.Str.Parse.{digits_value}
use Rattle.std.proofs.lemmas.Bool.Decides.{nat_tests}
use Rattle.schedule.specs.Faults.{first_digits}
use Rattle.schedule.proofs.NumberLemmas.{leading_zero, no_digits, some_digits, take-digits, digits_are}
use Rattle.schedule.proofs.numbers.first_number.Goals as goal

pub returns-then-found-eq0-clause-value : goal.returns-then-found-eq0-clause-value
returns-then-found-eq0-clause-value c =
    ap (λ n. n.value) c.without_value.ensures
    ∙ rw (no_digits (first_digits c.args.text.now) (sym c.leading_digits-found.ensures.length ∙ c.if-found-eq0.true)) refl

pub returns-then-has_leading_zero-clause-value : goal.returns-then-has_leading_zero-clause-value
returns-then-has_leading_zero-clause-value c =
    let digits = take-digits c.args.text.now c.leading_digits-found.result.length c.leading_digits-found.ensures.length in
    let zero : (nat_lt 1 (length (first_digits c.args.text.now)) && (get_or (first_digits c.args.text.now) 0 0 == 48)) ≡ true =
    subst (λ ds. (nat_lt 1 (length ds) && (get_or ds 0 0 == 48)) ≡ true) digits (sym c.has_leading_zero.ensures ∙ c.if-has_leading_zero.true) in
    ap (λ n. n.value) c.without_value-then-has_leading_zero.ensures ∙ rw (leading_zero (first_digits c.args.text.now) zero) refl

pub returns-clause-value : goal.returns-clause-value
returns-clause-value c =
    let digits = take-digits c.args.text.now c.leading_digits-found.result.length c.leading_digits-found.ensures.length in
    let plain : (nat_lt 1 (length (first_digits c.args.text.now)) && (get_or (first_digits c.args.text.now) 0 0 == 48)) ≡ false =
    subst (λ ds. (nat_lt 1 (length ds) && (get_or ds 0 0 == 48)) ≡ false) digits (sym c.has_leading_zero.ensures ∙ c.if-has_leading_zero.false) in
    let some : 0 < length (first_digits c.args.text.now) = some_length c.leading_digits-found.result.length (length (first_digits c.args.text.now)) c.leading_digits-found.ensures.length c.if-found-eq0.false in
    c.leading_digits-found.ensures.value
    ∙ ap (λ b. if b then Some (digits_value 10 (first_digits c.args.text.now)) else None) (some_digits (first_digits c.args.text.now) (digits_are c.args.text.now) plain some)
  where
    some_length : (m n : ℕ) → m ≡ n → m ≢ 0 → 0 < n
    some_length m n same some = grind (arith, nat_tests)
