-- The digits at the front write the number.
use Rattle.std.proofs.Common.{◌≡◌, ◌∙◌, Ok, sym, ap, subst, true, length}
use Rattle.std.specs.Str.{all_ascii_digits}
use Rattle.std.proofs.lemmas.List.{take_rest}
use Rattle.books.proofs.Digits.{digits_are, number_read, number_large, number_none}
use Rattle.books.proofs.numbers.number.Goals as goal

pub value_of-requires : goal.value_of-requires
value_of-requires c = subst (λ ds. all_ascii_digits ds ≡ true) (sym c.digits-digits.ensures.value) (digits_are c.args.text.now)

pub returns-in_default-clause-read : goal.returns-in_default-clause-read
returns-in_default-clause-read c = number_none c.args.end c.digits-digits.result.now c.args.text.now c.digits-digits.ensures.value (sym c.in_default.is ∙ c.value_of.ensures) c.requires

pub returns-then-value-end-clause-read : goal.returns-then-value-end-clause-read
returns-then-value-end-clause-read c =
    number_read c.args.end c.digits-digits.result.now c.args.text.now c.in-Some.value c.digits-digits.ensures.value (sym c.in-Some.is ∙ c.value_of.ensures) c.if-value-end.true
    ∙ ap (λ t. Ok (c.in-Some.value, t)) (sym (take_rest c.args.text.now (length c.digits-digits.result.now)))

pub returns-clause-read : goal.returns-clause-read
returns-clause-read c = number_large c.args.end c.digits-digits.result.now c.args.text.now c.in-Some.value c.digits-digits.ensures.value (sym c.in-Some.is ∙ c.value_of.ensures) c.if-value-end.false
