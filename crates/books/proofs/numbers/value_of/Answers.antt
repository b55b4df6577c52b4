-- The number grows by a digit at a time; where it no longer fits, the whole doesn't either.
use Rattle.std.proofs.Common.{◌∙◌, ◌+◌, sym, arith, get_or}
use Rattle.books.proofs.Digits.{digit_at, from_48, next_number, no_number}
use Rattle.books.proofs.numbers.value_of.Goals as goal

pub overflow_sub-digit : goal.overflow_sub-digit
overflow_sub-digit c =
    let i = c.loop-digit.digit-index in
    from_48 (get_or c.args.digits.now i 0) (digit_at c.args.digits.now i c.requires c.loop-digit-test.true)

pub returns-in_err-checked_mul : goal.returns-in_err-checked_mul
returns-in_err-checked_mul c =
    let ds = c.args.digits.now in
    let i = c.loop-digit.digit-index in
    let next = next_number ds i c.loop-digit.number c.requires c.loop-digit-test.true c.loop-digit.invariant.0 in
    c.from_residual.ensures ∙ sym (no_number ds (i + 1) (λ small. c.in_err-checked_mul.ensures (omega (arith, next, small))))

pub returns-in_err-number : goal.returns-in_err-number
returns-in_err-number c =
    let ds = c.args.digits.now in
    let i = c.loop-digit.digit-index in
    let next = next_number ds i c.loop-digit.number c.requires c.loop-digit-test.true c.loop-digit.invariant.0 in
    let tens = c.in_ok-checked_mul.ensures.1 in
    let digit = c.from.ensures in
    c.from_residual-in_err-number.ensures ∙ sym (no_number ds (i + 1) (λ small. c.in_err-number.ensures (omega (arith, next, tens, digit, small))))

pub loop-digit-preserved : goal.loop-digit-preserved
loop-digit-preserved c =
    let ds = c.args.digits.now in
    let i = c.loop-digit.digit-index in
    let next = next_number ds i c.loop-digit.number c.requires c.loop-digit-test.true c.loop-digit.invariant.0 in
    let tens = c.in_ok-checked_mul.ensures.1 in
    let digit = c.from.ensures in
    let sum = c.in_ok-number.ensures in
    (omega (arith, next, tens, digit, sum.1), omega (arith, sum.0, sum.1))
