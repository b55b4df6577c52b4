-- A text has no more tokens than bytes.
use Rattle.std.proofs.Common.{ℕ, ◌≤◌, List, length, ap, arith, length-append}
use Rattle.lexer.specs.declared.tokens.Token.{Token}
use Rattle.lexer.specs.Tokens.{TokensFrom, at_end, a_gap, a_token}
use Rattle.lexer.proofs.Laying.{nonempty}

pub few_tokens : {text : List ℕ} {at : ℕ} {ts : List Token} → TokensFrom text at ts → length ts ≤ length text
few_tokens at_end = omega arith
few_tokens (a_gap {bytes = bytes} {rest = rest} kind longest meant later) =
    let whole = ap length longest.whole in omega (arith, few_tokens later, whole, length-append bytes rest)
few_tokens (a_token {bytes = bytes} {rest = rest} kind its longest meant later) =
    let whole = ap length longest.whole in omega (arith, few_tokens later, whole, length-append bytes rest, nonempty kind bytes longest.is)
