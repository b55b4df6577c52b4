use Rattle.std.proofs.Common.{◌≡◌, take}
use Rattle.parser.proofs.lexeme.lexemes.Given as goal

abbrev pub invariant-loop-token : goal.invariant-loop-token
invariant-loop-token l = l.all.items ≡ take l.token-index l.tokens
