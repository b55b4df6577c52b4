use Rattle.std.proofs.Common.{length}
use Rattle.lexer.proofs.Lexing.{LexedTo}
use Rattle.lexer.proofs.lexer.cut_all.Given as goal

abbrev pub invariant-loop-rest : goal.invariant-loop-rest
invariant-loop-rest l = LexedTo l.text l.rest l.at l.tokens.items

abbrev pub decreases-loop-rest : goal.decreases-loop-rest
decreases-loop-rest l = length l.rest
