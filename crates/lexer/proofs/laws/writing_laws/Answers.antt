use Rattle.lexer.proofs.Written.{written_token, written_gap}
use Rattle.lexer.proofs.laws.writing_laws.Goals as goal

pub returns-clause-token : goal.returns-clause-token
returns-clause-token c = written_token

pub returns-clause-blanks : goal.returns-clause-blanks
returns-clause-blanks c = written_gap
