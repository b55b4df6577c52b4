use Rattle.rules.proofs.Falling.{expr_falls, stmt_falls}
use Rattle.rules.proofs.laws.more_held_paths_fall.Goals as goal

pub returns-clause-expression : goal.returns-clause-expression
returns-clause-expression c = expr_falls

pub returns-clause-statement : goal.returns-clause-statement
returns-clause-statement c = stmt_falls
