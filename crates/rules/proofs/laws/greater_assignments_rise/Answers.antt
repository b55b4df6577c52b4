use Rattle.rules.proofs.EffectRises.{expr_rises, stmt_rises}
use Rattle.rules.proofs.laws.greater_assignments_rise.Goals as goal

pub returns-clause-expression : goal.returns-clause-expression
returns-clause-expression c = expr_rises

pub returns-clause-statement : goal.returns-clause-statement
returns-clause-statement c = stmt_rises
