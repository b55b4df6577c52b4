use Rattle.rules.proofs.NearOnly.{near_only, near_only_expr, near_only_stmt}
use Rattle.rules.proofs.laws.only_near_paths_count.Goals as goal

pub returns-clause-body : goal.returns-clause-body
returns-clause-body c = near_only

pub returns-clause-expression : goal.returns-clause-expression
returns-clause-expression c = near_only_expr

pub returns-clause-statement : goal.returns-clause-statement
returns-clause-statement c = near_only_stmt
