use Rattle.core_program.proofs.ViewLemmas.{expr_of-Call, expr_of-New, stmt_of-Block}
use Rattle.core_program.proofs.laws.lists_as_plain_data.Goals as goal

pub returns-clause-call : goal.returns-clause-call
returns-clause-call c = expr_of-Call

pub returns-clause-new : goal.returns-clause-new
returns-clause-new c = expr_of-New

pub returns-clause-block : goal.returns-clause-block
returns-clause-block c = stmt_of-Block
