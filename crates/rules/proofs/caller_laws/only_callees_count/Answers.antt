-- The effect looks at callees alone.
use Rattle.rules.proofs.CallsSame.{stmt_same}
use Rattle.rules.proofs.caller_laws.only_callees_count.Goals as goal

pub returns : goal.returns
returns c = stmt_same
