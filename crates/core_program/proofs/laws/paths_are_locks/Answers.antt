use Rattle.core_program.proofs.LockLemmas.{path_is_lock}
use Rattle.core_program.proofs.laws.paths_are_locks.Goals as goal

pub returns : goal.returns
returns c = path_is_lock
