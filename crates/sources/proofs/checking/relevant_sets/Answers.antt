use Rattle.std.proofs.Common.{ap, Err}
use Rattle.sources.proofs.checking.relevant_sets.Goals as goal

pub too_many_locks-requires-clause-first : goal.too_many_locks-requires-clause-first
too_many_locks-requires-clause-first c = λ m e. c.in-Err.ensures.crowded m (ap Err e)
