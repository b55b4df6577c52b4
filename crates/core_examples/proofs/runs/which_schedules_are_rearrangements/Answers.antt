use Rattle.std.proofs.Common.{arith}
use Rattle.core_examples.proofs.runs.which_schedules_are_rearrangements.Goals as goal

pub returns-clause-one_more : goal.returns-clause-one_more
returns-clause-one_more c same = let e = same 0 in omega (arith, e)

pub returns-clause-other_thread : goal.returns-clause-other_thread
returns-clause-other_thread c same = let e = same 0 in omega (arith, e)
