use Rattle.std.proofs.Common.{ap}
use Rattle.core_program.specs.Views.{program_of}
use Rattle.rules.specs.Search.{rows_of}
use Rattle.rules.proofs.LimitLemmas.{sets_ok}
use Rattle.rules.proofs.relevance.sets_of.Goals as goal

pub returns : goal.returns
returns c = sets_ok c.parted_sets.result (program_of c.args.program.now) c.in_ok-clauses.clauses.items c.as_slice.result.now (rows_of c.in_ok-near.near.items) (rows_of c.as_slice-2.result.now) c.as_slice.ensures.value c.in_ok-clauses.ensures c.in_ok-near.ensures (ap rows_of c.as_slice-2.ensures.value) c.parted_sets.ensures
