-- The table has a basic at each part.
use Rattle.std.proofs.Common.{length, ap, ◌∙◌}
use Rattle.refutation.proofs.TableLemmas.{consts_length}
use Rattle.refutation.proofs.bodies.body_table.Goals as goal

pub tell_between-requires-clause-size : goal.tell_between-requires-clause-size
tell_between-requires-clause-size c = ap length (c.as_mut_slice.ensures.value ∙ c.in_ok-basics.ensures) ∙ consts_length c.rel-rel.result.now
