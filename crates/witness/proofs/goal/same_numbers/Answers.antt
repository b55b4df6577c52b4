use Rattle.std.specs.Cmp.{signed_Decides}
use Rattle.std.proofs.lemmas.Slice.Eq.{slice_eq-Decides}
use Rattle.witness.proofs.goal.same_numbers.Goals as goal

pub returns-clause-same : goal.returns-clause-same
returns-clause-same c = (slice_eq-Decides signed_Decides c.args.some.now c.args.others.now c.eq.result c.eq.ensures).0

pub returns-clause-told : goal.returns-clause-told
returns-clause-told c = (slice_eq-Decides signed_Decides c.args.some.now c.args.others.now c.eq.result c.eq.ensures).1
