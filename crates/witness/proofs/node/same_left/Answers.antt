use Rattle.std.specs.Cmp.{unsigned_Decides}
use Rattle.std.proofs.lemmas.Slice.Eq.{slice_eq-Decides}
use Rattle.witness.proofs.node.same_left.Goals as goal

pub returns : goal.returns
returns c = (slice_eq-Decides unsigned_Decides c.args.one.now c.args.other.now c.eq.result c.eq.ensures).0
