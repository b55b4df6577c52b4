use Rattle.std.proofs.lemmas.Slice.Eq.{slice_eq-Decides}
use Rattle.infer.proofs.EqualTables.{decides}
use Rattle.infer.proofs.table.are_equal.Goals as goal

pub returns : goal.returns
returns c = (slice_eq-Decides decides c.args.one.now c.args.two.now c.eq.result c.eq.ensures).0
