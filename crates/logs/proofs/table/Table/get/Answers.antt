use Rattle.std.proofs.Common.{◌∙◌}
use Rattle.logs.proofs.Lookups.{found_by}
use Rattle.logs.proofs.table.Table.get.Goals as goal

pub returns : goal.returns
returns g c = c.get.ensures.value ∙ found_by c.args.word.now c.args.self.now.values.entries
