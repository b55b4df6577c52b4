-- The number that is found is the renamed one.
use Rattle.std.proofs.Common.{◌∙◌}
use Rattle.conditions.proofs.Renaming.{renamed_found}
use Rattle.conditions.proofs.table.NodeTable.renamed_among.Goals as goal

pub returns : goal.returns
returns c = renamed_found c.args.self.now c.args.pairs.now c.args.done.now.entries c.args.n c.copied.result c.requires (c.copied.ensures ∙ c.get.ensures.value)
