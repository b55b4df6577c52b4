-- The number that is found is the renamed one.
use Rattle.std.proofs.Common.{◌∙◌}
use Rattle.conditions.proofs.Renaming.{renaming_found}
use Rattle.conditions.proofs.table.NodeTable.renamed_before.Goals as goal

pub returns : goal.returns
returns c =
    renaming_found c.self.inside.rows c.args.self.now c.self.inside.renamings.entries c.args.by.now c.copied.result c.self.view_is c.self.invariant.1
    (c.copied.ensures ∙ c.get.ensures.value)
