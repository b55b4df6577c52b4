-- One number more.
use Rattle.std.proofs.Common.{subst, sym}
use Rattle.conditions.specs.NodeCalls.{AreRenamed}
use Rattle.conditions.proofs.Renaming.{renamed_put}
use Rattle.conditions.proofs.table.NodeTable.keep_renamed.Goals as goal

pub returns : goal.returns
returns c =
    subst (AreRenamed c.args.self.now c.args.pairs.now) (sym c.in_ok-insert.ensures.entries)
    (renamed_put c.args.self.now c.args.pairs.now c.args.done.now.entries c.args.n c.args.renamed c.requires.done c.requires.there c.requires.stands)
