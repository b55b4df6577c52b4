-- One renaming more.
use Rattle.std.proofs.Common.{subst, sym}
use Rattle.conditions.specs.NodeCalls.{IsRenamed, AreRenamings}
use Rattle.conditions.proofs.Renaming.{renamings_put}
use Rattle.conditions.proofs.table.NodeTable.remember_renamed.Goals as goal

pub invariant_of-self-2 : goal.invariant_of-self-2
invariant_of-self-2 c = (
  c.self.invariant.0,
  subst (AreRenamings c.self.inside.rows) (sym c.in_ok-insert.ensures.entries)
      (renamings_put c.self.inside.rows c.self.inside.renamings.entries c.args.by c.args.n c.self.invariant.1
      (subst (λ is. IsRenamed is c.args.by.pairs.items c.args.by.node c.args.n) (sym c.self.view_is) c.requires)),
)
