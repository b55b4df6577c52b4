-- Kept results stay right.
use Rattle.conditions.proofs.Memo.{results_on}
use Rattle.conditions.proofs.Renaming.{renamings_on}
use Rattle.conditions.proofs.table.NodeTable.node.Goals as goal

pub invariant_of-self : goal.invariant_of-self
invariant_of-self c = (
  results_on c.self.inside.rows c.node.new.self c.self.inside.calls.entries c.node.ensures.grows c.self.invariant.0,
  renamings_on c.self.inside.rows c.node.new.self c.self.inside.renamings.entries c.node.ensures.grows c.self.invariant.1,
)
