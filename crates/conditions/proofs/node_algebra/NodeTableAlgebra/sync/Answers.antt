use Rattle.conditions.proofs.SyncLemmas.{sync-is}
use Rattle.conditions.specs.Nodes.{tree_at}
use Rattle.conditions.proofs.Values.{value_by}
use Rattle.conditions.proofs.node_algebra.NodeTableAlgebra.sync.Goals as goal

pub returns-clause-value : goal.returns-clause-value
returns-clause-value c =
    let f = c.in_ok-sync_at.ensures in
    let old = c.args.self.now in
    value_by c.sync_at.new.self c.in_ok-sync_at.field-0 _ _ f.stands
    (sync-is c.args.p.now (tree_at old c.args.a.now.0) (f.grows.was.canonical c.args.a.now.0 c.requires))
