use Rattle.conditions.specs.Conditions.{cond_of}
use Rattle.conditions.proofs.SyncLemmas.{sync-is}
use Rattle.conditions.proofs.AlgebraLemmas.{known_from, value_from}
use Rattle.conditions.proofs.trees.TreesAlgebra.sync.Goals as goal

pub returns-clause-known : goal.returns-clause-known
returns-clause-known c = known_from _ _ _ (sync-is c.args.p.now (cond_of c.args.a.now) c.requires) c.sync_in.ensures

pub returns-clause-value : goal.returns-clause-value
returns-clause-value c = value_from _ _ _ (sync-is c.args.p.now (cond_of c.args.a.now) c.requires) c.sync_in.ensures
