-- One result more.
use Rattle.std.proofs.Common.{subst, sym}
use Rattle.conditions.specs.NodeCalls.{IsResult, AreResults}
use Rattle.conditions.proofs.Memo.{results_put}
use Rattle.conditions.proofs.table.NodeTable.remember.Goals as goal

pub invariant_of-self-2 : goal.invariant_of-self-2
invariant_of-self-2 c = (
  subst (AreResults c.self.inside.rows) (sym c.in_ok-at.ensures.entries)
      (results_put c.self.inside.rows c.self.inside.calls.entries c.args.call c.args.n c.self.invariant.0 (subst (λ is. IsResult is c.args.call c.args.n) (sym c.self.view_is) c.requires)),
  c.self.invariant.1,
)
