use Rattle.witness.specs.Searching.{IsWalked}
use Rattle.witness.proofs.direct.direct_order.Given as goal

abbrev pub invariant-entries : goal.invariant-entries
invariant-entries l = IsWalked l.search l.node
