use Rattle.witness.specs.Searching.{IsWalked}
use Rattle.witness.proofs.direct.catch_up.Given as goal

abbrev pub invariant-steps : goal.invariant-steps
invariant-steps l = IsWalked l.search l.node
