use Rattle.witness.specs.Searching.{IsPassed}
use Rattle.witness.proofs.passing.pass.Given as goal

abbrev pub invariant-steps : goal.invariant-steps
invariant-steps l = IsPassed l.search l.initial.node l.node
