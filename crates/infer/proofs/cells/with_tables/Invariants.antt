use Rattle.std.proofs.Common.{drop}
use Rattle.infer.specs.Bodies.{rel_at, known_paths, assigned_at}
use Rattle.infer.proofs.RunLemmas.{IsJoined}
use Rattle.infer.proofs.cells.with_tables.Given as goal

-- the value so far with the tables of the rest is the value with all tables
abbrev pub invariant-loop-method : goal.invariant-loop-method
invariant-loop-method g l =
    IsJoined g.G.Algebra.IsKnown g.G.Algebra.value (rel_at l.walk) (assigned_at l.walk) (known_paths l.walk l.required) l.fn.algebra l.fn.value l.methods l.algebra l.greatest (drop l.method-index l.methods)
