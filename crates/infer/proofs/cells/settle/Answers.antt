-- What is kept, from the state where it began.
use Rattle.std.proofs.Common.{refl}
use Rattle.effects.proofs.Values.{keeps_itself}
use Rattle.infer.proofs.cells.settle.Goals as goal

pub returns-clause-same_reference : goal.returns-clause-same_reference
returns-clause-same_reference g c = (c.least.ensures.keeps c.args.cells.now (refl, keeps_itself g.G.Algebra.IsKnown g.G.Algebra.value c.args.cells.now.algebra.now)).0

pub returns-clause-keeps : goal.returns-clause-keeps
returns-clause-keeps g c = (c.least.ensures.keeps c.args.cells.now (refl, keeps_itself g.G.Algebra.IsKnown g.G.Algebra.value c.args.cells.now.algebra.now)).1
