use Rattle.std.proofs.Common.{◌≡◌, length}
use Rattle.typing.specs.Programs.{ascending}
use Rattle.typing.proofs.Ascending.{inserted_all}
use Rattle.typing.proofs.methods.ascending.Given as goal

abbrev pub invariant-loop-path : goal.invariant-loop-path
invariant-loop-path l = inserted_all l.set.keys l.rest.items ≡ ascending l.fn.paths.items

abbrev pub decreases-loop-path : goal.decreases-loop-path
decreases-loop-path l = length l.rest.items
