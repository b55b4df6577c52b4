use Rattle.std.proofs.Common.{◌≡◌, drop}
use Rattle.typing.specs.Scopes.{variable}
use Rattle.typing.proofs.scope.find.Given as goal

abbrev pub invariant-loop-b : goal.invariant-loop-b
invariant-loop-b l = variable (drop l.b-index l.scope) l.name ≡ variable l.scope l.name
