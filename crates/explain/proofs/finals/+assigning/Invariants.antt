use Rattle.std.proofs.Common.{◌≡◌, drop}
use Rattle.core_program.specs.Views.{stmts_from}
use Rattle.explain.specs.Finalising.{some_assigns}
use Rattle.explain.proofs.finals.+assigning.Given as goal

-- one of those that are left assigns exactly where one of all does
abbrev pub invariant-some_assigns-loop-s : goal.invariant-some_assigns-loop-s
invariant-some_assigns-loop-s l = some_assigns l.slot (stmts_from (drop l.s-index l.body)) ≡ some_assigns l.slot (stmts_from l.body)
