use Rattle.std.proofs.Common.{◌≡◌, ◌++◌, ◌+◌, drop}
use Rattle.core_program.specs.Views.{program_of, exprs_from}
use Rattle.rules.specs.Mentions.{paths_of}
use Rattle.rules.specs.Clauses.{all_passed}
use Rattle.rules.proofs.body_clauses.add_all_passed.Given as goal

-- the clauses so far and those of the rest are those of all
abbrev pub invariant-loop-place : goal.invariant-loop-place
invariant-loop-place l = l.clauses.items ++ all_passed l.call.params l.call.callee (l.place + 1) l.call.caller (paths_of (program_of l.program) (exprs_from (drop l.place l.args))) ≡ l.fn.clauses.items ++ all_passed l.call.params l.call.callee 1 l.call.caller (paths_of (program_of l.program) (exprs_from l.args))
