use Rattle.std.proofs.Common.{◌≡◌, ◌++◌, drop, map}
use Rattle.core_program.specs.Views.{program_of, method_of}
use Rattle.rules.specs.Clauses.{clauses_from}
use Rattle.rules.proofs.body_clauses.clauses_of.Given as goal

-- the clauses so far and those of the rest are those of all
abbrev pub invariant-loop-place : goal.invariant-loop-place
invariant-loop-place l = l.clauses.items ++ clauses_from (program_of l.program) l.place (map method_of (drop l.place l.methods)) ≡ clauses_from (program_of l.program) 0 (map method_of l.methods)
