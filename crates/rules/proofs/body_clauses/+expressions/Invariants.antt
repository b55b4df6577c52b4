use Rattle.std.proofs.Common.{◌≡◌, ◌++◌, drop}
use Rattle.core_program.specs.Views.{program_of, exprs_from}
use Rattle.rules.specs.Mentions.{exprs_mentions}
use Rattle.rules.specs.Clauses.{clauses_of}
use Rattle.rules.proofs.body_clauses.+expressions.Given as goal

-- the clauses so far and those of the rest are those of all
abbrev pub invariant-add_exprs-loop-e : goal.invariant-add_exprs-loop-e
invariant-add_exprs-loop-e l = l.clauses.items ++ clauses_of (program_of l.program) l.method (exprs_mentions (exprs_from (drop l.e-index l.es))) ≡ l.fn.clauses.items ++ clauses_of (program_of l.program) l.method (exprs_mentions (exprs_from l.es))
