use Rattle.std.proofs.Common.{◌≡◌, ◌++◌, drop}
use Rattle.core_program.specs.Views.{program_of, stmts_from}
use Rattle.rules.specs.Mentions.{block_mentions}
use Rattle.rules.specs.Clauses.{clauses_of}
use Rattle.rules.proofs.body_clauses.+statements.Given as goal

-- the clauses so far and those of the rest are those of all
abbrev pub invariant-add_block-loop-s : goal.invariant-add_block-loop-s
invariant-add_block-loop-s l = l.clauses.items ++ clauses_of (program_of l.program) l.method (block_mentions (stmts_from (drop l.s-index l.body))) ≡ l.fn.clauses.items ++ clauses_of (program_of l.program) l.method (block_mentions (stmts_from l.body))
