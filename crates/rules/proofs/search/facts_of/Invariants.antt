use Rattle.std.proofs.Common.{take}
use Rattle.rules.specs.Search.{HasFacts, rows_of}
use Rattle.rules.proofs.search.facts_of.Given as goal

-- the facts so far
abbrev pub invariant-loop-clause : goal.invariant-loop-clause
invariant-loop-clause l = HasFacts (take l.clause-index l.clauses) (rows_of l.family.near.items) l.family.queue.items
