use Rattle.std.proofs.Common.{take}
use Rattle.rules.specs.Search.{AreClauseLinks, rows_of}
use Rattle.rules.proofs.search.links_of.Given as goal

-- the links so far
abbrev pub invariant-loop-clause : goal.invariant-loop-clause
invariant-loop-clause l = AreClauseLinks (take l.clause-index l.clauses) (rows_of l.links.items)
