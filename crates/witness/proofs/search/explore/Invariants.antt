use Rattle.std.proofs.Common.{◌≤◌, ◌-◌, vec_len}
use Rattle.witness.proofs.SearchLemmas.{Explored}
use Rattle.witness.proofs.search.explore.Given as goal

abbrev pub decreases-places : goal.decreases-places
decreases-places l = l.search.most - l.place

abbrev pub invariant-places : goal.invariant-places
invariant-places l = (vec_len l.nodes ≤ l.search.most) × Explored l.search l.nodes.items l.place
