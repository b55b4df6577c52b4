use Rattle.std.proofs.Common.{◌<◌, ◌≤◌, vec_len}
use Rattle.witness.proofs.SearchLemmas.{Followed}
use Rattle.witness.proofs.search.expand.Given as goal

abbrev pub invariant-loop-thread : goal.invariant-loop-thread
invariant-loop-thread l = (vec_len l.nodes ≤ l.search.most) × (l.place < vec_len l.nodes) × Followed l.search l.initial.nodes.items l.nodes.items l.place l.thread
