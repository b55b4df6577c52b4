-- The node that was found.
use Rattle.std.proofs.Common.{refl}
use Rattle.std.proofs.lemmas.Option.{slice_get_read}
use Rattle.witness.proofs.search.is_known.Goals as goal

pub returns-then-is_twin : goal.returns-then-is_twin
returns-then-is_twin c = λ yes. (
  c.chain.place,
  c.in-Some.other.now,
  slice_get_read c.args.nodes.now _ c.chain.place c.in-Some.other.now refl c.in-Some.ensures.lookup.3.0 c.in-Some.ensures.lookup.1,
  c.is_twin.ensures c.if-is_twin.true,
)
