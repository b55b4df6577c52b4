use Rattle.std.proofs.Common.{sym, subst}
use Rattle.state.specs.Memory.{IsNumbered}
use Rattle.state.proofs.Numbering.{numbered_written}
use Rattle.replay.proofs.effects.write.Goals as goal

pub invariant_of-plain : goal.invariant_of-plain
invariant_of-plain c = subst IsNumbered (sym c.set.ensures) (numbered_written c.plain.inside.heap c.in-Some.address c.in-Some-written_index.index c.args.value c.plain.invariant)
