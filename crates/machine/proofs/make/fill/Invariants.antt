use Rattle.std.proofs.Common.{◌≡◌, ◌++◌, ◌-◌, vec_len}
use Rattle.std.specs.Prelude.{replicate, pos}
use Rattle.state.specs.declared.value.Value.TheVariants as value
use Rattle.machine.proofs.make.fill.Given as goal

abbrev pub invariant-loop-into : goal.invariant-loop-into
invariant-loop-into l = l.into.items ++ replicate (l.length - vec_len l.into) (value.Int (pos 0)) ≡ l.initial.into.items ++ replicate (l.length - vec_len l.initial.into) (value.Int (pos 0))

abbrev pub decreases-loop-into : goal.decreases-loop-into
decreases-loop-into l = l.length - vec_len l.into
