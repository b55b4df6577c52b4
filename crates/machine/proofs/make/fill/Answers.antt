use Rattle.std.proofs.Common.{◌-◌, vec_len, arith}
use Rattle.std.specs.Prelude.{pos}
use Rattle.state.specs.declared.value.Value.TheVariants as value
use Rattle.machine.proofs.Lists.{one_zero}
use Rattle.machine.proofs.make.fill.Goals as goal

pub loop-into-preserved : goal.loop-into-preserved
loop-into-preserved c =
    one_zero c.loop-into.into.items c.push.new.self.items _ (c.args.length - vec_len c.push.new.self) (c.args.length - vec_len c.loop-into.into) (value.Int (pos 0))
    (omega (arith, c.in_ok-push.ensures.len)) c.in_ok-push.ensures.items c.loop-into.invariant
