use Rattle.std.proofs.Common.{refl}
use Rattle.core_program.specs.Views.{method_of}
use Rattle.state.specs.declared.value.Value.TheVariants as value
use Rattle.replay.proofs.Arguments.{slots_in_order}
use Rattle.replay.proofs.effects.fresh_slots.Goals as goal

pub returns : goal.returns
returns c = slots_in_order c.slots_of.result (method_of c.args.method.now) (value.Ref c.args.this) c.args.arguments.now c.args.method.now.slots refl c.slots_of.ensures
