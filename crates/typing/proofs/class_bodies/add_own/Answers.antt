use Rattle.std.proofs.Common.{◌<◌, ◌++◌, length, arith}
use Rattle.std.specs.List.{range_with_len}
use Rattle.classes.specs.Views.{class_data}
use Rattle.typing.proofs.Inheriting.{own_step}
use Rattle.typing.proofs.class_bodies.add_own.Goals as goal

pub loop-preserved : goal.loop-preserved
loop-preserved c =
    let class = class_data c.args.class.now in
    let count = length class.field_names in
    let low = c.loop-test.true in
    let end = c.field_count-end.ensures in
    let within : c.loop.counter < count = omega (arith, low, end) in
    own_step c.loop.fields.items c.push.new.self.items (c.args.fields.now.items ++ range_with_len class.first_field count) c.loop.next c.in_ok-next.next count c.loop.counter
    c.loop.invariant within c.in_ok-push.ensures.items c.in_ok-next.ensures
