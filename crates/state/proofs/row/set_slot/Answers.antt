use Rattle.std.proofs.Common.{◌<◌, vec_len, sym, arith}
use Rattle.state.specs.Memory.{with_value}
use Rattle.state.proofs.Addresses.{differ}
use Rattle.state.proofs.Grids.{some_below, kept_filled}
use Rattle.state.proofs.row.set_slot.Goals as goal

pub returns-in-Some-clause-filled : goal.returns-in-Some-clause-filled
returns-in-Some-clause-filled c =
    kept_filled c.args.slots.now.items c.args.at c.in-Some.slot.now c.set_cell.new.slot (with_value c.args.index c.args.v) (some_below c.args.slots.now.items c.args.at c.requires) c.in-Some.ensures.value c.set_cell.ensures c.requires

pub returns-in_default-clause-written : goal.returns-in_default-clause-written
returns-in_default-clause-written c o here =
    let below = some_below c.args.slots.now.items c.args.at c.requires in
    let within : c.args.at < vec_len c.args.slots.now = omega arith in
    absurd (differ (sym (c.in_default.ensures.variant.1 within)))
