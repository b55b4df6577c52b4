use Rattle.std.proofs.Common.{◌<◌, vec_len, sym, arith}
use Rattle.state.proofs.Addresses.{differ}
use Rattle.state.proofs.Grids.{some_below, some_filled, over_filled, set_written}
use Rattle.state.proofs.row.overwrite.Goals as goal

pub returns-in-Some-clause-written : goal.returns-in-Some-clause-written
returns-in-Some-clause-written g c = set_written c.args.slots.now.items c.args.at c.args.value (some_below c.args.slots.now.items c.args.at c.requires)

pub returns-in-Some-clause-filled : goal.returns-in-Some-clause-filled
returns-in-Some-clause-filled g c = over_filled c.args.slots.now.items c.args.at c.args.value c.requires

pub returns-in-Some-clause-some : goal.returns-in-Some-clause-some
returns-in-Some-clause-some g c = some_filled c.args.slots.now.items c.args.at c.requires

pub returns-in_default-clause-written : goal.returns-in_default-clause-written
returns-in_default-clause-written g c =
    let below = some_below c.args.slots.now.items c.args.at c.requires in
    let within : c.args.at < vec_len c.args.slots.now = omega arith in
    absurd (differ (sym (c.in_default.ensures.variant.1 within)))

pub returns-in_default-clause-filled : goal.returns-in_default-clause-filled
returns-in_default-clause-filled g c =
    let below = some_below c.args.slots.now.items c.args.at c.requires in
    let within : c.args.at < vec_len c.args.slots.now = omega arith in
    absurd (differ (sym (c.in_default.ensures.variant.1 within)))

pub returns-in_default-clause-some : goal.returns-in_default-clause-some
returns-in_default-clause-some g c = some_filled c.args.slots.now.items c.args.at c.requires
