use Rattle.std.proofs.Common.{◌<◌, length, vec_len, refl, sym, arith}
use Rattle.std.proofs.lemmas.Option.{slice_get_read}
use Rattle.state.specs.Memory.{with_value}
use Rattle.state.proofs.Addresses.{differ}
use Rattle.state.proofs.GridMaps.{changed_row, some_row}
use Rattle.state.proofs.grid.set_entry.Goals as goal

pub returns-in-Some-clause-placed : goal.returns-in-Some-clause-placed
returns-in-Some-clause-placed c =
    let rows = c.args.rows.now.items in
    let below : c.args.a.thread < length rows = omega (arith, c.in-Some.ensures.variant.0 refl) in
    let is = slice_get_read rows (length rows) c.args.a.thread c.in-Some.row.now refl below c.in-Some.ensures.value in
    changed_row rows c.args.a c.in-Some.row.now c.set_value.new.self (with_value c.args.index c.args.v) is below c.set_value.ensures

pub returns-in_default-clause-placed : goal.returns-in_default-clause-placed
returns-in_default-clause-placed c o here =
    let below = some_row c.args.rows.now.items c.args.a c.requires in
    let within : c.args.a.thread < vec_len c.args.rows.now = omega arith in
    absurd (differ (sym (c.in_default.ensures.variant.1 within)))
