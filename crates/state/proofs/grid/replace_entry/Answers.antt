use Rattle.std.proofs.Common.{◌<◌, length, vec_len, refl, sym, arith}
use Rattle.std.specs.Prelude.{Some}
use Rattle.std.proofs.lemmas.Option.{slice_get_read}
use Rattle.state.proofs.Addresses.{differ}
use Rattle.state.proofs.GridMaps.{set_placed, some_row}
use Rattle.state.proofs.grid.replace_entry.Goals as goal

pub returns-in-Some-clause-placed : goal.returns-in-Some-clause-placed
returns-in-Some-clause-placed g c =
    let rows = c.args.rows.now.items in
    let below : c.args.a.thread < length rows = omega (arith, c.in-Some.ensures.variant.0 refl) in
    let is = slice_get_read rows (length rows) c.args.a.thread c.in-Some.row.now refl below c.in-Some.ensures.value in
    set_placed rows c.args.a c.in-Some.row.now c.replace.new.self (Some c.args.value) is below c.replace.ensures

pub returns-in_default-clause-placed : goal.returns-in_default-clause-placed
returns-in_default-clause-placed g c =
    let below = some_row c.args.rows.now.items c.args.a c.requires in
    let within : c.args.a.thread < vec_len c.args.rows.now = omega arith in
    absurd (differ (sym (c.in_default.ensures.variant.1 within)))
