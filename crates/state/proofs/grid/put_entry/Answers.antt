use Rattle.std.proofs.Common.{◌<◌, length, refl, arith}
use Rattle.std.proofs.lemmas.Option.{slice_get_read}
use Rattle.state.proofs.GridMaps.{placed_put, kept_put}
use Rattle.state.proofs.grid.put_entry.Goals as goal

pub returns-in-Some-clause-ok : goal.returns-in-Some-clause-ok
returns-in-Some-clause-ok g c =
    let rows = c.reach_row.new.rows.items in
    let below : c.args.a.thread < length rows = omega (arith, c.in-Some.ensures.variant.0 refl) in
    let is = slice_get_read rows (length rows) c.args.a.thread c.in-Some.row.now refl below c.in-Some.ensures.value in
    placed_put c.put.result c.args.rows.now.items rows c.args.a c.in-Some.row.now c.put.new.self c.args.value c.reach_row.ensures.same is below c.put.ensures.ok

pub returns-in-Some-clause-err : goal.returns-in-Some-clause-err
returns-in-Some-clause-err g c =
    let rows = c.reach_row.new.rows.items in
    let below : c.args.a.thread < length rows = omega (arith, c.in-Some.ensures.variant.0 refl) in
    let is = slice_get_read rows (length rows) c.args.a.thread c.in-Some.row.now refl below c.in-Some.ensures.value in
    kept_put c.put.result c.args.rows.now.items rows c.args.a c.in-Some.row.now c.put.new.self c.reach_row.ensures.same is below c.put.ensures.err
