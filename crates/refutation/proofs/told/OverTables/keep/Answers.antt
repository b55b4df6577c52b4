-- The table is put in its place, and waits no longer.
use Rattle.std.proofs.Common.{slice_set, ap, subst, arith}
use Rattle.refutation.specs.Waiting.{IsAsleep}
use Rattle.refutation.proofs.KnownOver.{kept_more}
use Rattle.refutation.proofs.told.OverTables.keep.Goals as goal

pub returns-clause-kept : goal.returns-clause-kept
returns-clause-kept c = λ rows rel A told tells.
    let tables = c.args.self.now.tables in
    let m = c.args.method in
    let place = c.place_of-place.ensures in
    kept_more rows rel A tables.items (slice_set tables.items c.place_of-place.result c.args.table) c.args.self.now.unknown c.sleep.new.self m c.args.table
    (omega (arith, c.if-place-len.false, c.len.ensures, place, tables.ok)) (ap (λ k. slice_set tables.items k c.args.table) place)
    (subst (λ k. IsAsleep c.args.self.now.unknown c.sleep.new.self k) place c.sleep.ensures.asleep) told tells
