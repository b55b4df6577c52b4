-- The method's table is raised.
use Rattle.std.proofs.Common.{length, ap, ◌∙◌, arith}
use Rattle.refutation.specs.Tables.{raised_at_subsets}
use Rattle.refutation.proofs.RowLemmas.{whole_written}
use Rattle.refutation.proofs.TableLemmas.{table_raised}
use Rattle.refutation.proofs.floors.raise_table.Goals as goal

pub returns-clause-raised : goal.returns-clause-raised
returns-clause-raised c =
    let basics = c.table.inside.basics in
    let value = c.as_mut_slice.ensures.value in
    let held = c.args.held.now in
    let found = c.args.found in
    let place = c.place_of-place.ensures in
    table_raised c.args.rel.now c.args.tables.now c.place_of-place.result (record { method = c.args.method; found = found; held = held }) basics.items _ c.index-tables-place.result place (omega (arith, c.requires, place)) c.table.view_is
    (whole_written basics.len c.raise.new.table basics.items (omega (arith, basics.ok)) (c.raise.auto.table ∙ ap length value) ∙ c.raise.ensures ∙ ap (raised_at_subsets c.args.rel.now held found) value)
