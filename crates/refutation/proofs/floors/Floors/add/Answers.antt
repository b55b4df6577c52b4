-- The tables say the line too.
use Rattle.std.proofs.Common.{length, ap, ◌∙◌, arith}
use Rattle.rules.specs.Near.{rel_of}
use Rattle.refutation.specs.Lines.{LineData}
use Rattle.refutation.proofs.RowLemmas.{whole_written}
use Rattle.refutation.proofs.TableLemmas.{add_says}
use Rattle.refutation.proofs.floors.Floors.add.Goals as goal

pub returns-clause-says : goal.returns-clause-says
returns-clause-says c =
    let tables = c.args.self.now.tables in
    let rel = rel_of c.args.self.now.sets.now in
    let value = c.as_mut_slice.ensures.value in
    let line : LineData = record { method = c.args.method; found = c.args.found; held = c.args.held.now } in
    add_says rel tables.items c.as_mut_slice.result.now c.raise_table.new.tables _ c.rel-rel.result.now line value
    (whole_written tables.len c.raise_table.new.tables tables.items (omega (arith, tables.ok)) (c.raise_table.ensures.size ∙ ap length value))
    c.rel-rel.ensures c.raise_table.ensures.size c.requires c.raise_table.ensures.raised
