-- One method more, and none that is left.
use Rattle.std.proofs.Common.{◌++◌, length, refl, ap, ◌∙◌, arith}
use Rattle.core_program.specs.Views.{program_of}
use Rattle.rules.specs.Passing.{rows_clauses}
use Rattle.rules.proofs.CallerLookups.{same_count}
use Rattle.rules.proofs.PassingLemmas.{told_more, told_all}
use Rattle.rules.proofs.passing.add_rows.Goals as goal

pub loop-place-preserved : goal.loop-place-preserved
loop-place-preserved g c =
    let P = program_of c.args.program.now in
    let rows = g.R.Overriding.rows c.args.over.now in
    told_more P rows c.loop-place.clauses.items c.add_row.new.clauses.items (c.args.clauses.now.items ++ rows_clauses P rows 0 (length c.methods-count.result.now)) c.loop-place.place c.loop-place.place
    (length c.methods-count.result.now) c.row.result.now
    c.loop-place-test.true refl c.row.ensures c.in_ok-add_row.ensures c.loop-place.invariant

pub returns : goal.returns
returns g c =
    let P = program_of c.args.program.now in
    let rows = g.R.Overriding.rows c.args.over.now in
    let count = length c.methods-count.result.now in
    told_all P rows c.loop-place.clauses.items (c.args.clauses.now.items ++ rows_clauses P rows 0 count) c.loop-place.place count (omega (arith, c.loop-place-test.false)) c.loop-place.invariant
    ∙ ap (λ n. c.args.clauses.now.items ++ rows_clauses P rows 0 n) (same_count c.methods-count.result.now P.methods c.methods-count.ensures)
