-- What was judged in memory holds of the book.
use Rattle.std.proofs.Common.{◌∙◌, map, refl}
use Rattle.conditions.specs.Conditions.{cond_of}
use Rattle.books.specs.Books.{Book}
use Rattle.book_check.specs.declared.judge.Judge.{Judge}
use Rattle.rules.specs.Near.{rel_of}
use Rattle.book_check.proofs.CanonicalLemmas.{judged_is, nodes_are_near, own_are_near, trees_canonical}
use Rattle.book_check.proofs.OverLemmas.{overs_of_lines}
use Rattle.book_check.proofs.acceptance.judged_book.Goals as goal

pub judged_lines-requires-clause-canonical : goal.judged_lines-requires-clause-canonical
judged_lines-requires-clause-canonical g c = trees_canonical (map cond_of c.args.table.now) c.requires.trees

pub overs_of-requires-clause-canonical : goal.overs_of-requires-clause-canonical
overs_of-requires-clause-canonical g c = trees_canonical (map cond_of c.args.table.now) c.requires.trees

pub judged_lines-requires-clause-overs : goal.judged_lines-requires-clause-overs
judged_lines-requires-clause-overs g c =
    let lines = g.L.Lines.lines c.args.from in
    let shaped = c.in-Ok.ensures.shaped (rel_of c.args.sets.now) (map cond_of c.args.table.now) in
    overs_of_lines (record { program = c.args.program; sets = c.args.sets; table = c.args.table; lines = c.as_slice.result }) lines (c.as_slice.ensures.value ∙ shaped.0) c.in_ok-over.over c.in_ok-over.ensures

pub returns-clause-verdict : goal.returns-clause-verdict
returns-clause-verdict g c =
    let table = map cond_of c.args.table.now in
    let lines = g.L.Lines.lines c.args.from in
    let shaped = c.in-Ok.ensures.shaped (rel_of c.args.sets.now) table in
    judged_is (record { program = c.args.program; sets = c.args.sets; table = c.args.table; lines = c.as_slice.result }) (record { table = table; lines = lines }) refl
    (c.as_slice.ensures.value ∙ shaped.0) shaped.1 shaped.2 c.judged_lines.result (c.judged_lines.ensures.judged table)

pub returns-clause-near : goal.returns-clause-near
returns-clause-near g c = λ near.
    let table = map cond_of c.args.table.now in
    let lines = g.L.Lines.lines c.args.from in
    let book : Book = record { table = table; lines = lines } in
    let shaped = c.in-Ok.ensures.shaped (rel_of c.args.sets.now) table in
    let judge : Judge = record { program = c.args.program; sets = c.args.sets; table = c.args.table; lines = c.as_slice.result } in
    let numbers = c.as_slice.ensures.value ∙ shaped.0 in
    c.judged_lines.ensures.near (own_are_near judge book refl numbers near) (nodes_are_near judge book refl numbers near)

pub returns-in-Err-clause-verdict : goal.returns-in-Err-clause-verdict
returns-in-Err-clause-verdict g c = c.in-Err.ensures.shaped (rel_of c.args.sets.now) (map cond_of c.args.table.now)
