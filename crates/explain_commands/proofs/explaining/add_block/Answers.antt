-- The page of the method's member, with what helps the method where it is made final.
use Rattle.std.proofs.Common.{◌≡◌, ◌++◌, ℕ, List, OnOk, ap, get_or, ◌∙◌, map, slice_get, string_bytes, subst}
use Rattle.classes.specs.Views.{table_data}
use Rattle.core_program.specs.Views.{program_of}
use Rattle.explain_commands.specs.Explained.{aliases_at, page_of}
use Rattle.explain_commands.proofs.Writing.{member_at, page_is}
use Rattle.explain.specs.Fitting.{fitting}
use Rattle.explain.specs.declared.names.Alias.{Alias}
use Rattle.explain.specs.declared.program.Explained.{Explained}
use Rattle.explain_text.specs.Pages.{PageData, advised}
use Rattle.explain_text.specs.Arrangements.{IsArrangedBlock}
use Rattle.explain_text.specs.ArrangementViews.{arranged_data}
use Rattle.rules.specs.Near.{rel_of}
use Rattle.rules.specs.Search.{row_at}
use Rattle.syntax.specs.Views.{member_of}
use Rattle.explain_commands.proofs.explaining.add_block.Goals as goal

pub returns-clause-lines : goal.returns-clause-lines
returns-clause-lines g c =
    let told = c.args.told.now in
    let walk = c.args.walk.now in
    let P = program_of walk.program.now in
    let rel = rel_of walk.sets.now in
    let A = g.A.Assigned.assigned walk.assigned.now in
    let x = (arranged_data c.args.x.now).told in
    let m = c.args.x.now.told.method in
    let members = map (λ x. member_of x.now) told.methods.now.items in
    let member = member_of c.index-member.result.now.now in
    let items = told.methods.now.items in
    let here = ap (λ (k : ℕ). get_or items k c.index-member.result.now) (ap (λ (e : Explained). e.method) c.found.view_is) in
    let at = member_at items m c.index-member.result.now c.requires.there (c.index-member.ensures ∙ here) in
    let names = c.as_slice.ensures.value ∙ c.in_ok-known.ensures in
    let lack = c.in_ok-lack.ensures.fits ∙ ap (λ p. fitting (program_of p) rel A c.as_slice.result.now x) c.requires.finals ∙ ap (λ al. fitting P rel A al x) names in
    let plain = page_is told.file.now told.index.now (table_data told.source.now.table) members m member c.in_ok-slots.slots c.as_slice-2.result.now at c.in_ok-slots.ensures (c.as_slice-2.ensures.value ∙ c.in_ok-offsets.ensures) in
    let block = λ (pg : PageData) (al : List Alias). OnOk c.write_arranged.result ((text : List ℕ) × (string_bytes c.write_arranged.new.out ≡ string_bytes c.args.text.now ++ text)
    × IsArrangedBlock P rel A pg (row_at c.args.over.now) al (arranged_data c.args.x.now) text) in
    let known = aliases_at P (slice_get P.methods m) in
    subst (λ al. block (advised (page_of told.file.now told.index.now (table_data told.source.now.table) members m) (fitting P rel A known x)) al) (c.as_slice-3.ensures.value ∙ c.in_ok-known.ensures)
    (subst (λ pg. block pg c.as_slice-3.result.now) (λ i. advised (plain i) (lack i)) c.write_arranged.ensures)
