-- The lines of the explanations that were found.
use Rattle.std.proofs.Common.{◌∙◌, ap, length, map, string_bytes, subst, sym}
use Rattle.std.proofs.lemmas.Result.{IfOk-weaker}
use Rattle.classes.specs.Views.{table_data}
use Rattle.core_program.specs.Views.{program_of}
use Rattle.explain_commands.specs.Answers.{Explains}
use Rattle.explain_text.specs.Arrangements.{arranged}
use Rattle.explain_text.specs.ArrangementViews.{arranged_data}
use Rattle.explain_commands.specs.Explained.{AreTexts, AreAmongMethods, page_of, told_of}
use Rattle.explain_commands.proofs.There.{arranged_within}
use Rattle.explain_commands.specs.Orders.{explanations_for}
use Rattle.explain_commands.proofs.Bounds.{there_for}
use Rattle.explain_commands.proofs.Breaking.{within_more}
use Rattle.explain_commands.proofs.Writing.{arranged_in}
use Rattle.rules.specs.Near.{rel_of}
use Rattle.rules.specs.Search.{row_at}
use Rattle.syntax.specs.Views.{member_of}
use Rattle.explain_commands.proofs.explaining.explained.Goals as goal

pub lines_of-requires : goal.lines_of-requires
lines_of-requires g c =
    let P = program_of c.args.walk.now.program.now in
    let rel = rel_of c.args.walk.now.sets.now in
    let A = g.A.Assigned.assigned c.args.walk.now.assigned.now in
    let overs = row_at c.in_ok-over.over in
    let n = length c.args.told.now.methods.now.items in
    let there = within_more (length P.methods) n _ c.requires.there (there_for P rel A overs c.in_ok-all.ensures.grounds c.args.order) in
    let are = arranged_in c.as_slice.result.now c.in_ok-arranged.arranged.items _ c.as_slice.ensures.value (c.in_ok-arranged.ensures ∙ ap (arranged P rel) c.in_ok-all.ensures.xs_are) in
    subst (λ xs. AreAmongMethods n (told_of xs)) (sym are) (arranged_within P rel n (explanations_for c.args.order P rel A overs c.in_ok-all.ensures.grounds) there)

pub returns : goal.returns
returns g c =
    let told = c.args.told.now in
    let walk = c.args.walk.now in
    let P = program_of walk.program.now in
    let rel = rel_of walk.sets.now in
    let A = g.A.Assigned.assigned walk.assigned.now in
    let overs = row_at c.in_ok-over.over in
    let pages = page_of told.file.now told.index.now (table_data told.source.now.table) (map (λ m. member_of m.now) told.methods.now.items) in
    let are = arranged_in c.as_slice.result.now c.in_ok-arranged.arranged.items _ c.as_slice.ensures.value (c.in_ok-arranged.ensures ∙ ap (arranged P rel) c.in_ok-all.ensures.xs_are) in
    IfOk-weaker c.lines_of.result (λ text. AreTexts P rel A pages overs (map arranged_data c.as_slice.result.now) (string_bytes text)) (λ text. Explains c.args.order P rel A pages (string_bytes text))
    (λ text texts. record {
      overs = c.in_ok-over.over;
      are_overs = c.in_ok-over.ensures;
      grounds = c.in_ok-all.ensures.grounds;
      are_grounds = c.in_ok-all.ensures.are_grounds;
      texts = subst (λ xs. AreTexts P rel A pages overs xs (string_bytes text)) are texts;
    })
    c.lines_of.ensures
