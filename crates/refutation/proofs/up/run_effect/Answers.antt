-- The body, and what is said of the methods that override: by the table of them all, or no more than at most.
use Rattle.std.proofs.Common.{◌≡◌, true, rules, sym, ap, subst, ◌∙◌}
use Rattle.algebra.specs.Basics.{join_of}
use Rattle.algebra.specs.HeldPaths.{has_path}
use Rattle.core_program.specs.Views.{program_of}
use Rattle.rules.specs.Near.{rel_of}
use Rattle.rules.specs.Rules.{IsSubset}
use Rattle.rules.specs.Search.{row_at}
use Rattle.refutation.specs.Lines.{joined_over, overriding}
use Rattle.refutation.specs.Bodies.{body_under}
use Rattle.refutation.specs.Tables.{said_by, table_entry}
use Rattle.refutation.specs.declared.overs.OverSaid.{OverSaid}
use Rattle.refutation.proofs.Reached.{run_with}
use Rattle.refutation.proofs.OverTables.{low_both}
use Rattle.refutation.proofs.RowLemmas.{row_same}
use Rattle.refutation.proofs.up.run_effect.Goals as goal

pub returns-then-not-is_empty : goal.returns-then-not-is_empty
returns-then-not-is_empty c =
    let A = said_by (rel_of c.args.floors.now.sets.now) c.args.floors.now.tables.items in
    let m = c.args.over.now.method in
    let H = has_path c.args.held.now in
    let whole : c.args.over.now.whole ≡ true = search rules in
    let inside = subst (λ s. IsSubset H (has_path (rel_of s m))) (sym c.requires.same) c.requires.inside in
    let said = c.requires.said.each whole H inside ∙ (λ i. joined_over (rel_of (c.requires.same i)) A (overriding (program_of c.args.judged.now.program.now) m) H) in
    let table = c.as_slice.ensures.value ∙ ap (λ (o : OverSaid). o.table) c.over.view_is in
    let paths = c.rel.ensures ∙ ap (λ (o : OverSaid). rel_of c.args.floors.now.sets.now o.method) c.over.view_is in
    let others = c.entry-others.ensures ∙ (λ i. table_entry (paths i) (table i) H) ∙ said in
    let body = c.in_ok-body.ensures ∙ ap (λ (o : OverSaid). body_under (program_of c.args.judged.now.program.now) (rel_of c.args.judged.now.sets.now) A o.method H) c.over.view_is in
    c.join.ensures ∙ (λ i. join_of (body i) (others i))

pub returns : goal.returns
returns c =
    let P = program_of c.args.judged.now.program.now in
    let kept = rel_of c.args.floors.now.sets.now in
    let rel = rel_of c.args.judged.now.sets.now in
    let A = said_by kept c.args.floors.now.tables.items in
    let H = has_path c.args.held.now in
    let rows = c.args.judged.now.over.now in
    let methods = c.of-methods.result.now in
    let body = c.in_ok-body.body in
    let its = c.of-methods.ensures ∙ ap (λ (o : OverSaid). row_at rows o.method) c.over.view_is in
    let row = ap (λ ns. joined_over kept A ns H) its ∙ row_same kept A H P rows c.args.over.now.method c.requires.over in
    let body_is = c.in_ok-body.ensures ∙ ap (λ (o : OverSaid). body_under P rel A o.method H) c.over.view_is in
    let low = low_both (joined_over kept A methods H) (joined_over kept A (overriding P c.args.over.now.method) H) _ c.args.over.now.most row (ap (λ (o : OverSaid). o.most) c.over.view_is) (c.requires.said.low H) in
    c.said_over.ensures.whole low ∙ (λ i. join_of body (joined_over (rel_of (c.requires.same i)) A methods H))
    ∙ run_with P rel A H rows c.args.over.now.method methods body c.requires.over its body_is
