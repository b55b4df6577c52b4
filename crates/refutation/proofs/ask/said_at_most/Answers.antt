-- The methods of the row are those that override.
use Rattle.std.proofs.Common.{[], ap, sym, subst, ◌∙◌}
use Rattle.algebra.specs.declared.basic.Basic.TheVariants.{Const}
use Rattle.algebra.specs.HeldPaths.{has_path}
use Rattle.core_program.specs.Views.{program_of}
use Rattle.rules.specs.Near.{rel_of}
use Rattle.rules.specs.Rules.{AtMost}
use Rattle.rules.proofs.BasicLemmas.{below_error}
use Rattle.refutation.specs.Lines.{joined_over}
use Rattle.refutation.specs.Tables.{said_by}
use Rattle.refutation.proofs.RowLemmas.{row_same}
use Rattle.refutation.proofs.Sets.{join_second}
use Rattle.refutation.proofs.ask.said_at_most.Goals as goal

pub returns : goal.returns
returns c =
    let rel = rel_of c.args.floors.now.sets.now in
    let A = said_by rel c.args.floors.now.tables.items in
    let said = joined_over rel A c.of.result.now (has_path []) in
    let same = ap (λ ns. joined_over rel A ns (has_path [])) c.of.ensures ∙ row_same rel A (has_path []) (program_of c.args.judged.now.program.now) c.args.judged.now.over.now c.args.method c.requires in
    subst (λ b. AtMost b c.said_over.result) same (subst (AtMost said) (sym (c.said_over.ensures.whole (below_error said))) (join_second Const said))
