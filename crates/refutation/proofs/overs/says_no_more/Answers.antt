-- The first table says along the steps at most what the second does.
use Rattle.std.proofs.Common.{◌≡◌, true, rules, ap, subst, ◌∙◌}
use Rattle.rules.specs.Near.{rel_of}
use Rattle.rules.specs.Rules.{AtMost}
use Rattle.rules.specs.Search.{row_at}
use Rattle.refutation.specs.Steps.{entry_along}
use Rattle.refutation.specs.Tables.{table_entry}
use Rattle.refutation.proofs.StepLemmas.{no_more_said}
use Rattle.refutation.proofs.overs.says_no_more.Goals as goal

pub returns : goal.returns
returns c = λ low.
    let tables = c.args.floors.now.tables.items in
    let m = c.args.method in
    let n = c.args.other in
    let ours = c.rel-rel.result.now in
    let from = c.table_at.result.now in
    let table = c.table_at-2.result.now in
    let seen = c.as_slice-tables.ensures.value in
    let aligned : c.align.result ≡ true = search rules in
    no_more_said (rel_of c.args.floors.now.sets.now) tables m n c.rel.result.now ours from table c.new-steps.result.items c.align.new.steps.items c.rel.ensures c.rel-rel.ensures
    (c.table_at.ensures ∙ ap (λ ts. row_at ts m) seen) (c.table_at-2.ensures ∙ ap (λ ts. row_at ts n) seen) c.new-steps.ensures (c.align.ensures aligned)
    (λ H. subst (λ ss. AtMost (entry_along ss ours from H) (table_entry ours table H)) c.as_slice.ensures.value (c.is_within.ensures low H))
