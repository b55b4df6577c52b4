use Rattle.std.proofs.Common.{◌+◌, sym, ap, ◌∙◌, slice_get, unwrap_or}
use Rattle.std.specs.Option.{option_or}
use Rattle.std.proofs.lemmas.Option.{same_Some}
use Rattle.classes.specs.Views.{table_data}
use Rattle.typing.specs.Lineages.{lineage_of}
use Rattle.typing.proofs.Counts.{fields_counted}
use Rattle.typing.proofs.Inheriting.{lineage_on}
use Rattle.typing.proofs.lineage.class_lineage.Goals as goal

pub returns : goal.returns
returns c =
    let t = table_data c.args.table.now in
    let d = c.in-Some.above in
    let from = c.value_of-from.result.now in
    lineage_on t c.requires.lined c.args.class d (record { inherited = c.in_ok-inherited.inherited; run = c.or-run.result }) from
    (sym c.in-Some.ensures)
    (same_Some from (lineage_of t d) (sym c.value_of-from.ensures ∙ c.requires.above d (sym c.in-Some.ensures)))
    (c.in_ok-inherited.ensures
    ∙ ap (λ n. from.inherited + n) (c.unwrap_or-own.ensures ∙ ap (λ o. unwrap_or o 0) c.own_field_count.ensures ∙ fields_counted (slice_get t.classes d)))
    (c.or-run.ensures ∙ ap (λ o. option_or o from.run) c.own_run-run.ensures)
