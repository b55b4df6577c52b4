-- The whole table.
use Rattle.std.proofs.Common.{length, ap, ◌∙◌}
use Rattle.refutation.specs.Overs.{joined_each}
use Rattle.refutation.proofs.RowLemmas.{whole_written}
use Rattle.refutation.proofs.groups.join_table.Goals as goal

pub returns : goal.returns
returns c =
    let basics = c.table.inside.basics in
    let value = c.as_mut_slice.ensures.value in
    whole_written basics.len c.join_each.new.table basics.items basics.ok.0 (c.join_each.auto.table ∙ ap length value) ∙ c.join_each.ensures ∙ ap (λ t. joined_each t c.args.other.now) (value ∙ c.table.view_is)
