-- Its table is joined.
use Rattle.std.proofs.Common.{◌≡◌, true, ap, subst, ◌∙◌}
use Rattle.std.specs.Prelude.{IfOk}
use Rattle.algebra.specs.Basics.{join_of}
use Rattle.algebra.specs.HeldPaths.{Held, has_path}
use Rattle.rules.specs.Rules.{IsSubset}
use Rattle.rules.specs.Search.{row_at}
use Rattle.refutation.specs.Tables.{table_entry}
use Rattle.refutation.specs.Overs.{said_in_groups}
use Rattle.refutation.proofs.groups.join_method.Goals as goal

pub returns : goal.returns
returns c =
    let ours = c.args.rel.now in
    let row = c.table_at-table.ensures ∙ ap (λ ts. row_at ts c.args.method) c.as_slice.ensures.value in
    subst (λ X. X) (λ i. IfOk c.join_said.result (λ could. could ≡ true → (H : Held) → IsSubset H (has_path ours) → said_in_groups ours c.join_said.new.groups.items H ≡ join_of (said_in_groups ours c.args.groups.now.items H) (table_entry (c.rel.ensures i) (row i) H))) c.join_said.ensures
