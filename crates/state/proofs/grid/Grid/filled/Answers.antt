use Rattle.std.proofs.Common.{sym, ap, ◌∙◌, ◌==◌}
use Rattle.std.specs.Prelude.{count_by, slice_get}
use Rattle.std.specs.FinMap as map
use Rattle.state.specs.Slots.{filled_row}
use Rattle.state.proofs.GridCounts.{count_grid}
use Rattle.state.proofs.grid.Grid.filled.Goals as goal

pub returns : goal.returns
returns g c =
    c.row_filled.ensures ∙ ap (λ rows. filled_row (slice_get rows c.args.thread)) c.as_slice.ensures.value
    ∙ sym (count_grid c.args.thread c.self.inside.rows.items)
    ∙ ap (λ m. count_by (λ a. a.thread == c.args.thread) (map.keys m)) c.self.view_is
