use Rattle.std.proofs.Common.{sym, ap, ◌∙◌}
use Rattle.std.specs.FinMap as map
use Rattle.state.specs.Slots.{grid_at}
use Rattle.state.proofs.GridMaps.{get_grid}
use Rattle.state.proofs.grid.Grid.get.Goals as goal

pub returns : goal.returns
returns g c = c.entry.ensures ∙ ap (λ rows. grid_at rows c.args.a) c.as_slice.ensures.value ∙ sym (get_grid c.self.inside.rows.items c.args.a) ∙ ap (λ m. map.get m c.args.a) c.self.view_is
