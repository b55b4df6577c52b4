use Rattle.std.proofs.Common.{sym, ap, ◌∙◌}
use Rattle.std.specs.FinMap as map
use Rattle.state.proofs.GridMaps.{len_grid}
use Rattle.state.proofs.grid.Grid.len.Goals as goal

pub returns : goal.returns
returns g c = c.self.invariant.0 ∙ sym (len_grid c.self.inside.rows.items) ∙ ap map.len c.self.view_is
