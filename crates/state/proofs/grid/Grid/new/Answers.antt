use Rattle.std.proofs.Common.{ap, ◌∙◌}
use Rattle.state.specs.Slots.{grid_map}
use Rattle.state.proofs.GridMaps.{empty_grid}
use Rattle.state.proofs.grid.Grid.new.Goals as goal

pub returns : goal.returns
returns g c = ap grid_map c.new.ensures.items ∙ empty_grid
