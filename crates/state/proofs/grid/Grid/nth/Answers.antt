use Rattle.std.proofs.Common.{◌≡◌, sym, ap, subst, ◌∙◌}
use Rattle.std.specs.Prelude.{MatchOption, Some, None, slice_get}
use Rattle.std.specs.FinMap as map
use Rattle.state.specs.Slots.{rows_entries}
use Rattle.state.proofs.GridMaps.{entries_grid}
use Rattle.state.proofs.grid.Grid.nth.Goals as goal

pub returns : goal.returns
returns g c =
    let e = ap (rows_entries 0) c.as_slice.ensures.value ∙ sym (entries_grid c.self.inside.rows.items) ∙ ap map.entries c.self.view_is in
    subst (λ es. MatchOption c.nth_entry.result (slice_get es c.args.place ≡ None) (λ e. slice_get es c.args.place ≡ Some (e.0, e.1.now))) e c.nth_entry.ensures
