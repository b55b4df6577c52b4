use Rattle.std.proofs.Common.{sym, ap, subst, ◌∙◌, arith}
use Rattle.std.specs.Prelude.{IsSome}
use Rattle.std.specs.FinMap as map
use Rattle.state.specs.Memory.{with_value}
use Rattle.state.proofs.GridMaps.{get_grid, placed_map, changed_length}
use Rattle.state.proofs.grid.Grid+Cell.set_value.Goals as goal

pub set_entry-requires : goal.set_entry-requires
set_entry-requires c = subst (λ o. IsSome o) (sym (ap (λ m. map.get m c.args.a) c.self.view_is) ∙ get_grid c.self.inside.rows.items c.args.a) c.requires

pub invariant_of-self : goal.invariant_of-self
invariant_of-self c =
    let some = subst (λ o. IsSome o) (sym (ap (λ m. map.get m c.args.a) c.self.view_is) ∙ get_grid c.self.inside.rows.items c.args.a) c.requires in
    (c.self.invariant.0 ∙ sym (changed_length c.self.inside.rows.items c.set_entry.new.rows.items c.args.a (with_value c.args.index c.args.v) c.set_entry.ensures.placed some), omega (arith, c.set_entry.ensures.few, c.self.invariant.1))

pub returns : goal.returns
returns c o here =
    let at = sym (get_grid c.self.inside.rows.items c.args.a) ∙ ap (λ m. map.get m c.args.a) c.self.view_is ∙ here in
    placed_map c.self.inside.rows.items c.set_entry.new.rows.items c.args.a (with_value c.args.index c.args.v o) (c.set_entry.ensures.placed o at) ∙ ap (λ m. map.insert m c.args.a (with_value c.args.index c.args.v o)) c.self.view_is
