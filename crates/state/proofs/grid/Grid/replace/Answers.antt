use Rattle.std.proofs.Common.{sym, ap, subst, ◌∙◌, arith}
use Rattle.std.specs.Prelude.{IsSome}
use Rattle.std.specs.FinMap as map
use Rattle.state.proofs.GridMaps.{get_grid, placed_map, replace_length}
use Rattle.state.proofs.grid.Grid.replace.Goals as goal

pub replace_entry-requires : goal.replace_entry-requires
replace_entry-requires g c = subst (λ o. IsSome o) (sym (ap (λ m. map.get m c.args.a) c.self.view_is) ∙ get_grid c.self.inside.rows.items c.args.a) c.requires

pub invariant_of-self : goal.invariant_of-self
invariant_of-self g c =
    let some = subst (λ o. IsSome o) (sym (ap (λ m. map.get m c.args.a) c.self.view_is) ∙ get_grid c.self.inside.rows.items c.args.a) c.requires in
    (c.self.invariant.0 ∙ sym (replace_length c.self.inside.rows.items c.replace_entry.new.rows.items c.args.a c.args.value c.replace_entry.ensures.placed some), omega (arith, c.replace_entry.ensures.few, c.self.invariant.1))

pub returns : goal.returns
returns g c = placed_map c.self.inside.rows.items c.replace_entry.new.rows.items c.args.a c.args.value c.replace_entry.ensures.placed ∙ ap (λ m. map.insert m c.args.a c.args.value) c.self.view_is
