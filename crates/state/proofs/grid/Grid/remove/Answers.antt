use Rattle.std.proofs.Common.{◌-◌, sym, ap, subst, ◌∙◌, arith}
use Rattle.std.specs.Prelude.{IsSome}
use Rattle.std.specs.FinMap as map
use Rattle.state.proofs.GridMaps.{get_grid, cleared_map, clear_length, some_entries}
use Rattle.state.proofs.grid.Grid.remove.Goals as goal

pub clear_entry-requires : goal.clear_entry-requires
clear_entry-requires g c = subst (λ o. IsSome o) (sym (ap (λ m. map.get m c.args.a) c.self.view_is) ∙ get_grid c.self.inside.rows.items c.args.a) c.requires

pub overflow_sub-self : goal.overflow_sub-self
overflow_sub-self g c =
    let some = subst (λ o. IsSome o) (sym (ap (λ m. map.get m c.args.a) c.self.view_is) ∙ get_grid c.self.inside.rows.items c.args.a) c.requires in
    omega (arith, some_entries c.self.inside.rows.items c.args.a some, c.self.invariant.0)

pub invariant_of-self : goal.invariant_of-self
invariant_of-self g c =
    let some = subst (λ o. IsSome o) (sym (ap (λ m. map.get m c.args.a) c.self.view_is) ∙ get_grid c.self.inside.rows.items c.args.a) c.requires in
    (ap (λ n. n - 1) c.self.invariant.0 ∙ sym (clear_length c.self.inside.rows.items c.clear_entry.new.rows.items c.args.a c.clear_entry.ensures.placed some), omega (arith, c.clear_entry.ensures.few, c.self.invariant.1))

pub returns : goal.returns
returns g c = cleared_map c.self.inside.rows.items c.clear_entry.new.rows.items c.args.a c.clear_entry.ensures.placed ∙ ap (λ m. map.remove m c.args.a) c.self.view_is
