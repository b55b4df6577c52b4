use Rattle.std.proofs.Common.{sym, ap, ◌∙◌, arith}
use Rattle.std.specs.FinMap as map
use Rattle.state.proofs.GridMaps.{get_grid, placed_map, put_length, same_grid, same_length, on_err}
use Rattle.state.proofs.grid.Grid.put.Goals as goal

pub put_entry-requires : goal.put_entry-requires
put_entry-requires g c = sym (get_grid c.self.inside.rows.items c.args.a) ∙ ap (λ m. map.get m c.args.a) c.self.view_is ∙ c.requires

pub invariant_of-self : goal.invariant_of-self
invariant_of-self g c =
    let same = c.in_err-put_entry.ensures.err in
    (c.self.invariant.0 ∙ sym (same_length c.self.inside.rows.items c.put_entry.new.rows.items same), omega (arith, c.put_entry.ensures.few, c.self.invariant.1))

pub returns-in_err-put_entry-clause-err : goal.returns-in_err-put_entry-clause-err
returns-in_err-put_entry-clause-err g c =
    on_err c.from_residual.result (same_grid c.self.inside.rows.items c.put_entry.new.rows.items c.in_err-put_entry.ensures.err ∙ c.self.view_is)

pub invariant_of-self-2 : goal.invariant_of-self-2
invariant_of-self-2 g c =
    let none = sym (get_grid c.self.inside.rows.items c.args.a) ∙ ap (λ m. map.get m c.args.a) c.self.view_is ∙ c.requires in
    let longer = put_length c.self.inside.rows.items c.put_entry.new.rows.items c.args.a c.args.value c.in_ok-put_entry.ensures.ok none in
    (omega (arith, longer, c.self.invariant.0), omega (arith, c.put_entry.ensures.few, c.self.invariant.1))

pub returns-clause-ok : goal.returns-clause-ok
returns-clause-ok g c = placed_map c.self.inside.rows.items c.put_entry.new.rows.items c.args.a c.args.value c.in_ok-put_entry.ensures.ok ∙ ap (λ m. map.insert m c.args.a c.args.value) c.self.view_is
