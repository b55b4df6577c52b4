-- The cells that a cell's links lead to are listed in its row.
use Rattle.level_check.proofs.Settled.{reading}
use Rattle.level_check.proofs.rising.CellsRising.readers.Goals as goal

pub returns : goal.returns
returns c = λ reader there leads.
    reading c.args.self.now.rows.items c.deref.result.now c.args.cell c.in_ok-row.row.now c.row.inside.links.items c.row.inside.targets.items c.as_slice.result.now c.deref.ensures.value c.in_ok-row.ensures.lookup.3.0 c.in_ok-row.ensures.lookup.1
    c.row.view_is c.row.invariant c.as_slice.ensures.value reader leads
