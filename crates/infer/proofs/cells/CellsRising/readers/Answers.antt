-- The callers of a method are in its row.
use Rattle.core_program.specs.Views.{program_of}
use Rattle.rules.specs.Search.{row_at as overs_at}
use Rattle.rules.proofs.CalleeLemmas.{reading}
use Rattle.infer.proofs.cells.CellsRising.readers.Goals as goal

pub returns : goal.returns
returns g c = λ reader there called.
    reading (program_of c.args.self.now.judged.0) (overs_at c.args.self.now.over) c.args.self.now.callers.items c.deref.result.now c.args.cell c.in_ok-row.row.now c.callers.result.now c.args.self.now.sound.callers c.deref.ensures.value
    c.in_ok-row.ensures.lookup.3.0 c.in_ok-row.ensures.lookup.1 c.callers.ensures reader called
