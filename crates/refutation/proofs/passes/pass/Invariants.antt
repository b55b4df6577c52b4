use Rattle.std.proofs.Common.{◌≡◌, ◌≤◌, ◌-◌, drop, length}
use Rattle.core_program.specs.Views.{program_of}
use Rattle.rules.specs.Near.{rel_of}
use Rattle.refutation.specs.Passes.{cells_from, cells_of, pass}
use Rattle.refutation.specs.Ends.{KeptAgrees}
use Rattle.refutation.specs.Waiting.{AreSettled, AreBodiesSettled, AreOversKnown}
use Rattle.refutation.proofs.passes.pass.Given as goal

-- the rest of the pass goes as the whole from the start
abbrev pub invariant-loop-place : goal.invariant-loop-place
invariant-loop-place l =
    let P = program_of l.asking.judged.now.program.now in let rel = rel_of l.asking.judged.now.sets.now in
    record {
      agrees : KeptAgrees P l.asking.judged.now.sets.now l.said.floors.sets.now l.said.floors.tables.items l.said.lines.items;
      size : length l.waits.methods ≡ length l.fn.waits.methods;
      body_size : length l.waits.bodies ≡ length l.fn.waits.bodies;
      settled : AreSettled P rel l.said.lines.items l.waits.methods;
      bodies : AreBodiesSettled P rel l.said.lines.items l.waits.bodies;
      known : AreOversKnown P l.asking.judged.now.over.now rel l.said.lines.items l.waits.known.tables.items l.waits.known.unknown;
      within : l.place ≤ length P.methods;
      passed : pass P rel (cells_of P rel) l.fn.said.lines.items ≡ pass P rel (cells_from rel l.place (drop l.place P.methods)) l.said.lines.items;
    }

abbrev pub decreases-loop-place : goal.decreases-loop-place
decreases-loop-place l = length (program_of l.asking.judged.now.program.now).methods - l.place
