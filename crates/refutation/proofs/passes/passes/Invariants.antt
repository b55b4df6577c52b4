use Rattle.std.proofs.Common.{◌≡◌, length}
use Rattle.core_program.specs.Views.{program_of}
use Rattle.rules.specs.Near.{rel_of}
use Rattle.refutation.specs.Passes.{cells_of}
use Rattle.refutation.specs.Ends.{KeptAgrees, IsGoing}
use Rattle.refutation.specs.Waiting.{AreSettled, AreBodiesSettled, AreOversKnown}
use Rattle.refutation.proofs.PassLaws.{room}
use Rattle.refutation.proofs.passes.passes.Given as goal

-- the passes from here end as those from no lines
abbrev pub invariant-rounds : goal.invariant-rounds
invariant-rounds l =
    let P = program_of l.asking.judged.now.program.now in
    record {
      agrees : KeptAgrees P l.asking.judged.now.sets.now l.said.floors.sets.now l.said.floors.tables.items l.said.lines.items;
      size : length l.waits.methods ≡ length P.methods;
      body_size : length l.waits.bodies ≡ length P.methods;
      settled : AreSettled P (rel_of l.asking.judged.now.sets.now) l.said.lines.items l.waits.methods;
      bodies : AreBodiesSettled P (rel_of l.asking.judged.now.sets.now) l.said.lines.items l.waits.bodies;
      known : AreOversKnown P l.asking.judged.now.over.now (rel_of l.asking.judged.now.sets.now) l.said.lines.items l.waits.known.tables.items l.waits.known.unknown;
      going : IsGoing P (rel_of l.asking.judged.now.sets.now) l.said.lines.items;
    }

-- how often the floor can still rise
abbrev pub decreases-rounds : goal.decreases-rounds
decreases-rounds l = let P = program_of l.asking.judged.now.program.now in room P (rel_of l.asking.judged.now.sets.now) (cells_of P (rel_of l.asking.judged.now.sets.now)) l.said.lines.items
