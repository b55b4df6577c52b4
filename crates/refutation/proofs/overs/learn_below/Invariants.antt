use Rattle.std.proofs.Common.{◌≡◌, length}
use Rattle.rules.specs.Near.{rel_of}
use Rattle.refutation.specs.Overs.{AreOversTold}
use Rattle.refutation.specs.Tables.{said_by}
use Rattle.refutation.proofs.overs.learn_below.Given as goal

-- what is known stays so
abbrev pub invariant-places : goal.invariant-places
invariant-places l =
    let rel = rel_of l.floors.sets.now in
    record {
      size : length l.known.unknown ≡ length l.fn.known.unknown;
      told : AreOversTold l.judged.over.now rel (said_by rel l.floors.tables.items) l.known.tables.items l.known.unknown;
    }

abbrev pub decreases-places : goal.decreases-places
decreases-places l = l.place
