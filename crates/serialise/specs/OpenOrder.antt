-- The open order of a schedule of the machine.
use Rattle.std.specs.Prelude.{ℕ, List}
use Rattle.core_program.specs.Core.{Program}
use Rattle.semantics.specs.Units.{entries, units, schedule_of}
use Rattle.reduction.specs.Committing.{open_units}

-- the open order of a schedule: its units that commit in ascending order of their commit places, then the others in ascending order of
-- their threads
abbrev pub open_order : Program → List ℕ → List ℕ
open_order P s = schedule_of (open_units (units (entries P s)))
