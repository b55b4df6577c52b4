-- What the search answers.
use Rattle.std.specs.Prelude.{◌≤◌, length}
use Rattle.core_program.specs.Core.{Program}
use Rattle.witness.specs.Verdicts.{IsBrokenIn}
use Rattle.witness.specs.declared.seeking.Found.{Found}
use Rattle.witness.specs.declared.seeking.Sought.{Sought}
use Rattle.witness.specs.declared.seeking.Sought.TheVariants as answer

-- the schedule breaks promises in the sense that is told, and has no more entries than a text of a schedule may have
pub record IsShownBy (P : Program) (found : Found) : Type 0 where
  pub short : length found.schedule.items ≤ 200000
  pub broken : IsBrokenIn P found.schedule.items found.sense

-- what is found is a witness; of a search that finds nothing nothing is said
abbrev pub IsSought : Program → Sought → Type 0
IsSought P (answer.Witness found) = IsShownBy P found
IsSought P (answer.Nothing tried) = Unit {0}
