-- The lines for a text of levels and for a program that is refused, as the private functions say them.
use Rattle.std.specs.Prelude.{◌≡◌, ◌≢◌, ℕ, List}
use Rattle.classes.specs.Table.{TableData}
use Rattle.level_check.specs.declared.end.LevelEnd.{LevelEnd}
use Rattle.level_check.specs.declared.end.LevelEnd.TheVariants as search
use Rattle.level_check.specs.declared.reader.LevelsFault.{LevelsFault}
use Rattle.level_check.specs.declared.reader.LevelsFault.TheVariants as faults
use Rattle.sources.specs.declared.refusal.Ending.{Ending}
use Rattle.sources.specs.declared.refusal.Ending.TheVariants.{LevelsRefused}
use Rattle.evidence_commands.specs.LevelLines.{levels_fault_line, takes_line}

-- the ending and the line that refuse a text with this fault
pub record RefusesText (t : TableData) (fault : LevelsFault) (ending : Ending) (line : List ℕ) : Type 0 where
  pub ends : ending ≡ LevelsRefused
  pub told : fault ≢ faults.NoMemory
  pub line_is : line ≡ levels_fault_line t fault

-- the ending and the line that refuse a program for which the search ended so
pub record RefusesOrder (t : TableData) (end : LevelEnd) (ending : Ending) (line : List ℕ) : Type 0 where
  pub ends : ending ≡ LevelsRefused
  pub method : ℕ
  pub class : ℕ
  pub under : ℕ
  pub end_is : end ≡ search.Order method class under
  pub line_is : line ≡ takes_line t method class under
