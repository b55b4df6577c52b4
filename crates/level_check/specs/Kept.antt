-- What the code keeps while it reads: a level for each class, 0 where no line was read.
use Rattle.std.specs.Prelude.{◌≡◌, ◌⊎◌, ℕ, ◌==◌, Bool, false, not, List, [], ◌∷◌, ◌++◌, Option, Some, None, Result, Ok, Err, Vec, length, if◌then◌else◌}
use Rattle.std.specs.Global.{Global}
use Rattle.classes.specs.Table.{TableData, class_number}
use Rattle.core_program.specs.Core.{Program}
use Rattle.levels.specs.declared.levels.Levels.{Levels}
use Rattle.levels.specs.Walks.{level_in}
use Rattle.level_check.specs.declared.lines.Flaw.{Flaw}
use Rattle.level_check.specs.declared.lines.Flaw.TheVariants as flaw
use Rattle.level_check.specs.declared.reader.LevelsFault.{LevelsFault}
use Rattle.level_check.specs.declared.reader.LevelsFault.TheVariants as faults
use Rattle.level_check.specs.Texts.{LevelLine, level_line_text, IsLevelLine}
use Rattle.level_check.specs.Faults.{IsNew, AreNew, BeginsWithLines, AreLevelsTold, AreLevels, IsFirstLevelsFault}

-- whether a class that may be unknown is the one of this number
abbrev pub is_at : Option ℕ → ℕ → Bool
is_at None c = false
is_at (Some d) c = d == c

-- the level on the first line of a class; 0 where there is none
abbrev pub level_on : TableData → List LevelLine → ℕ → ℕ
level_on t [] c = 0
level_on t (l ∷ ls) c = if is_at (class_number t l.name) c then l.level else level_on t ls c

-- the levels are those on the lines
pub record KeepsLevels (t : TableData) (lines : List LevelLine) (levels : List ℕ) : Type 0 where
  pub are_new : AreNew t [] lines
  pub count : length levels ≡ length t.names
  pub each : (c : ℕ) → level_in levels c ≡ level_on t lines c

-- what was read are these lines, and the rest is left
pub record HasRead (t : TableData) (bytes : List ℕ) (rest levels : List ℕ) : Type 0 where
  pub lines : List LevelLine
  pub begins : BeginsWithLines t bytes lines rest
  pub keeps : KeepsLevels t lines levels

-- a new line was read behind lines
pub record IsRead (t : TableData) (before : List LevelLine) (text rest levels : List ℕ) : Type 0 where
  pub line : LevelLine
  pub is_line : IsLevelLine line
  pub is_new : IsNew t before line.name
  pub whole : text ≡ level_line_text line ++ rest
  pub keeps : KeepsLevels t (before ++ line ∷ []) levels

-- a class has another level than the one above it, if there is one
abbrev pub differs : (ℕ → ℕ) → ℕ → Option ℕ → Bool
differs level c None = false
differs level c (Some d) = not (level c == level d)

-- a flaw of a text is its fault of that kind
abbrev pub flaw_at : Flaw → ℕ → LevelsFault
flaw_at flaw.Form place = faults.Form place
flaw_at flaw.Unknown place = faults.Unknown place
flaw_at flaw.Twice place = faults.Twice place

-- what an answer says of the text, while classes aren't compared
abbrev pub IsToldAnswer : TableData → List ℕ → Result (Vec ℕ Global) LevelsFault → Type 0
IsToldAnswer t bytes (Ok levels) = AreLevelsTold t bytes levels.items
IsToldAnswer t bytes (Err fault) = (fault ≡ faults.NoMemory) ⊎ ((P : Program) → IsFirstLevelsFault t P bytes fault)

-- what an answer says of the text
abbrev pub IsLevelsAnswer : TableData → Program → List ℕ → Result Levels LevelsFault → Type 0
IsLevelsAnswer t P bytes (Ok levels) = AreLevels t P bytes levels.of.items
IsLevelsAnswer t P bytes (Err fault) = (fault ≡ faults.NoMemory) ⊎ IsFirstLevelsFault t P bytes fault
