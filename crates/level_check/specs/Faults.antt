-- What a text of levels is for a class table and its program: the levels that it gives, or its first fault.
use Rattle.std.specs.Prelude.{◌≡◌, ◌≢◌, ℕ, ◌-◌, ◌<◌, List, [], ◌∷◌, ◌++◌, Some, None, Ok, Err, Contains, length, slice_get}
use Rattle.books.specs.declared.stop.Kind.{Kind}
use Rattle.classes.specs.Table.{TableData, class_number}
use Rattle.core_program.specs.Core.{Program}
use Rattle.core_program.specs.Dispatch.{above_of}
use Rattle.levels.specs.Walks.{level_in}
use Rattle.levels.specs.SlotTypes.{AreMarked}
use Rattle.level_check.specs.declared.lines.Flaw.{Flaw}
use Rattle.level_check.specs.declared.lines.Flaw.TheVariants as flaw
use Rattle.level_check.specs.declared.reader.LevelsFault.{LevelsFault}
use Rattle.level_check.specs.declared.reader.LevelsFault.TheVariants as faults
use Rattle.level_check.specs.Texts.{LevelLine, level_lines_text, IsLevelLine}
use Rattle.level_check.specs.Reading.{name_at, level_at}

-- one of the lines has this name
abbrev pub HasStood : List LevelLine → List ℕ → Type 0
HasStood lines name = (l : LevelLine) × Contains lines l × (l.name ≡ name)

-- the name of a class, which none of the lines before has
pub record IsNew (t : TableData) (before : List LevelLine) (name : List ℕ) : Type 0 where
  pub class : ℕ
  pub named : class_number t name ≡ Some class
  pub first : HasStood before name → ⊥

-- lines behind others, each with the name of a class that no line before has
abbrev pub AreNew : TableData → List LevelLine → List LevelLine → Type 0
AreNew t before [] = Unit {0}
AreNew t before (l ∷ ls) = IsLevelLine l × IsNew t before l.name × AreNew t (before ++ l ∷ []) ls

-- the text begins with such lines, and goes on with the rest
pub record BeginsWithLines (t : TableData) (bytes : List ℕ) (lines : List LevelLine) (rest : List ℕ) : Type 0 where
  pub whole : bytes ≡ level_lines_text lines ++ rest
  pub are_new : AreNew t [] lines

-- behind these lines no line can stand at the front of the text: what is wrong, and the text from the wrong byte on
pub data Stops (t : TableData) (before : List LevelLine) (text : List ℕ) : Flaw → List ℕ → Type 0 where
  -- no name, or no blank behind it
  no_name : (kind : Kind) (rest : List ℕ) → name_at text ≡ Err (kind, rest) → Stops t before text flaw.Form rest
  -- the name of no class
  unknown : (name behind : List ℕ) → name_at text ≡ Ok (name, behind) → class_number t name ≡ None → Stops t before text flaw.Unknown text
  -- the name of a line before
  twice : (name behind : List ℕ) (class : ℕ) → name_at text ≡ Ok (name, behind) → class_number t name ≡ Some class → HasStood before name → Stops t before text flaw.Twice text
  -- behind such a name no level, or no LF behind it
  no_level : (name behind : List ℕ) (kind : Kind) (rest : List ℕ) → name_at text ≡ Ok (name, behind) → IsNew t before name → level_at behind ≡ Err (kind, rest)
      → Stops t before text flaw.Form rest

-- the first fault of the text is of this kind, at this byte
pub record HasFlaw (t : TableData) (bytes : List ℕ) (kind : Flaw) (place : ℕ) : Type 0 where
  pub lines : List LevelLine
  pub rest : List ℕ
  pub wrong : List ℕ
  pub begins : BeginsWithLines t bytes lines rest
  pub goes_on : 0 < length rest
  pub stops : Stops t lines rest kind wrong
  pub place_is : place ≡ length bytes - length wrong

-- a line of the class has this level
pub record HasGivenLevel (t : TableData) (lines : List LevelLine) (class level : ℕ) : Type 0 where
  pub line : LevelLine
  pub among : Contains lines line
  pub named : class_number t line.name ≡ Some class
  pub level_is : level ≡ line.level

-- the text has a line for each class, and these are their levels, in the order of the classes
pub record AreLevelsTold (t : TableData) (bytes levels : List ℕ) : Type 0 where
  pub lines : List LevelLine
  pub begins : BeginsWithLines t bytes lines []
  pub count : length levels ≡ length t.names
  pub each : (class level : ℕ) → slice_get levels class ≡ Some level → HasGivenLevel t lines class level

-- the levels that the text gives: each class has the level of the class that it extends
pub record AreLevels (t : TableData) (P : Program) (bytes levels : List ℕ) : Type 0 where
  pub told : AreLevelsTold t bytes levels
  pub same : AreMarked P (level_in levels)

-- the text is lines alone, and this is the first class without one
pub record IsMissing (t : TableData) (bytes : List ℕ) (class : ℕ) : Type 0 where
  pub lines : List LevelLine
  pub begins : BeginsWithLines t bytes lines []
  pub there : class < length t.names
  pub none : (level : ℕ) → HasGivenLevel t lines class level → ⊥
  pub earlier : (c : ℕ) → c < class → (level : ℕ) × HasGivenLevel t lines c level

-- the class has another level than the class that it extends
abbrev pub Differs : Program → List ℕ → ℕ → Type 0
Differs P levels c = (d : ℕ) × (above_of P c ≡ Some d) × (level_in levels c ≢ level_in levels d)

-- the text has a line for each class, and this is the first class that has another level than the class that it extends
pub record IsUnequal (t : TableData) (P : Program) (bytes : List ℕ) (class : ℕ) : Type 0 where
  pub levels : List ℕ
  pub told : AreLevelsTold t bytes levels
  pub differs : Differs P levels class
  pub earlier : (c : ℕ) → c < class → Differs P levels c → ⊥

-- the first fault: the least byte at which the form, an unknown name or a second line for a class is wrong; else the first class without a
-- line; else the first that has another level than the class that it extends
abbrev pub IsFirstLevelsFault : TableData → Program → List ℕ → LevelsFault → Type 0
IsFirstLevelsFault t P bytes (faults.Form place) = HasFlaw t bytes flaw.Form place
IsFirstLevelsFault t P bytes (faults.Unknown place) = HasFlaw t bytes flaw.Unknown place
IsFirstLevelsFault t P bytes (faults.Twice place) = HasFlaw t bytes flaw.Twice place
IsFirstLevelsFault t P bytes (faults.Missing class) = IsMissing t bytes class
IsFirstLevelsFault t P bytes (faults.Unequal class) = IsUnequal t P bytes class
IsFirstLevelsFault t P bytes faults.NoMemory = ⊥
