-- How commands on files end, and when the end of a source or a refusal is right.
use Rattle.std.specs.Prelude.{◌≡◌, ℕ, List, string_bytes}
use Rattle.lexer.specs.declared.places.Place.{Place}
use Rattle.lexer.specs.Places.{line_of, column_of}
use Rattle.report.specs.declared.source_fault.SourceFault.{SourceFault}
use Rattle.report.specs.SourceFaults.{fault_words, refused_at_place, refused_line}
use Rattle.sources.specs.declared.refusal.Ending.{Ending}
use Rattle.sources.specs.declared.refusal.Ending.TheVariants.{Done, Refused, Inadmissible, NoSchedule, Stopped, Open, BookRefused, NothingToBlame, BlameRefused, LevelsRefused, CallTooDeep}
use Rattle.sources.specs.declared.refusal.Refusal.{Refusal}
use Rattle.sources.specs.declared.refusal.Refusal.TheVariants.{Line, NoMemory}
use Rattle.sources.specs.declared.refusal.SourceEnd.{SourceEnd}
use Rattle.sources.specs.declared.refusal.SourceEnd.TheVariants as ends

-- the exit status of an ending
abbrev pub code_of : Ending → ℕ
code_of Done = 0
code_of Refused = 1
code_of Inadmissible = 2
code_of NoSchedule = 3
code_of Stopped = 4
code_of Open = 5
code_of BookRefused = 11
code_of NothingToBlame = 12
code_of BlameRefused = 13
code_of LevelsRefused = 14
code_of CallTooDeep = 15

-- the texts that belong to each ending
abbrev pub Texts : Type 1
Texts = Ending → List ℕ → Type 0

-- the refusal has an ending and a line that belong together, or memory was refused
abbrev pub IsRight : Texts → Refusal → Type 0
IsRight right (Line ending line) = right ending (string_bytes line)
IsRight right NoMemory = Unit {0}

-- the refusal has this ending and this line, or memory was refused
abbrev pub Tells : Ending → List ℕ → Refusal → Type 0
Tells ending text (Line its line) = (its ≡ ending) × (string_bytes line ≡ text)
Tells ending text NoMemory = Unit {0}

-- the fault is told at the place of an offset of some text, and the line with that place and the fault's words is right for a source
-- that is refused
pub record IsRightFault (right : Texts) (place : Place) (fault : SourceFault) : Type 0 where
  pub text : List ℕ
  pub at : ℕ
  pub line : place.line ≡ line_of text at
  pub column : place.column ≡ column_of text at
  pub belongs : right Refused (refused_line text at (fault_words fault))

-- the source ends with a fault for which the line that refuses it is right, or memory was refused
abbrev pub IsRightEnd : Texts → SourceEnd → Type 0
IsRightEnd right (ends.Fault place fault) = IsRightFault right place fault
IsRightEnd right ends.NoMemory = Unit {0}

-- the source ends with a fault at the place of this offset of the text, and these are its words
abbrev pub TellsAt : (text : List ℕ) → (at : ℕ) → (kind : List ℕ) → SourceEnd → Type 0
TellsAt text at kind (ends.Fault place fault) = (place.line ≡ line_of text at) × (place.column ≡ column_of text at) × (fault_words fault ≡ kind)
TellsAt text at kind ends.NoMemory = ⊥

-- the refusal has the line of the fault with which the source ends, or memory was refused; where the source ends for want of memory, it was
abbrev pub TellsEnd : SourceEnd → Refusal → Type 0
TellsEnd (ends.Fault place fault) refusal = Tells Refused (refused_at_place place.line place.column (fault_words fault)) refusal
TellsEnd ends.NoMemory refusal = refusal ≡ NoMemory
