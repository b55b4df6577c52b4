-- What was found before anything is written.
use Rattle.std.specs.Prelude.{◌≡◌, ◌⊎◌, ℕ, ◌<◌, ◌≤◌, Bool, true, false, not, ◌==◌, List, ◌++◌, Option, Some, None, Ok, Err, IfSome, length}
use Rattle.edge.specs.Faults.{Rose}
use Rattle.logs.specs.Logs.{Guard}
use Rattle.logs.specs.Views.{guards_data}
use Rattle.log_guess.specs.Given.{guards_of}
use Rattle.edge.specs.Lines.{cannot_read_line, too_large_line}
use Rattle.edge.specs.Said.{SaysText}
use Rattle.trace_commands.specs.declared.guarding.Guarding.{Guarding}
use Rattle.trace_commands.specs.declared.guarding.Guarding.TheVariants as ends
use Rattle.trace_commands.specs.Answers.{IsAnswer}
use Rattle.trace_commands.specs.Lines.{fault_line, no_guards_kind}
use Rattle.trace_commands.specs.NoteLines.{AreNotes}

-- how many bytes a log and a file of guards may have: 256 MB
abbrev pub longest_file : ℕ
longest_file = 268435456

-- this is one of the files that are asked for
abbrev pub IsNamed : (log : List ℕ) → (guards : Option (List ℕ)) → (name : List ℕ) → Type 0
IsNamed log guards name = (name ≡ log) ⊎ (guards ≡ Some name)

-- the status and the text belong to a log of these bytes, where places have these guards: the text is the first line that belongs to it, and then
-- notes, each a line with a place of the log
pub record Answers (guard : ℕ → Guard) (log bytes : List ℕ) (status : ℕ) (text : List ℕ) : Type 0 where
  pub line : List ℕ
  pub answer : IsAnswer guard log bytes status line
  pub notes : List ℕ
  pub are_notes : AreNotes log notes
  pub text_is : text ≡ line ++ notes

-- what was found of a log by these guards: the bytes by which it was judged, which are the file's where that is told, and the answer, with notes
-- behind its first line
pub record IsJudgedLog (guard : ℕ → Guard) (log : List ℕ) (told : Option (List ℕ)) (status : ℕ) (text : List ℕ) : Type 0 where
  pub bytes : List ℕ
  pub its : IfSome told (λ file. bytes ≡ file)
  pub answers : Answers guard log bytes status text

-- a file of guards was read whole: its text, which is the file's where that is told
pub record IsGuardsText (told : Option (List ℕ)) (text : List ℕ) : Type 0 where
  pub its : IfSome told (λ file. text ≡ file)
  pub within : length text ≤ longest_file

-- places have these guards: those that the file of guards gives, where one is asked for; else any, since they are guessed
abbrev pub IsGivenBy : (guards : Option (List ℕ)) → (told : List ℕ → Option (List ℕ)) → (ℕ → Guard) → Type 0
IsGivenBy None told guard = Unit {0}
IsGivenBy (Some name) told guard = (text : List ℕ) × IsGuardsText (told name) text × (guards_of text ≡ Ok guard)

-- the file of guards has this line, which is no line of guards, and it is the first such
abbrev pub HasNoGuards : (told : Option (List ℕ)) → (line : ℕ) → Type 0
HasNoGuards told line = (text : List ℕ) × IsGuardsText told text × (guards_of text ≡ Err line)

-- the status and the text that are to be written
pub data IsTraceOutcome (log : List ℕ) (guards : Option (List ℕ)) (told : List ℕ → Option (List ℕ)) (before now : List ℕ → ℕ) : ℕ → List ℕ → Type 0 where
  unread : (name : List ℕ) → IsNamed log guards name → Rose (before name) (now name) → IsTraceOutcome log guards told before now 6 (cannot_read_line name)
  -- guards were guessed, and when the log was read once more it hadn't the same number of bytes, as of a pipe nothing is left; so its bytes aren't told
  changed : told log ≡ None → IsTraceOutcome log guards told before now 6 (cannot_read_line log)
  over : (name : List ℕ) → IsNamed log guards name → IfSome (told name) (λ file. longest_file < length file) → IsTraceOutcome log guards told before now 10 (too_large_line name)
  no_guards : (name : List ℕ) (line : ℕ) → guards ≡ Some name → HasNoGuards (told name) line → IsTraceOutcome log guards told before now 1 (fault_line name line no_guards_kind)
  judged : (status : ℕ) (text : List ℕ) (guard : ℕ → Guard) → IsGivenBy guards told guard → IsJudgedLog guard log (told log) status text → IsTraceOutcome log guards told before now status text

-- so many bytes were read of a log to guess, where guards were guessed; where the log is told, it has so many
abbrev pub IsGuessed : (told : Option (List ℕ)) → (many : Option ℕ) → Type 0
IsGuessed told many = IfSome many (λ n. IfSome told (λ file. length file ≡ n))

-- whether so many bytes were read before, and now another number
abbrev pub is_some_other : Option ℕ → ℕ → Bool
is_some_other None many = false
is_some_other (Some n) many = not (n == many)

-- the log had another number of bytes before, and it can't be read; or the status and the text belong to it
abbrev pub IsCountedLog : (ℕ → Guard) → (log bytes : List ℕ) → (before : Option ℕ) → (many status : ℕ) → (text : List ℕ) → Type 0
IsCountedLog guard log bytes before many status text = ((is_some_other before many ≡ true) × (status ≡ 6) × (text ≡ cannot_read_line log)) ⊎ Answers guard log bytes status text

-- what came of looking for guards: the guards that are asked for, and no file's count of faults changed; or how it ended
abbrev pub IsGuarding : (log : List ℕ) → (guards : Option (List ℕ)) → (told : List ℕ → Option (List ℕ)) → (before now : List ℕ → ℕ) → Guarding → Type 0
IsGuarding log guards told before now (ends.Guards g many) = ((name : List ℕ) → now name ≡ before name) × IsGuessed (told log) many × IsGivenBy guards told (guards_data g)
IsGuarding log guards told before now (ends.Ended o) = IsTraceOutcome log guards told before now o.status o.text.items

-- a status and a text were found, and said
pub record SaysOutcome (log : List ℕ) (guards : Option (List ℕ)) (told : List ℕ → Option (List ℕ)) (before now : List ℕ → ℕ) (old new : Option (List ℕ)) (sink_before sink_now result : ℕ) : Type 0 where
  pub status : ℕ
  pub text : List ℕ
  pub outcome : IsTraceOutcome log guards told before now status text
  pub said : SaysText result status text old new sink_before sink_now
