-- What was found before anything is written.
use Rattle.std.specs.Prelude.{◌≡◌, ℕ, List, Option}
use Rattle.edge.specs.declared.transfer.ReadEnd.{ReadEnd}
use Rattle.edge.specs.declared.transfer.ReadEnd.TheVariants.{Fault, TooLarge, NoMemory}
use Rattle.edge.specs.Lines.{cannot_read_line, too_large_line}
use Rattle.witness_commands.specs.Answers.{WitnessAnswer}
use Rattle.witness_commands.specs.Reading.{AreInputsRead, IsFirstUnreadInput, IsFirstTooLargeInput}

-- the status and the line for a file that wasn't read
abbrev pub IsUnreadLine : (name : List ℕ) → ReadEnd → ℕ → List ℕ → Type 0
IsUnreadLine name Fault status line = (status ≡ 6) × (line ≡ cannot_read_line name)
IsUnreadLine name TooLarge status line = (status ≡ 10) × (line ≡ too_large_line name)
IsUnreadLine name NoMemory status line = ⊥

-- the status and the text that are to be written
pub data IsWitnessOutcome (source : List ℕ) (schedule : Option (List ℕ)) (told : List ℕ → Option (List ℕ)) (before now : List ℕ → ℕ) : ℕ → List ℕ → Type 0 where
  unread : (name : List ℕ) → IsFirstUnreadInput told before now source schedule name → IsWitnessOutcome source schedule told before now 6 (cannot_read_line name)
  over : (name : List ℕ) → IsFirstTooLargeInput told before now source schedule name → IsWitnessOutcome source schedule told before now 10 (too_large_line name)
  read : {status : ℕ} {out : List ℕ} (file : List ℕ) (text : Option (List ℕ)) → AreInputsRead told before now source schedule file text → WitnessAnswer file text status out
      → IsWitnessOutcome source schedule told before now status out
