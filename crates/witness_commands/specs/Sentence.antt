-- The sentence that the program is for: it says yes only of a well-formed source and a schedule that is a witness; then no assignment of
-- atomicities is admissible.
use Rattle.std.specs.Prelude.{◌≡◌, ℕ, List, Option, Some, None}
use Rattle.std.specs.Io.KnownBytes.{Appends}
use Rattle.core_program.specs.Core.{Program}
use Rattle.edge.specs.Calls.{Call}
use Rattle.rules.specs.Rules.{IsAccepted}
use Rattle.schedule.specs.Text.{IsSchedule}
use Rattle.sources.specs.Checking.{IsWellFormedSource}
use Rattle.syntax.specs.Trees.{ProgramTree}
use Rattle.witness_commands.specs.Answers.{IsWitnessOf}
use Rattle.witness_commands.specs.Reading.{AreInputsWithin}
use Rattle.witness_commands.specs.Written.{IsAsked}

-- the schedule is that of the text that is given; or, where none is, of the text that was written
abbrev pub IsSpelt : (text old new : Option (List ℕ)) → List ℕ → Type 0
IsSpelt (Some text) old new s = IsSchedule text s
IsSpelt None old new s = (text : List ℕ) × IsSchedule text s × Appends old new text

-- the source is well-formed, and the schedule is a witness: it runs to a state with no thread inside an atomic call, and no rearrangement
-- that interrupts no atomic call leaves the same objects and the same output. So no assignment is admissible.
pub record ShowsBroken (file : List ℕ) (text old new : Option (List ℕ)) : Type 0 where
  pub tree : ProgramTree
  pub program : Program
  pub schedule : List ℕ
  pub source : IsWellFormedSource file tree program
  pub spelt : IsSpelt text old new schedule
  pub witness : IsWitnessOf program schedule
  pub inadmissible : IsAccepted program → ⊥

-- where the words name files that are told and within their limits, status 2 comes only where a schedule shows that: the one that is
-- given, or else the one that was written
abbrev pub Witnesses : Call → Type 0
Witnesses call =
    (source : List ℕ) (schedule : Option (List ℕ)) (file : List ℕ) (text : Option (List ℕ)) → IsAsked call.words call.told source schedule file text
    → AreInputsWithin file text → call.status ≡ 2 → ShowsBroken file text call.written_before call.written_after
