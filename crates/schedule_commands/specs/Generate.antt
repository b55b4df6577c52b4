-- `generate N`: makes the source and the schedule for N workers, does with them what `serialise` does, and writes four lines.
use Rattle.std.specs.Prelude.{◌≡◌, ℕ, ◌+◌, ℤ, pos, ◌==◌, if◌then◌else◌, List, [], ◌∷◌, ◌++◌, length, Option, Some, None, slice_get, codes, decimal}
use Rattle.std.specs.Fmt.{signed_decimal}
use Rattle.std.specs.FinMap as map
use Rattle.core_program.specs.Core.{Program}
use Rattle.schedule.specs.Rounds.{IsGenerated}
use Rattle.schedule.specs.Sources.{generated_source}
use Rattle.rules.specs.Rules.{IsAccepted}
use Rattle.schedule.specs.Written.{written}
use Rattle.sources.specs.declared.refusal.Ending.{Ending}
use Rattle.sources.specs.declared.refusal.Ending.TheVariants as ending
use Rattle.state.specs.declared.value.Address.{Address}
use Rattle.state.specs.declared.value.Value.{Value}
use Rattle.state.specs.declared.value.Value.TheVariants.{Int}
use Rattle.state.specs.Memory.{Object, Heap}
use Rattle.state.specs.States.{State}
use Rattle.semantics.specs.Run.{run, open_thread}
use Rattle.semantics.specs.Units.{written_order}
use Rattle.syntax.specs.Trees.{ProgramTree}
use Rattle.schedule_commands.specs.Schedules.{IsInput}
use Rattle.schedule_commands.specs.Serialise.{SerialiseAnswer, SerialiseFact}

-- how many groups of equal neighbours begin in a schedule that stands behind an entry of this thread
abbrev pub groups_behind : ℕ → List ℕ → ℕ
groups_behind thread [] = 0
groups_behind thread (next ∷ schedule) = if next == thread then groups_behind next schedule else 1 + groups_behind next schedule

-- how many maximal groups of equal neighbours a schedule has
abbrev pub group_count : List ℕ → ℕ
group_count [] = 0
group_count (thread ∷ schedule) = 1 + groups_behind thread schedule

-- the number that a value is, and 0 where it is none
abbrev pub number_or_zero : Option Value → ℤ
number_or_zero (Some (Int number)) = number
number_or_zero _ = pos 0

-- the value of an object's first field
abbrev pub first_value : Option Object → Option Value
first_value None = None
first_value (Some object) = slice_get object.values 0

-- the object that the workers share: the second one that the main thread makes
abbrev pub shared_address : Address
shared_address = record { thread = 0; count = 1 }

-- the number up to which the workers counted
abbrev pub counted : Heap → ℤ
counted heap = number_or_zero (first_value (map.get heap shared_address))

-- a line with a word and a number's digits
abbrev pub figure_line : List ℕ → List ℕ → List ℕ
figure_line word digits = word ++ digits ++ 10 ∷ []

-- the four lines: how many workers there are, how many entries and how many groups the order has, and up to which number was counted
abbrev pub figures : ℕ → List ℕ → Heap → List ℕ
figures n order heap = figure_line (codes "workers ") (decimal n) ++ figure_line (codes "entries ") (decimal (length order))
    ++ figure_line (codes "runs ") (decimal (group_count order)) ++ figure_line (codes "v ") (signed_decimal (counted heap))

-- what `serialise` answers to the source and the schedule where it refuses them; else the four lines of the order that it writes, and of
-- the state to which the schedule runs
pub data GenerateAnswer (n : ℕ) : Ending → List ℕ → Type 0 where
  refused : {ended : Ending} {line : List ℕ} (s : List ℕ) → IsGenerated n s → (ended ≡ ending.Done → ⊥) → SerialiseAnswer (generated_source n) (written s) ended line → GenerateAnswer n ended line
  generated : {out : List ℕ} (s : List ℕ) (tree : ProgramTree) (P : Program) (q : State) → IsGenerated n s → IsInput (generated_source n) (written s) tree P s → IsAccepted P → run P s ≡ Some q
      → open_thread P q ≡ None → out ≡ figures n (written_order P s) q.heap → GenerateAnswer n ending.Done out

-- when `generate` ends how: as `serialise` does
abbrev pub GenerateFact : ℕ → Ending → Type 0
GenerateFact n ended = (s : List ℕ) × IsGenerated n s × SerialiseFact (generated_source n) (written s) ended
