-- What is answered to the bytes of a source, and of a schedule where one is given.
use Rattle.std.specs.Prelude.{◌≡◌, ◌≤◌, ℕ, List, Option, Some, None, Bool, length}
use Rattle.core_program.specs.Core.{Program}
use Rattle.witness.specs.declared.goal.Compared.{Compared}
use Rattle.witness.specs.declared.verdict.Verdict.{Verdict}
use Rattle.witness.specs.declared.verdict.Verdict.TheVariants as verdict
use Rattle.witness.specs.declared.seeking.Sought.{Sought}
use Rattle.witness.specs.declared.seeking.Sought.TheVariants as sought
use Rattle.witness.specs.Verdicts.{EndsOutsideAt, IsShown}
use Rattle.witness.specs.Witness.{SameObjects, IsLike, IsOrder, IsKeptAs, IsWitnessAs}
use Rattle.rules.specs.Rules.{IsAccepted}
use Rattle.schedule.specs.Text.{IsSchedule}
use Rattle.schedule.specs.Written.{written}
use Rattle.schedule_commands.specs.Schedules.{IsInput, NoSchedule, NoOrder}
use Rattle.sources.specs.declared.refusal.Ending.{Ending}
use Rattle.sources.specs.Checking.{IsWellFormedSource, NoSource}
use Rattle.sources.specs.Refusals.{code_of}
use Rattle.state.specs.States.{State}
use Rattle.syntax.specs.Trees.{ProgramTree}
use Rattle.witness_commands.specs.Lines.{broken_by_line, undecided_line, witness_text, none_found_line}

-- how many states are seen at most
abbrev pub most_states : ℕ
most_states = 20000

-- the status and the text for a verdict, as the code has it
abbrev pub IsSaid : Verdict → ℕ → List ℕ → Type 0
IsSaid (verdict.Kept r) status out = (status ≡ 0) × (out ≡ written r.items) × (length r.items ≤ 200000 → IsSchedule out r.items)
IsSaid (verdict.Broken sense) status out = (status ≡ 2) × (out ≡ broken_by_line sense.by sense.full)
IsSaid (verdict.Undecided seen) status out = (status ≡ 16) × (out ≡ undecided_line seen)

-- the status and the text for what a search finds, as the code has it
abbrev pub IsSoughtSaid : Sought → ℕ → List ℕ → Type 0
IsSoughtSaid (sought.Witness found) status out =
    (status ≡ 2) × (out ≡ witness_text found.sense.by found.sense.full found.schedule.items) × (length found.schedule.items ≤ 200000 → IsSchedule out found.schedule.items)
IsSoughtSaid (sought.Nothing tried) status out = (status ≡ 16) × (out ≡ none_found_line tried)

-- What is told of a schedule that runs to a state with no thread inside an atomic call: an order that interrupts no atomic call and
-- leaves the same objects and the same output; or that there is none, in the sense that is told, and so no admissible assignment
-- either; or that neither was found.
pub data IsToldOfSchedule (P : Program) (s : List ℕ) : ℕ → List ℕ → Type 0 where
  kept : (q : State) (r : List ℕ) → EndsOutsideAt P s q → IsOrder P (IsLike SameObjects) s q r → IsSchedule (written r) r → IsToldOfSchedule P s 0 (written r)
  broken : (by : Compared) (full : Bool) → IsShown P s by full → (IsAccepted P → ⊥) → IsToldOfSchedule P s 2 (broken_by_line by full)
  undecided : (q : State) → EndsOutsideAt P s q → IsToldOfSchedule P s 16 (undecided_line most_states)

-- the line that refuses the source, else the text of the schedule, else its run, else its end with a thread inside an atomic call
pub data RefusesInput (file text : List ℕ) : Ending → List ℕ → Type 0 where
  no_source : {ending : Ending} {line : List ℕ} → NoSource file ending line → RefusesInput file text ending line
  no_schedule : {ending : Ending} {line : List ℕ} (tree : ProgramTree) (P : Program) → IsWellFormedSource file tree P → NoSchedule text ending line → RefusesInput file text ending line
  no_end : {ending : Ending} {line : List ℕ} (tree : ProgramTree) (P : Program) (s : List ℕ) → IsInput file text tree P s → NoOrder P s ending line → RefusesInput file text ending line

-- the status and the text that are answered to a source and a schedule
pub data AnswersSchedule (file text : List ℕ) : ℕ → List ℕ → Type 0 where
  refused : {ending : Ending} {line : List ℕ} → RefusesInput file text ending line → AnswersSchedule file text (code_of ending) line
  told : {status : ℕ} {out : List ℕ} (tree : ProgramTree) (P : Program) (s : List ℕ) → IsInput file text tree P s → IsToldOfSchedule P s status out → AnswersSchedule file text status out

-- The status and the text that are answered to a source alone: the line that refuses it; or the text of a schedule that is a witness in the
-- sense that is told, so that no assignment is admissible; or that none was found, which says nothing of the source.
pub data AnswersSearch (file : List ℕ) : ℕ → List ℕ → Type 0 where
  no_program : {ending : Ending} {line : List ℕ} → NoSource file ending line → AnswersSearch file (code_of ending) line
  found : (tree : ProgramTree) (P : Program) (s : List ℕ) (by : Compared) (full : Bool) → IsWellFormedSource file tree P → IsShown P s by full
      → IsSchedule (witness_text by full s) s → (IsAccepted P → ⊥) → AnswersSearch file 2 (witness_text by full s)
  nothing : (tree : ProgramTree) (P : Program) (tried : ℕ) → IsWellFormedSource file tree P → AnswersSearch file 16 (none_found_line tried)

-- the status and the text that are answered
abbrev pub WitnessAnswer : (file : List ℕ) → (text : Option (List ℕ)) → ℕ → List ℕ → Type 0
WitnessAnswer file (Some text) status out = AnswersSchedule file text status out
WitnessAnswer file None status out = AnswersSearch file status out

-- the schedule ends with no thread inside an atomic call, and some order that interrupts no atomic call leaves the same objects and the
-- same output
abbrev pub IsKeptEnd : Program → List ℕ → Type 0
IsKeptEnd P s = (q : State) × EndsOutsideAt P s q × IsKeptAs P (IsLike SameObjects) s q

-- the schedule is a witness by objects and output
abbrev pub IsWitnessOf : Program → List ℕ → Type 0
IsWitnessOf P s = IsWitnessAs P (IsLike SameObjects) s

-- the file is a well-formed source, and some schedule of it is a witness by objects and output
abbrev pub HasWitness : List ℕ → Type 0
HasWitness file = (tree : ProgramTree) × (P : Program) × (s : List ℕ) × IsWellFormedSource file tree P × IsWitnessOf P s
