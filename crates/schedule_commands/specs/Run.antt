-- `run FILE SCHEDULE`: judges the source, without the rules of atomicity, and the text of the schedule, and runs it.
use Rattle.std.specs.Prelude.{◌≡◌, ℕ, List, Some}
use Rattle.classes.specs.Table.{table_of}
use Rattle.core_program.specs.Core.{Program}
use Rattle.sources.specs.declared.refusal.Ending.{Ending}
use Rattle.sources.specs.declared.refusal.Ending.TheVariants as ending
use Rattle.sources.specs.Checking.{IsWellFormedSource, NoSource}
use Rattle.sources.specs.Facts.{IsNotWellFormed}
use Rattle.state.specs.States.{State}
use Rattle.report.specs.States.{state_text}
use Rattle.semantics.specs.Run.{run, Runs}
use Rattle.syntax.specs.Trees.{ProgramTree}
use Rattle.schedule_commands.specs.Schedules.{NoSchedule, NoRun, IsInput, HasInput, IsWellFormedText, IsNoSchedule}

-- the line that refuses the source, else the schedule's text, else its run; or the text of the state that it runs to
pub data RunAnswer (file text : List ℕ) : Ending → List ℕ → Type 0 where
  no_source : {ending : Ending} {line : List ℕ} → NoSource file ending line → RunAnswer file text ending line
  no_schedule : {ending : Ending} {line : List ℕ} (tree : ProgramTree) (P : Program) → IsWellFormedSource file tree P → NoSchedule text ending line
      → RunAnswer file text ending line
  no_run : {ending : Ending} {line : List ℕ} (tree : ProgramTree) (P : Program) (s : List ℕ) → IsInput file text tree P s → NoRun P s ending line
      → RunAnswer file text ending line
  ran : (tree : ProgramTree) (P : Program) (s : List ℕ) (q : State) → IsInput file text tree P s → run P s ≡ Some q
      → RunAnswer file text ending.Done (state_text P (table_of tree) q)

-- when `run` ends how
abbrev pub RunFact : List ℕ → List ℕ → Ending → Type 0
RunFact file text ending.Refused = IsNotWellFormed file
RunFact file text ending.Inadmissible = ⊥
RunFact file text ending.NoSchedule = IsWellFormedText file × IsNoSchedule text
RunFact file text ending.Stopped = HasInput file text (λ P s. Runs P s → ⊥)
RunFact file text ending.Open = ⊥
RunFact file text ending.BookRefused = ⊥
RunFact file text ending.NothingToBlame = ⊥
RunFact file text ending.BlameRefused = ⊥
RunFact file text ending.LevelsRefused = ⊥
RunFact file text ending.CallTooDeep = ⊥
RunFact file text ending.Done = HasInput file text (λ P s. Runs P s)
