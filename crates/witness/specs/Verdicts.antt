-- What is told of a schedule as a whole.
use Rattle.std.specs.Prelude.{◌≡◌, ◌≤◌, ℕ, List, Bool, true, false, Some, None, length}
use Rattle.core_program.specs.Core.{Program}
use Rattle.core_program.specs.Views.{program_of}
use Rattle.state.specs.States.{State, initial}
use Rattle.compile.specs.IsCode.{IsCodeOf}
use Rattle.semantics.specs.Run.{run, open_thread}
use Rattle.machine.specs.MachineValue.{MachineValue}
use Rattle.machine.specs.Standing.{StandsFor, IsStopped}
use Rattle.witness.specs.Witness.{IsOrder, IsWitnessAs, IsFullWitnessAs}
use Rattle.witness.specs.declared.goal.Compared.{Compared}
use Rattle.witness.specs.declared.goal.Compared.TheVariants as by
use Rattle.witness.specs.declared.verdict.Case.{Case}
use Rattle.witness.specs.declared.verdict.Sense.{Sense}
use Rattle.witness.specs.declared.verdict.Verdict.{Verdict}
use Rattle.witness.specs.declared.verdict.Verdict.TheVariants as told
use Rattle.witness.specs.declared.verdict.NoVerdict.{NoVerdict}
use Rattle.witness.specs.declared.verdict.NoVerdict.TheVariants as none
use Rattle.witness.specs.Judging.{AreLike}

-- the program of a case
abbrev pub program_of_case : Case → Program
program_of_case c = program_of c.program.now

-- the code is the program's, the schedule has at most so many entries, and some state may be seen
pub record IsCase (c : Case) : Type 0 where
  pub code : IsCodeOf (program_of_case c) c.code.now.code.items c.code.now.entry.items c.code.now.room.items
  pub size : length c.schedule.now ≤ 200000
  pub most : 1 ≤ c.most

-- the schedule runs to this state, in which no thread stands inside an atomic call
pub record EndsOutsideAt (P : Program) (s : List ℕ) (q : State) : Type 0 where
  pub runs : run P s ≡ Some q
  pub closed : open_thread P q ≡ None

-- the machine stands for the state at which the schedule ends so
abbrev pub IsMachineEnd : Program → List ℕ → MachineValue → Type 0
IsMachineEnd P s m = (q : State) × EndsOutsideAt P s q × StandsFor m q

-- the schedule is a witness by this comparison; or a full one
abbrev pub IsShown : Program → List ℕ → Compared → (full : Bool) → Type 0
IsShown P s c false = IsWitnessAs P (AreLike c) s
IsShown P s c true = IsFullWitnessAs P (AreLike c) s

-- the promises of the schedule are broken in this sense
abbrev pub IsBrokenIn : Program → List ℕ → Sense → Type 0
IsBrokenIn P s sense = IsShown P s sense.by sense.full

-- An order leaves the same objects and the same output; where the promises are broken they are so in the sense that is told; and where
-- neither is told, as many states were seen as may be.
abbrev pub IsVerdict : Program → (most : ℕ) → List ℕ → Verdict → Type 0
IsVerdict P most s (told.Kept r) = (q : State) × EndsOutsideAt P s q × IsOrder P (AreLike by.Objects) s q r.items
IsVerdict P most s (told.Broken sense) = IsBrokenIn P s sense
IsVerdict P most s (told.Undecided seen) = (q : State) × EndsOutsideAt P s q × (seen ≡ most)

-- when no verdict is given: the schedule stops, or ends with a thread inside an atomic call; of want of memory nothing is said
abbrev pub IsNoVerdict : Program → List ℕ → NoVerdict → Type 0
IsNoVerdict P s (none.Stopped stopped) = IsStopped P (initial P) s stopped
IsNoVerdict P s (none.Open thread) = (q : State) × (run P s ≡ Some q) × (open_thread P q ≡ Some thread)
IsNoVerdict P s none.NoMemory = Unit {0}
