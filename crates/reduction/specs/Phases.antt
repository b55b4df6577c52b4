-- The phases of a thread: outside atomic calls, or inside one before or after its commit.
use Rattle.std.specs.Prelude.{◌≡◌, Bool, true, false, Option, Some, None}
use Rattle.algebra.specs.declared.basic.Basic.{Basic}
use Rattle.algebra.specs.declared.basic.Basic.TheVariants.{Const, Mover, Atomic, Cmpd, Error}
use Rattle.state.specs.declared.value.StepKind.{StepKind}
use Rattle.state.specs.declared.value.StepKind.TheVariants.{Both, Right, Left, Other, Bare}
use Rattle.semantics.specs.Words.{moves_left}

-- outside atomic calls; inside one whose steps so far were Right or Both; inside one that made a Left or Other step
pub data Phase : Type 0 where
  Free : Phase
  Opened : Phase
  Committed : Phase

-- the phase of a thread that stands inside an atomic call or not, by whether that made a Left or Other step
abbrev pub phase_of : (inside committed : Bool) → Phase
phase_of false committed = Free
phase_of true false = Opened
phase_of true true = Committed

-- whether the first phase is at most the second: what may be done in a later phase may be done in an earlier one
abbrev pub phase_le : Phase → Phase → Bool
phase_le Free q = true
phase_le Opened Free = false
phase_le Opened Opened = true
phase_le Opened Committed = true
phase_le Committed Free = false
phase_le Committed Opened = false
phase_le Committed Committed = true

-- the phase after a part of this effect; none where the phase doesn't admit the part
abbrev pub phase_after : Phase → Basic → Option Phase
phase_after Free Const = Some Free
phase_after Free Mover = Some Free
phase_after Free Atomic = Some Free
phase_after Free Cmpd = Some Free
phase_after Free Error = None
phase_after Opened Const = Some Opened
phase_after Opened Mover = Some Opened
phase_after Opened Atomic = Some Committed
phase_after Opened Cmpd = None
phase_after Opened Error = None
phase_after Committed Const = Some Committed
phase_after Committed Mover = Some Committed
phase_after Committed Atomic = None
phase_after Committed Cmpd = None
phase_after Committed Error = None

-- the phase after a release, by whether the lock stays held
abbrev pub freed : (stays : Bool) → Phase → Phase
freed true phase = phase
freed false Free = Free
freed false Opened = Committed
freed false Committed = Committed

-- whether a phase admits a step of this kind
abbrev pub allowed : Phase → StepKind → Bool
allowed Free Bare = false
allowed Free Both = true
allowed Free Right = true
allowed Free Left = true
allowed Free Other = true
allowed Opened Bare = false
allowed Opened Both = true
allowed Opened Right = true
allowed Opened Left = true
allowed Opened Other = true
allowed Committed kind = moves_left kind

-- the phase after a step of this kind
abbrev pub stepped : StepKind → Phase → Phase
stepped Both phase = phase
stepped Right phase = phase
stepped Bare phase = phase
stepped Left phase = freed false phase
stepped Other phase = freed false phase

-- the phase admits a part of this effect, and K holds of the phase after it
pub record PassesPart (phase : Phase) (effect : Basic) (K : Phase → Type 0) : Type 0 where
  pub next : Phase
  pub passes : phase_after phase effect ≡ Some next
  pub rest : K next

-- what holds of a phase holds of each smaller one
abbrev pub IsDownClosed : (Phase → Type 0) → Type 0
IsDownClosed K = (p q : Phase) → phase_le p q ≡ true → K q → K p

-- what the first has of a phase the second has of each smaller one
abbrev pub FallsTo : (K L : Phase → Type 0) → Type 0
FallsTo K L = (p q : Phase) → phase_le p q ≡ true → K q → L p
