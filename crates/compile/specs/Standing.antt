-- What it means that a place in the code stands for a work list.
use Rattle.std.specs.Prelude.{◌≡◌, ℕ, zero, suc, Bool, List, ◌∷◌, Some, slice_get}
use Rattle.state.specs.declared.value.Address.{Address}
use Rattle.state.specs.Work as W
use Rattle.state.specs.Work.{Action, Item, Ex, St, Act, unfolded}
use Rattle.core_program.specs.Core.{WhileS}
use Rattle.compile.specs.declared.stack.Instr.TheVariants as i
use Rattle.compile.specs.declared.stack.Code.{Code}

-- a relation between a place with a frame's taken locks, the last one first, and a work list
abbrev pub Relation : Type 1
Relation = ℕ → List Address → List Item → Type 0

-- The line has the action's instruction, and on each outcome of it the next place, with the locks that are taken then,
-- is in the relation K with what is left to do. `result` says whether the frame's method has a result.
abbrev pub Agree : Bool → Relation → Code → List Address → List Item → Action → Type 0
Agree result K c taken more (W.Push v) = (c.instr ≡ i.Push v) × K c.next taken more
Agree result K c taken more (W.Load x) = (c.instr ≡ i.Load x) × K c.next taken more
Agree result K c taken more (W.Store x) = (c.instr ≡ i.Store x) × K c.next taken more
Agree result K c taken more W.Drop = (c.instr ≡ i.Drop) × K c.next taken more
Agree result K c taken more (W.Unary op) = (c.instr ≡ i.Unary op) × K c.next taken more
Agree result K c taken more (W.Binary op) = (c.instr ≡ i.Binary op) × K c.next taken more
Agree result K c taken more (W.AndThen e) = (other : ℕ) × (c.instr ≡ i.AndThen other) × K c.next taken more × K other taken (Ex e ∷ more)
Agree result K c taken more (W.OrElse e) = (other : ℕ) × (c.instr ≡ i.OrElse other) × K c.next taken more × K other taken (Ex e ∷ more)
Agree result K c taken more (W.Choose s u) = (other : ℕ) × (c.instr ≡ i.Branch other) × K c.next taken (St s ∷ more) × K other taken (St u ∷ more)
Agree result K c taken more (W.Loop e s) = (other : ℕ) × (c.instr ≡ i.Branch other) × K c.next taken (St s ∷ St (WhileS e s) ∷ more) × K other taken more
Agree result K c taken more (W.Get f) = (c.instr ≡ i.Get f) × K c.next taken more
Agree result K c taken more (W.Put f) = (c.instr ≡ i.Put f) × K c.next taken more
Agree result K c taken more (W.New class) = (c.instr ≡ i.New class) × K c.next taken more
Agree result K c taken more (W.Call m) = (c.instr ≡ i.Call m) × K c.next taken more
Agree result K c taken more (W.Acquire s) = (c.instr ≡ i.Acquire) × ((a : Address) → K c.next (a ∷ taken) (St s ∷ Act (W.Release a) ∷ more))
Agree result K c taken more (W.Release a) = (before : List Address) × (c.instr ≡ i.Release) × (taken ≡ a ∷ before) × K c.next before more
Agree result K c taken more W.Ret = c.instr ≡ i.Ret result
Agree result K c taken more W.Print = (c.instr ≡ i.Print) × K c.next taken more
Agree result K c taken more W.Start = (c.instr ≡ i.Start) × K c.next taken more

-- there is a line at the place, it has the work list's next action, and what comes after it is in the relation K
pub record StandsOnce (result : Bool) (code : List Code) (K : Relation) (place : ℕ) (taken : List Address) (work : List Item) : Type 0 where
  pub line : Code
  pub there : slice_get code place ≡ Some line
  pub action : Action
  pub rest : List Item
  pub next : unfolded work ≡ Some (action, rest)
  pub agree : Agree result K line taken rest action

-- a place with these taken locks stands for a work list to a depth: for so many actions
abbrev pub StandsTo : Bool → List Code → ℕ → ℕ → List Address → List Item → Type 0
StandsTo result code zero place taken work = Unit {0}
StandsTo result code (suc n) place taken work = StandsOnce result code (StandsTo result code n) place taken work

-- and to every depth
abbrev pub Stands : Bool → List Code → ℕ → List Address → List Item → Type 0
Stands result code place taken work = (n : ℕ) → StandsTo result code n place taken work
