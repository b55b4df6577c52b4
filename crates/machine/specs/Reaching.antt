-- What holds of the machine's state along every run: where the program is typed, the operands of each frame are those with
-- which its place is reached; there is room for those of its method, and the state stands for one of the definition.
use Rattle.std.specs.Prelude.{◌≡◌, ℕ, List, [], ◌∷◌, length, map, Option, Some, slice_get}
use Rattle.core_program.specs.Core.{Program, Method}
use Rattle.core_program.specs.Typed.{IsTyped}
use Rattle.state.specs.States.{ThreadOf, StateOf, State}
use Rattle.state.specs.Frames.{CellFrame, CodeFrame, code_thread, frames_in}
use Rattle.compile.specs.declared.stack.Code.{Code}
use Rattle.compile.specs.Rooms.{ReachedPlace, after_call}
use Rattle.machine.specs.Likeness.{StateStands}
use Rattle.machine.specs.MachineValue.{code_state}
use Rattle.machine.specs.Rooms.{AllRoomy}

module _ (P : Program) (code : List Code) (entry room : List ℕ) where
  -- the frame's place is reached from the entry of its method with so many operands
  pub record HasReached (f : CodeFrame) (n : ℕ) : Type 0 where
    pub start : ℕ
    pub most : ℕ
    pub begins : slice_get entry f.method ≡ Some start
    pub wants : slice_get room f.method ≡ Some most
    pub reached : ReachedPlace P code start f.place n

  -- frames below one of a method: each is reached with the operands that stand when the call above it is over
  abbrev pub BelowReached : Option Method → List CodeFrame → Type 0
  BelowReached above [] = Unit {0}
  BelowReached above (g ∷ more) = HasReached g (after_call above (length g.operands)) × BelowReached (slice_get P.methods g.method) more

  -- the frames of a thread, the innermost first
  abbrev pub AreFramesReached : List CodeFrame → Type 0
  AreFramesReached [] = Unit {0}
  AreFramesReached (f ∷ below) = HasReached f (length f.operands) × BelowReached (slice_get P.methods f.method) below

  -- and so of each thread
  abbrev pub AllReached : List (ThreadOf CodeFrame) → Type 0
  AllReached [] = Unit {0}
  AllReached (c ∷ cs) = AreFramesReached (frames_in c) × AllReached cs

  -- what is so of every state that the machine comes to: in a typed program each frame is reached with its operands, each has room for those that its
  -- method may have, and the state stands for one of the definition's
  pub record IsKept (s : StateOf CellFrame) : Type 0 where
    pub reached : IsTyped P → AllReached (map code_thread s.threads)
    pub roomy : AllRoomy room s.threads
    pub stood : State
    pub stands : StateStands P code (code_state s) stood
