-- Room for operands: when a deed takes no memory, and what it leaves.
use Rattle.std.specs.Prelude.{◌≡◌, ℕ, ◌+◌, ◌≤◌, List, [], ◌∷◌, length, Option, Some, slice_get}
use Rattle.state.specs.States.{ThreadOf, Running}
use Rattle.state.specs.Frames.{CellFrame, frames_in, settled_operands, HasSpare}
use Rattle.machine.specs.declared.deed.Deed.{Deed}
use Rattle.machine.specs.declared.deed.Deed.TheVariants as deed
use Rattle.machine.specs.declared.deed.Turn.{Turn}
use Rattle.machine.specs.declared.deed.Turn.TheVariants as turn

-- a frame's operands and spare room are enough for the room of its method
abbrev pub IsRoomy : List ℕ → CellFrame → Type 0
IsRoomy rooms f = (most : ℕ) → slice_get rooms f.method ≡ Some most → most ≤ length f.operands + f.room

-- and so of each of these frames
abbrev pub AreRoomy : List ℕ → List CellFrame → Type 0
AreRoomy rooms [] = Unit {0}
AreRoomy rooms (f ∷ fs) = IsRoomy rooms f × AreRoomy rooms fs

-- and so of each frame of each thread
abbrev pub AllRoomy : List ℕ → List (ThreadOf CellFrame) → Type 0
AllRoomy rooms [] = Unit {0}
AllRoomy rooms (c ∷ cs) = AreRoomy rooms (frames_in c) × AllRoomy rooms cs

-- where the frames of one thread are roomy, so are those of another
abbrev pub StaysRoomy : List ℕ → ThreadOf CellFrame → ThreadOf CellFrame → Type 0
StaysRoomy rooms old new = AreRoomy rooms (frames_in old) → AreRoomy rooms (frames_in new)

-- a method is entered with the room that is its
abbrev pub HasRoomOf : List ℕ → Deed → Type 0
HasRoomOf rooms (deed.Enters m n a place at most) = slice_get rooms m ≡ Some most
HasRoomOf rooms _ = Unit {0}

-- what a deed leaves fits into the operands and the spare room of the top frame, or of the one below; and it makes no frame,
-- object, thread or hold of a lock, and prints nothing
abbrev pub FitsIn : CellFrame → List CellFrame → Deed → Type 0
FitsIn f below (deed.Goes drops gives place) = length (settled_operands drops gives f) ≤ length f.operands + f.room
FitsIn f below (deed.Reads a x v place) = length (settled_operands 1 (Some v) f) ≤ length f.operands + f.room
FitsIn f below (deed.Returns gives) = HasSpare gives below
FitsIn f below (deed.Makes c n place) = ⊥
FitsIn f below (deed.Enters m n a place at most) = ⊥
FitsIn f below (deed.Takes a again place) = ⊥
FitsIn f below (deed.Prints n place) = ⊥
FitsIn f below (deed.Starts a m place) = ⊥
FitsIn f below _ = Unit {0}

-- the same of what a turn comes to, for the thread that takes it
abbrev pub TurnFits : Option (ThreadOf CellFrame) → Turn → Type 0
TurnFits c (turn.Ends why) = Unit {0}
TurnFits c (turn.Fails kind) = Unit {0}
TurnFits c (turn.Enters a m entry most) = ⊥
TurnFits c (turn.Starts a m place) = ⊥
TurnFits c (turn.Does d) = (f : CellFrame) (below : List CellFrame) → c ≡ Some (Running (f ∷ below)) → FitsIn f below d
