-- Where the code's walk stands and how it ends.
use Rattle.std.specs.Prelude.{◌≡◌, Some}
use Rattle.logs.specs.Noting.{refusal_data}
use Rattle.logs.specs.State.{known_of}
use Rattle.logs.specs.Said.{SaidData, said_of}
use Rattle.logs.specs.declared.walk.Walk.{Walk}
use Rattle.logs.specs.declared.walk.WalkEnd.{WalkEnd}
use Rattle.logs.specs.declared.walk.WalkEnd.TheVariants as ends
use Rattle.logs.specs.Walks.{Stand, WalkedTo, NoLine, Refused}

abbrev pub stand_of : Walk → Stand
stand_of walk = record { known = known_of walk.judge; row = walk.row.items; line = walk.line }

-- a walk ends so where it stands, or for want of memory
abbrev pub IsEnd : Stand → WalkedTo → WalkEnd → Type 0
IsEnd s w ends.NoLine = w ≡ NoLine s.line
IsEnd s w (ends.Refused why) = (said : SaidData) × (said_of s.row ≡ Some said) × (w ≡ Refused s.line said (refusal_data why))
IsEnd s w ends.NoMemory = Unit {0}
