-- The text of a schedule: entries, with blanks and comments between them.
use Rattle.std.specs.Prelude.{◌≡◌, ℕ, ◌+◌, ◌^◌, ◌<◌, ◌≤◌, ◌==◌, ◌||◌, Bool, true, not, IsTrue, List, [], ◌∷◌, ◌++◌, length, take, drop, decimal, replicate, Option, None, Some}
use Rattle.std.specs.List.{list_all}

-- what a text is made of: a blank, a comment, or an entry, which names a thread and maybe a count
pub data Piece : Type 0 where
  blank : ℕ → Piece
  comment : List ℕ → Piece
  single : ℕ → Piece
  group : ℕ → ℕ → Piece

-- the bytes of a piece: a comment follows a `#`, and a `*` stands between thread and count
abbrev pub spelled : Piece → List ℕ
spelled (blank byte) = byte ∷ []
spelled (comment text) = 35 ∷ text
spelled (single thread) = decimal thread
spelled (group thread count) = decimal thread ++ (42 ∷ decimal count)

-- space, tab, CR or LF
abbrev pub is_schedule_blank : ℕ → Bool
is_schedule_blank byte = (byte == 32) || (byte == 9) || (byte == 13) || (byte == 10)

-- an entry may end before this: a blank, a comment, or the end of the bytes
abbrev pub ends_entry : List ℕ → Bool
ends_entry [] = true
ends_entry (byte ∷ rest) = is_schedule_blank byte || (byte == 35)

-- a comment ends before this: LF, or the end of the bytes
abbrev pub ends_comment : List ℕ → Bool
ends_comment [] = true
ends_comment (byte ∷ rest) = byte == 10

-- a piece may stand before the rest of the bytes
abbrev pub IsPiece : Piece → List ℕ → Type 0
IsPiece (blank byte) rest = IsTrue (is_schedule_blank byte)
IsPiece (comment text) rest = IsTrue (list_all (λ byte. not (byte == 10)) text) × IsTrue (ends_comment rest)
IsPiece (single thread) rest = (thread < 2 ^ 32) × IsTrue (ends_entry rest)
IsPiece (group thread count) rest = (thread < 2 ^ 32) × (0 < count) × (count < 2 ^ 64) × IsTrue (ends_entry rest)

-- a text begins with a piece of this many bytes
pub record BeginsWithPiece (text : List ℕ) (piece : Piece) (size : ℕ) : Type 0 where
  pub bytes : take size text ≡ spelled piece
  pub within : size ≤ length text
  pub piece_is : IsPiece piece (drop size text)

-- a text begins with a count of this many bytes, behind which an entry may end
pub record BeginsWithCount (text : List ℕ) (count size : ℕ) : Type 0 where
  pub bytes : take size text ≡ decimal count
  pub within : size ≤ length text
  pub positive : 0 < count
  pub fits : count < 2 ^ 64
  pub ends : IsTrue (ends_entry (drop size text))

-- the piece that a thread and maybe a count are
abbrev pub piece_of : ℕ → Option ℕ → Piece
piece_of thread None = single thread
piece_of thread (Some count) = group thread count

-- pieces one after another, and then the rest
abbrev pub joined : List Piece → List ℕ → List ℕ
joined [] rest = rest
joined (piece ∷ pieces) rest = spelled piece ++ joined pieces rest

-- each piece may stand where it does
abbrev pub ArePieces : List Piece → List ℕ → Type 0
ArePieces [] rest = Unit {0}
ArePieces (piece ∷ pieces) rest = IsPiece piece (joined pieces rest) × ArePieces pieces rest

-- how many steps a piece gives
abbrev pub piece_count : Piece → ℕ
piece_count (blank byte) = 0
piece_count (comment text) = 0
piece_count (single thread) = 1
piece_count (group thread count) = count

-- the thread of an entry
abbrev pub piece_thread : Piece → ℕ
piece_thread (blank byte) = 0
piece_thread (comment text) = 0
piece_thread (single thread) = thread
piece_thread (group thread count) = thread

-- how many steps the pieces give
abbrev pub total : List Piece → ℕ
total [] = 0
total (piece ∷ pieces) = piece_count piece + total pieces

-- the threads that step, one after another
abbrev pub piece_steps : List Piece → List ℕ
piece_steps [] = []
piece_steps (piece ∷ pieces) = replicate (piece_count piece) (piece_thread piece) ++ piece_steps pieces

-- a text begins with these pieces, of at most 200,000 steps, and goes on with the rest
pub record BeginsWithPieces (text : List ℕ) (pieces : List Piece) (rest : List ℕ) : Type 0 where
  pub whole : text ≡ joined pieces rest
  pub pieces_are : ArePieces pieces rest
  pub within : total pieces ≤ 200000

-- the schedule that a text writes
pub record IsSchedule (text schedule : List ℕ) : Type 0 where
  pub pieces : List Piece
  pub begins : BeginsWithPieces text pieces []
  pub steps_are : schedule ≡ piece_steps pieces
