-- What is known of the files that a call reads, and what is written of a text. Commands on rows, explanations and witnesses say it alike.
use Rattle.std.specs.Prelude.{◌≡◌, ◌≢◌, ℕ, ◌<◌, List, Option, IfSome, IsSome, length}
use Rattle.std.specs.Io.KnownBytes.{Appends}
use Rattle.edge.specs.Faults.{Rose}
use Rattle.edge.specs.Pieces.{AppendsFront}

-- no file's count of faults changed
abbrev pub HasSameFaults : (before now : List ℕ → ℕ) → Type 0
HasSameFaults before now = (name : List ℕ) → now name ≡ before name

-- the file couldn't be read: its count of faults rose or stands at its last value, and that of no other file that is told changed
pub record IsUnread (told : List ℕ → Option (List ℕ)) (before now : List ℕ → ℕ) (name : List ℕ) : Type 0 where
  pub rose : Rose (before name) (now name)
  pub others : (other : List ℕ) → other ≢ name → IsSome (told other) → now other ≡ before other

-- the file has more bytes than this limit
pub record IsOver (told : List ℕ → Option (List ℕ)) (before now : List ℕ → ℕ) (limit : ℕ) (name : List ℕ) : Type 0 where
  pub over : IfSome (told name) (λ file. limit < length file)
  pub quiet : HasSameFaults before now

-- a text was written of which this is so
pub record WritesText (Is : List ℕ → Type 0) (old new : Option (List ℕ)) : Type 0 where
  pub text : List ℕ
  pub belongs : Is text
  pub written : Appends old new text

-- a front was written of a text of which this is so
pub record WritesFrontOf (Is : List ℕ → Type 0) (old new : Option (List ℕ)) : Type 0 where
  pub text : List ℕ
  pub belongs : Is text
  pub written : AppendsFront old new text
