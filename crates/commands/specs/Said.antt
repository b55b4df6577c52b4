-- A text that the program writes with a status.
use Rattle.std.specs.Prelude.{◌≡◌, ℕ, List, Option, ◌⊎◌}
use Rattle.std.specs.Io.KnownBytes.{Appends}
use Rattle.sources.specs.Files.{WritesText}
use Rattle.edge.specs.Pieces.{AppendsFront}
use Rattle.edge.specs.Lines.{cannot_read_line, too_large_line}
use Rattle.commands.specs.Rows.{Row, limits_of}
use Rattle.commands.specs.Reading.{AreTheirs, IsFirstUnread, IsFirstOver}
use Rattle.commands.specs.Answers.{Belongs}

-- the line of the first file of the row that couldn't be read
pub record IsLineOfUnread (row : Row) (told : List ℕ → Option (List ℕ)) (before now : List ℕ → ℕ) (line : List ℕ) : Type 0 where
  pub name : List ℕ
  pub first : IsFirstUnread told before now (limits_of row.command) row.names name
  pub says : line ≡ cannot_read_line name

-- such a line was written
pub record WritesUnread (row : Row) (told : List ℕ → Option (List ℕ)) (before now : List ℕ → ℕ) (old new : Option (List ℕ)) : Type 0 where
  pub line : List ℕ
  pub unread : IsLineOfUnread row told before now line
  pub written : Appends old new line

-- the line of the first file of the row that has more bytes than it may have
pub record IsTooLarge (row : Row) (told : List ℕ → Option (List ℕ)) (before now : List ℕ → ℕ) (line : List ℕ) : Type 0 where
  pub name : List ℕ
  pub first : IsFirstOver told before now (limits_of row.command) row.names name
  pub says : line ≡ too_large_line name

-- such a line was written
pub record WritesTooLarge (row : Row) (told : List ℕ → Option (List ℕ)) (before now : List ℕ → ℕ) (old new : Option (List ℕ)) : Type 0 where
  pub line : List ℕ
  pub large : IsTooLarge row told before now line
  pub written : Appends old new line

-- the files have bytes, which are those that are told where the folder tells a file, and the text that belongs to the row, these bytes
-- and the status was written
pub record WritesAnswerToBytes (row : Row) (told : List ℕ → Option (List ℕ)) (status : ℕ) (old new : Option (List ℕ)) : Type 0 where
  pub files : List (List ℕ)
  pub theirs : AreTheirs told row.names files
  pub answer : WritesText (Belongs row files status) old new

-- a front was written of the text that belongs to some status, or of the line of a file that couldn't be read
pub record WritesFront (row : Row) (files : List (List ℕ)) (told : List ℕ → Option (List ℕ)) (before now : List ℕ → ℕ) (old new : Option (List ℕ)) : Type 0 where
  pub status : ℕ
  pub text : List ℕ
  pub belongs : IsLineOfUnread row told before now text ⊎ Belongs row files status text
  pub written : AppendsFront old new text

-- the text belongs to the row, some status, and bytes of the files, which are those that are told where the folder tells a file
pub record BelongsToBytes (row : Row) (told : List ℕ → Option (List ℕ)) (text : List ℕ) : Type 0 where
  pub files : List (List ℕ)
  pub theirs : AreTheirs told row.names files
  pub status : ℕ
  pub belongs : Belongs row files status text

-- a front was written of such a text, or of the line of a file that couldn't be read
pub record WritesFrontToBytes (row : Row) (told : List ℕ → Option (List ℕ)) (before now : List ℕ → ℕ) (old new : Option (List ℕ)) : Type 0 where
  pub text : List ℕ
  pub belongs : IsLineOfUnread row told before now text ⊎ BelongsToBytes row told text
  pub written : AppendsFront old new text
