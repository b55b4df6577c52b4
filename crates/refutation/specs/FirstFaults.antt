-- The first fault of a text, apart from how the text is read: where a rule beside the grammar is broken, else where no text goes on.
use Rattle.std.specs.Prelude.{◌≡◌, ◌⊎◌, ◌<◌, ◌+◌, ◌^◌, ◌++◌, ℕ, List, [], ◌∷◌, length, take, drop, codes, decimal, Option, Some, None}
use Rattle.std.specs.List.{AllByRecursion}
use Rattle.paths.specs.Paths.{PathData}
use Rattle.algebra.specs.Basics.{name_of}
use Rattle.books.specs.Books.{IsPath}
use Rattle.books.specs.Broken.{IsPast}
use Rattle.books.specs.BrokenPaths.{BreaksPath}
use Rattle.books.specs.Texts.{newline}
use Rattle.refutation.specs.Lines.{LineData}
use Rattle.refutation.specs.Texts.{held_text, certificate_text, blame_text, IsWritableLine, IsCertificateText}

-- a line whose numbers fit; its paths needn't ascend
pub record IsFittingLine (l : LineData) : Type 0 where
  pub method : l.method < 2 ^ 32
  pub paths : AllByRecursion IsPath l.held

-- the text of some lines whose numbers fit, whether paths ascend or not, begins with these bytes
pub record IsFront (bytes : List ℕ) : Type 0 where
  pub more : List ℕ
  pub lines : List LineData
  pub few : length lines < 2 ^ 32
  pub fit : AllByRecursion IsFittingLine lines
  pub whole : bytes ++ more ≡ blame_text lines

-- the line with the count of the others
abbrev pub heading : ℕ → List ℕ
heading n = codes "blame " ++ (decimal n ++ (newline ∷ []))

-- a line up to the last of its held paths
abbrev pub open_line : LineData → List ℕ
open_line l = decimal l.method ++ (codes " " ++ (name_of l.found ++ held_text l.held))

-- the last of some paths behind one, if there is any
abbrev pub last_of : Option PathData → List PathData → Option PathData
last_of before [] = before
last_of before (p ∷ ps) = last_of (Some p) ps

-- lines that can be written, and more are announced
pub record AreBegun (count : ℕ) (ls : List LineData) : Type 0 where
  pub count_fits : count < 2 ^ 32
  pub fewer : length ls < count
  pub lines : AllByRecursion IsWritableLine ls

-- behind this front of a text a rule is broken: a count or a method that is out of range begins, or such a path behind the held paths of a line
pub data BreaksRule (front rest : List ℕ) : Type 0 where
  count : front ≡ codes "blame " → IsPast (2 ^ 32) rest → BreaksRule front rest
  method : (n : ℕ) (ls : List LineData) → AreBegun n ls → front ≡ heading n ++ certificate_text ls → IsPast (2 ^ 32) rest → BreaksRule front rest
  path : (n : ℕ) (ls : List LineData) (l : LineData) (ahead : List ℕ) → AreBegun n ls → IsWritableLine l → front ≡ heading n ++ (certificate_text ls ++ (open_line l ++ (codes " " ++ ahead))) →
      BreaksPath (last_of None l.held) ahead rest → BreaksRule front rest

-- at this place of a text a rule is broken
abbrev pub IsBrokenAt : List ℕ → ℕ → Type 0
IsBrokenAt bytes place = BreaksRule (take place bytes) (drop place bytes)

-- no lines whose numbers fit go on with the byte at this place; or the bytes end there, and are no text
abbrev pub IsStuckAt : List ℕ → ℕ → Type 0
IsStuckAt bytes place = ((place < length bytes) × (IsFront (take (place + 1) bytes) → ⊥)) ⊎ ((place ≡ length bytes) × ((lines : List LineData) → IsCertificateText bytes lines → ⊥))

-- the first fault: before it stands the front of a text, and no broken rule; at it a rule is broken, or no text goes on
pub record IsFirstFault (bytes : List ℕ) (place : ℕ) : Type 0 where
  pub before : IsFront (take place bytes)
  pub first : (k : ℕ) → k < place → IsBrokenAt bytes k → ⊥
  pub there : IsBrokenAt bytes place ⊎ IsStuckAt bytes place
