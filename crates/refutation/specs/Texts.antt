-- The text of a list of lines: their count, each in a line of its own, and `end`.
use Rattle.std.specs.Prelude.{◌≡◌, ◌<◌, ◌^◌, ℕ, List, [], ◌∷◌, ◌++◌, length, codes, decimal}
use Rattle.std.specs.List.{AllByRecursion}
use Rattle.std.specs.List.Sorted.{IsStrictlySortedBy}
use Rattle.paths.specs.Paths.{PathData, path_order}
use Rattle.algebra.specs.Basics.{name_of}
use Rattle.conditions.specs.Texts.{path_text}
use Rattle.books.specs.Books.{IsPath}
use Rattle.books.specs.Texts.{newline}
use Rattle.refutation.specs.Lines.{LineData}

-- held paths, each after a blank
abbrev pub held_text : List PathData → List ℕ
held_text [] = []
held_text (p ∷ ps) = (codes " " ++ path_text p) ++ held_text ps

-- a line: the method's number, the basic, the held paths
abbrev pub certificate_line_text : LineData → List ℕ
certificate_line_text l = decimal l.method ++ (codes " " ++ (name_of l.found ++ (held_text l.held ++ (newline ∷ []))))

-- the texts of lines, one after the other
abbrev pub certificate_text : List LineData → List ℕ
certificate_text [] = []
certificate_text (l ∷ ls) = certificate_line_text l ++ certificate_text ls

-- the lines between their count and the end
abbrev pub blame_text : List LineData → List ℕ
blame_text ls = (codes "blame " ++ (decimal (length ls) ++ (newline ∷ []))) ++ (certificate_text ls ++ (codes "end" ++ (newline ∷ [])))

-- a line that can be written: its numbers fit, and its paths ascend strictly
pub record IsWritableLine (l : LineData) : Type 0 where
  pub method : l.method < 2 ^ 32
  pub paths : AllByRecursion IsPath l.held
  pub ascend : IsStrictlySortedBy path_order l.held

-- the bytes are the text of these lines
pub record IsCertificateText (bytes : List ℕ) (ls : List LineData) : Type 0 where
  pub few : length ls < 2 ^ 32
  pub lines : AllByRecursion IsWritableLine ls
  pub text_is : bytes ≡ blame_text ls
