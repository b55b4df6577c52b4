-- What the text of a book may begin with, apart from how it is read. A book's own rules are left aside: numbers out of range, trees that
-- aren't canonical, trees and derivations that are too high.
use Rattle.std.specs.Prelude.{◌≡◌, ◌≤◌, List, [], ◌∷◌, ◌++◌, ℕ, length}
use Rattle.paths.specs.Paths.{most_fields}
use Rattle.conditions.specs.Conditions.{Cond, LeafC, TestC}
use Rattle.books.specs.Books.{Book}
use Rattle.books.specs.Texts.{book_text}

-- each path of a tree has at most two fields
abbrev pub HasFewFields : Cond → Type 0
HasFewFields (LeafC b) = Unit {0}
HasFewFields (TestC p a b) = (length p.fields ≤ most_fields) × HasFewFields a × HasFewFields b

-- each path of each of these trees has at most two fields
abbrev pub HaveFewFields : List Cond → Type 0
HaveFewFields [] = Unit {0}
HaveFewFields (t ∷ ts) = HasFewFields t × HaveFewFields ts

-- the text of some book, whatever its numbers, trees and heights, begins with these bytes
pub record IsFrontOfBook (bytes : List ℕ) : Type 0 where
  pub more : List ℕ
  pub book : Book
  pub few : HaveFewFields book.table
  pub whole : bytes ++ more ≡ book_text book
