-- Books that keep the grammar and whose numbers fit, the other rules aside: what the text of one begins with.
use Rattle.std.specs.Prelude.{◌≡◌, ◌<◌, ◌≤◌, ◌^◌, ◌++◌, ℕ, suc, List, length}
use Rattle.std.specs.List.{AllByRecursion}
use Rattle.conditions.specs.Conditions.{Cond}
use Rattle.books.specs.Books.{Line, Book, HasPaths, tests_high, node_high, IsNumbered, most_nesting}
use Rattle.books.specs.Texts.{book_text}

-- a tree that isn't too high, on paths that can be written; it needn't be canonical
abbrev pub IsLooseTree : Cond → Type 0
IsLooseTree t = HasPaths t × (tests_high t ≤ most_nesting)

-- a method line whose numbers fit; the table may lack its trees, and there may be one node too many within each other
pub record IsLooseLine (line : Line) : Type 0 where
  pub id : line.id < 2 ^ 32
  pub number : line.number < 2 ^ 32
  pub numbered : IsNumbered (2 ^ 32) line.body
  pub high : node_high line.body ≤ suc most_nesting

-- a book of such trees and lines
pub record IsLooseBook (book : Book) : Type 0 where
  pub few : length book.table < 2 ^ 32
  pub trees : AllByRecursion IsLooseTree book.table
  pub lines : AllByRecursion IsLooseLine book.lines

-- the text of such a book begins with these bytes
pub record IsLooseFront (bytes : List ℕ) : Type 0 where
  pub more : List ℕ
  pub book : Book
  pub loose : IsLooseBook book
  pub whole : bytes ++ more ≡ book_text book
