-- Checked programs, and the judgement of a text.
use Rattle.std.specs.Prelude.{◌≡◌, ℕ, List, Result, Ok, Err, Some}
use Rattle.paths.specs.Paths.{PathData}
use Rattle.core_program.specs.Core.{Program}
use Rattle.core_program.specs.Typed.{IsTyped}
use Rattle.rules.specs.Near.{MethodPaths, AreRelevant, AreFew}
use Rattle.rules.specs.Rules.{IsAdmissible, IsAccepted}
use Rattle.books.specs.Books.{Book}
use Rattle.books.specs.Texts.{IsBookText}
use Rattle.books.specs.Faults.{first_book_fault}
use Rattle.book_check.specs.declared.wrong.TextWrong.{TextWrong}
use Rattle.book_check.specs.declared.wrong.TextWrong.TheVariants as text
use Rattle.book_check.specs.Good.{book_assignment, IsGoodBook}
use Rattle.book_check.specs.Faults.{IsUnjudged, IsWrongBook}

-- a typed program with its relevant sets, which is accepted
pub record IsChecked (P : Program) (sets : List MethodPaths) : Type 0 where
  pub typed : IsTyped P
  pub relevant : AreRelevant P sets
  pub few : AreFew sets
  pub accepted : IsAccepted P

-- what is said of a text: it is a good book's; or it is no book's, with its first fault; or it is a book's, with what is wrong first
abbrev pub IsJudgedText : Program → (ℕ → List PathData) → List ℕ → Result (Unit {0}) TextWrong → Type 0
IsJudgedText P rel bytes (Ok u) = (book : Book) × IsBookText bytes book × IsGoodBook P rel book
IsJudgedText P rel bytes (Err (text.Book fault)) = first_book_fault bytes ≡ Some fault
IsJudgedText P rel bytes (Err (text.Wrong fault)) = (book : Book) × IsBookText bytes book × IsWrongBook P rel book fault

-- the book of a text isn't judged
abbrev pub IsTextUnjudged : TextWrong → Type 0
IsTextUnjudged (text.Book fault) = ⊥
IsTextUnjudged (text.Wrong fault) = IsUnjudged fault

-- the bytes are the text of a book, and the trees of its method lines are an admissible assignment
pub record HasAdmissible (P : Program) (rel : ℕ → List PathData) (bytes : List ℕ) : Type 0 where
  pub book : Book
  pub text : IsBookText bytes book
  pub admissible : IsAdmissible P rel (book_assignment book)
