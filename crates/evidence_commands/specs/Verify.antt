-- `verify FILE BOOK`: judges the source, without the rules of atomicity, and then the book, whoever wrote it.
use Rattle.std.specs.Prelude.{◌≡◌, ℕ, List, [], ◌∷◌, ◌++◌, Some, None, codes}
use Rattle.evidence_commands.specs.Books.{book_form_line, too_deep_book_line, wrong_book_line}
use Rattle.evidence_commands.specs.declared.book_lines.WrongKind.TheVariants as kinds
use Rattle.core_program.specs.Core.{Program}
use Rattle.books.specs.Books.{Book}
use Rattle.books.specs.Faults.{first_book_fault}
use Rattle.books.specs.Texts.{IsBookText}
use Rattle.books.specs.declared.stop.BookFault.TheVariants as faults
use Rattle.book_check.specs.Faults.{IsUnjudged, IsWrongBook}
use Rattle.book_check.specs.Good.{IsGoodBook}
use Rattle.book_check.specs.declared.wrong.Wrong.{Wrong}
use Rattle.book_check.specs.declared.wrong.Wrong.TheVariants as wrong
use Rattle.rules.specs.Near.{MethodPaths, AreRelevant, rel_of}
use Rattle.rules.specs.Rules.{IsAccepted}
use Rattle.syntax.specs.Trees.{ProgramTree}
use Rattle.sources.specs.declared.refusal.Ending.{Ending}
use Rattle.sources.specs.declared.refusal.Ending.TheVariants as ending
use Rattle.sources.specs.Checking.{IsWellFormedSource, NoSource}
use Rattle.sources.specs.Facts.{IsNotWellFormed}

-- what is written where the book is good
abbrev pub verified_book_line : List ℕ
verified_book_line = codes "verified" ++ 10 ∷ []

-- the bytes are the text of a book that is good for the program
pub record HasGoodBook (P : Program) (bytes : List ℕ) : Type 0 where
  pub sets : List MethodPaths
  pub relevant : AreRelevant P sets
  pub book : Book
  pub text : IsBookText bytes book
  pub good : IsGoodBook P (rel_of sets) book

-- the line for what is wrong with a book first; none where it isn't judged
abbrev pub told_line : Wrong → List ℕ
told_line (wrong.Shape method node) = wrong_book_line method (Some node) kinds.Shape
told_line (wrong.Step method node) = wrong_book_line method (Some node) kinds.Step
told_line (wrong.Table method) = wrong_book_line method None kinds.Table
told_line (wrong.Bound method) = wrong_book_line method None kinds.Bound
told_line (wrong.Override method) = wrong_book_line method None kinds.Override
told_line wrong.Memory = codes ""
told_line wrong.Work = codes ""

-- the line that refuses bytes for a program: the first fault of a text that is no book's, or what is wrong with its book first
pub data NoBook (P : Program) (bytes : List ℕ) : Ending → List ℕ → Type 0 where
  form : (place : ℕ) → first_book_fault bytes ≡ Some (faults.Form place) → NoBook P bytes ending.BookRefused (book_form_line place)
  too_deep : (place : ℕ) → first_book_fault bytes ≡ Some (faults.TooDeep place) → NoBook P bytes ending.BookRefused (too_deep_book_line place)
  wrong_first : (sets : List MethodPaths) (book : Book) (fault : Wrong) → AreRelevant P sets → IsBookText bytes book
      → IsWrongBook P (rel_of sets) book fault → (IsUnjudged fault → ⊥) → NoBook P bytes ending.BookRefused (told_line fault)

-- the line that refuses the source, else the book; or what is written where the book is good, and so the source accepted
pub data VerifyAnswer (file bytes : List ℕ) : Ending → List ℕ → Type 0 where
  no_source : {ending : Ending} {line : List ℕ} → NoSource file ending line → VerifyAnswer file bytes ending line
  no_book : {ending : Ending} {line : List ℕ} (tree : ProgramTree) (P : Program) → IsWellFormedSource file tree P → (HasGoodBook P bytes → ⊥) → NoBook P bytes ending line
      → VerifyAnswer file bytes ending line
  verified : (tree : ProgramTree) (P : Program) → IsWellFormedSource file tree P → IsAccepted P → HasGoodBook P bytes → VerifyAnswer file bytes ending.Done verified_book_line

-- when `verify` ends how
abbrev pub VerifyFact : List ℕ → List ℕ → Ending → Type 0
VerifyFact file bytes ending.Refused = IsNotWellFormed file
VerifyFact file bytes ending.BookRefused = (tree : ProgramTree) × (P : Program) × IsWellFormedSource file tree P × (HasGoodBook P bytes → ⊥)
VerifyFact file bytes ending.Done = (tree : ProgramTree) × (P : Program) × IsWellFormedSource file tree P × IsAccepted P × HasGoodBook P bytes
VerifyFact file bytes _ = ⊥
