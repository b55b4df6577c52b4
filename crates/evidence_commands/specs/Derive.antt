-- `derive FILE`: judges the source and the rules, and writes the book of the least closed assignment.
use Rattle.std.specs.Prelude.{ℕ, List}
use Rattle.conditions.specs.Conditions.{Cond}
use Rattle.core_program.specs.Core.{Program}
use Rattle.books.specs.Books.{Book}
use Rattle.books.specs.Texts.{IsBookText}
use Rattle.book_check.specs.Good.{IsGoodBook}
use Rattle.derive.specs.Derived.{IsDerived}
use Rattle.rules.specs.Near.{rel_of}
use Rattle.syntax.specs.Trees.{ProgramTree}
use Rattle.sources.specs.declared.refusal.Ending.{Ending}
use Rattle.sources.specs.declared.refusal.Ending.TheVariants.{Done}
use Rattle.sources.specs.Checking.{IsWellFormedSource}
use Rattle.sources.specs.Verdicts.{IsShownLeast, NoAccepted}
use Rattle.sources.specs.Facts.{CheckFact}

-- the bytes are the text of the book that is derived from the trees of the least closed assignment, and it is good for the program
pub record IsDerivedText (P : Program) (out : List ℕ) : Type 0 where
  pub trees : List Cond
  pub least : IsShownLeast P trees
  pub book : Book
  pub derived : IsDerived P (rel_of least.sets) trees book
  pub text : IsBookText out book
  pub good : IsGoodBook P (rel_of least.sets) book

-- the line that refuses the source; or the text of an accepted one's book
pub data DeriveAnswer (file : List ℕ) : Ending → List ℕ → Type 0 where
  not_accepted : {ending : Ending} {line : List ℕ} → NoAccepted file ending line → DeriveAnswer file ending line
  derived : {out : List ℕ} (tree : ProgramTree) (P : Program) → IsWellFormedSource file tree P → IsDerivedText P out → DeriveAnswer file Done out

-- when `derive` ends how: as `check` does
abbrev pub DeriveFact : List ℕ → Ending → Type 0
DeriveFact = CheckFact
