-- The line for what is wrong with the text of a book.
use Rattle.std.specs.Prelude.{◌≡◌, ◌≢◌, ℕ, List}
use Rattle.evidence_commands.specs.Books.{book_fault_line}
use Rattle.books.specs.declared.stop.BookFault.TheVariants as faults
use Rattle.book_check.specs.Faults.{IsUnjudged}
use Rattle.book_check.specs.declared.wrong.TextWrong.{TextWrong}
use Rattle.book_check.specs.declared.wrong.TextWrong.TheVariants as text
use Rattle.sources.specs.declared.refusal.Ending.{Ending}
use Rattle.sources.specs.declared.refusal.Ending.TheVariants.{BookRefused}
use Rattle.evidence_commands.specs.Verify.{told_line}

-- what is wrong was judged, and this is its line
abbrev pub IsLineFor : TextWrong → List ℕ → Type 0
IsLineFor (text.Book fault) line = (fault ≢ faults.NoMemory) × (line ≡ book_fault_line fault)
IsLineFor (text.Wrong fault) line = (IsUnjudged fault → ⊥) × (line ≡ told_line fault)

-- the ending and the line that refuse a text with which this is wrong
abbrev pub Refuses : TextWrong → Ending → List ℕ → Type 0
Refuses why ending line = (ending ≡ BookRefused) × IsLineFor why line
