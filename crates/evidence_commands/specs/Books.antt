-- The lines for books that are refused: for a text that is none, and for a book that is wrong for a program.
use Rattle.std.specs.Prelude.{ℕ, Bool, true, false, List, ◌++◌, Option, Some, None, codes, decimal}
use Rattle.books.specs.declared.stop.BookFault.{BookFault}
use Rattle.books.specs.declared.stop.BookFault.TheVariants as faults
use Rattle.evidence_commands.specs.declared.book_lines.WrongKind.{WrongKind}
use Rattle.evidence_commands.specs.declared.book_lines.WrongKind.TheVariants as kinds
use Rattle.report.specs.Refused.{refused_at_line}

-- the line for a text that goes wrong at this byte
abbrev pub book_form_line : ℕ → List ℕ
book_form_line place = refused_at_line (codes "book") place (codes "form")

-- the line for a text with its 65th open bracket at this byte
abbrev pub too_deep_book_line : ℕ → List ℕ
too_deep_book_line place = refused_at_line (codes "book") place (codes "too deep")

-- the line for a fault; none for want of memory
abbrev pub book_fault_line : BookFault → List ℕ
book_fault_line (faults.Form place) = book_form_line place
book_fault_line (faults.TooDeep place) = too_deep_book_line place
book_fault_line faults.NoMemory = codes ""

-- whether a node is named beside the method
abbrev pub names_node : WrongKind → Bool
names_node kinds.Shape = true
names_node kinds.Step = true
names_node kinds.Table = false
names_node kinds.Bound = false
names_node kinds.Override = false

-- ` node K`, where a node is named
abbrev pub at_node : Option ℕ → List ℕ
at_node (Some node) = codes " node " ++ decimal node
at_node None = codes ""

-- the word for what is wrong with a book
abbrev pub kind_text : WrongKind → List ℕ
kind_text kinds.Shape = codes "shape"
kind_text kinds.Step = codes "step"
kind_text kinds.Table = codes "table"
kind_text kinds.Bound = codes "bound"
kind_text kinds.Override = codes "override"

-- `book refused: method M node K: KIND`, or without the node
abbrev pub wrong_book_line : ℕ → Option ℕ → WrongKind → List ℕ
wrong_book_line method node kind = codes "book refused: method " ++ decimal method ++ at_node node ++ codes ": " ++ kind_text kind ++ codes "\n"
