-- The first fault of a text.
use Rattle.std.specs.Prelude.{◌≡◌, ℕ, ◌-◌, List, length, Option, Some, None, Ok, Err, Result}
use Rattle.books.specs.declared.stop.Kind.{Kind}
use Rattle.books.specs.declared.stop.Kind.TheVariants as kinds
use Rattle.books.specs.declared.stop.Stop.{Stop}
use Rattle.books.specs.declared.stop.BookFault.{BookFault}
use Rattle.books.specs.declared.stop.BookFault.TheVariants as faults
use Rattle.books.specs.Combine.{Res}
use Rattle.books.specs.Reading.{book_at}

-- what a function returned, seen by view, is what reading gives
abbrev pub Gives : {X Y : Type 0} → (X → Y × List ℕ) → Result X Stop → Res Y → Type 0
Gives view (Ok x) read = read ≡ Ok (view x)
Gives view (Err e) read = read ≡ Err (e.kind, e.rest.now)

-- a fault of this kind at this byte
abbrev pub fault_at : Kind → ℕ → BookFault
fault_at kinds.Form place = faults.Form place
fault_at kinds.TooDeep place = faults.TooDeep place

-- the fault and its byte, where what is read of a text of this length has one
abbrev pub fault_of : {A : Type 0} → ℕ → Res A → Option BookFault
fault_of size (Ok y) = None
fault_of size (Err e) = Some (fault_at e.0 (size - length e.1))

-- the first fault of a text that is no book's; none of one that is
abbrev pub first_book_fault : List ℕ → Option BookFault
first_book_fault bytes = fault_of (length bytes) (book_at bytes)
