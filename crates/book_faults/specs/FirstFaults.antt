-- The first fault of a text that is no book's, apart from how the text is read: where a rule beside the grammar is broken, else where no
-- text goes on.
use Rattle.std.specs.Prelude.{◌≡◌, ◌⊎◌, ◌<◌, ◌+◌, ℕ, List, length, take}
use Rattle.books.specs.declared.stop.Kind.{Kind}
use Rattle.books.specs.declared.stop.Kind.TheVariants.{Form, TooDeep}
use Rattle.books.specs.Books.{Book}
use Rattle.books.specs.Texts.{IsBookText}
use Rattle.book_faults.specs.Loose.{IsLooseFront}
use Rattle.book_faults.specs.Breaks.{BreaksAt}

-- no book whose numbers fit goes on with the byte at this place; or the bytes end there, and are no book's
abbrev pub IsEndedAt : List ℕ → ℕ → Type 0
IsEndedAt bytes place = ((place < length bytes) × (IsLooseFront (take (place + 1) bytes) → ⊥)) ⊎ ((place ≡ length bytes) × ((book : Book) → IsBookText bytes book → ⊥))

-- the first fault: before it stands the front of a text, and no broken rule; at it a rule of its kind is broken, or, with Form, no text goes
-- on and no bracket is too deep
pub record IsFirstBookFault (bytes : List ℕ) (kind : Kind) (place : ℕ) : Type 0 where
  pub before : IsLooseFront (take place bytes)
  pub first : (other : Kind) (k : ℕ) → k < place → BreaksAt bytes other k → ⊥
  pub there : BreaksAt bytes kind place ⊎ ((kind ≡ Form) × (BreaksAt bytes TooDeep place → ⊥) × IsEndedAt bytes place)
