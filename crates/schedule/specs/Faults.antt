-- Where the text of a schedule goes wrong first.
use Rattle.std.specs.Prelude.{◌≡◌, ℕ, ◌+◌, ◌^◌, ◌<◌, ◌==◌, ◌&&◌, Bool, false, not, nat_lt, nat_le, Option, None, Some, List, [], ◌∷◌, ◌++◌, length, drop, decimal, Vec, Result, Ok, Err, if◌then◌else◌}
use Rattle.std.specs.Global.{Global}
use Rattle.std.specs.Char.{is_ascii_digit}
use Rattle.std.specs.List.{take_while}
use Rattle.std.specs.Option.{option_map}
use Rattle.std.specs.Str.{bytes_eq}
use Rattle.std.specs.Str.Parse.{digits_value}
use Rattle.schedule.specs.Text.{Piece, spelled, ends_entry, IsPiece, joined, piece_count, total, BeginsWithPieces, IsSchedule}
use Rattle.schedule.specs.declared.reader.SchedFault.{SchedFault}
use Rattle.schedule.specs.declared.reader.SchedFault.TheVariants as faults

-- digits write a number from low on and below end, without a leading zero
abbrev pub writes_number : ℕ → ℕ → List ℕ → Bool
writes_number low end digits = bytes_eq (decimal (digits_value 10 digits)) digits && (nat_le low (digits_value 10 digits) && nat_lt (digits_value 10 digits) end)

-- the digits that a text begins with
abbrev pub first_digits : List ℕ → List ℕ
first_digits = take_while is_ascii_digit

-- what stands behind them
abbrev pub after_digits : List ℕ → List ℕ
after_digits text = drop (length (first_digits text)) text

-- the text begins with a `*`
abbrev pub begins_count : List ℕ → Bool
begins_count [] = false
begins_count (byte ∷ rest) = byte == 42

-- the place of the fault of a count that begins the text: at its first digit where it is out of range or has a leading zero or
-- is missing, and else at the first byte behind it that ends no entry
abbrev pub count_fault : List ℕ → Option ℕ
count_fault text =
    if not (writes_number 1 (2 ^ 64) (first_digits text)) then Some 0
    else (if ends_entry (after_digits text) then None else Some (length (first_digits text)))

-- the place of the fault of an entry that begins the text: at the first digit of a thread that is out of range or has a leading
-- zero, at the first byte where no thread begins, at the first byte behind it that goes on in no entry, or in its count
abbrev pub entry_fault : List ℕ → Option ℕ
entry_fault text =
    if not (writes_number 0 (2 ^ 32) (first_digits text)) then Some 0
    else (if ends_entry (after_digits text) then None
    else (if begins_count (after_digits text) then option_map (λ n. (length (first_digits text) + 1) + n) (count_fault (drop 1 (after_digits text)))
    else Some (length (first_digits text))))

-- the place of the fault at the front of the text, where neither a blank nor a comment nor the end stands there
abbrev pub form_fault : List ℕ → Option ℕ
form_fault text = if ends_entry text then None else entry_fault text

-- the first fault of a text is one of form, at this byte
pub record HasFormFault (text : List ℕ) (place : ℕ) : Type 0 where
  pub pieces : List Piece
  pub rest : List ℕ
  pub offset : ℕ
  pub begins : BeginsWithPieces text pieces rest
  pub fault : form_fault rest ≡ Some offset
  pub place_is : place ≡ length (joined pieces []) + offset

-- the first fault of a text is that an entry, which begins at this byte, makes the schedule longer than 200,000 steps
pub record HasLengthFault (text : List ℕ) (place : ℕ) : Type 0 where
  pub pieces : List Piece
  pub entry : Piece
  pub rest : List ℕ
  pub begins : BeginsWithPieces text pieces (spelled entry ++ rest)
  pub entry_is : IsPiece entry rest
  pub past : 200000 < total pieces + piece_count entry
  pub place_is : place ≡ length (joined pieces [])

-- what an answer of the reader says of the text
abbrev pub IsReaderAnswer : List ℕ → Result (Vec ℕ Global) SchedFault → Type 0
IsReaderAnswer text (Ok schedule) = IsSchedule text schedule.items
IsReaderAnswer text (Err (faults.Form place)) = HasFormFault text place
IsReaderAnswer text (Err (faults.TooLong place)) = HasLengthFault text place
IsReaderAnswer text (Err faults.NoMemory) = Unit {0}
