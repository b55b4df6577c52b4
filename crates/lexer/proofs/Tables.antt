-- The table of the bytes that words go on with holds what it is to hold.
use Rattle.std.proofs.Common.{◌≡◌, ℕ, ◌+◌, ◌<◌, ◌==◌, Bool, true, false, get_or, map, refl, ap, ◌∙◌, arith}
use Rattle.std.specs.List.{range_with_len}
use Rattle.std.proofs.lemmas.List.FromFn.{get_or-map-range_with_len}
use Rattle.lexer.specs.declared.pieces.TheConstants.{WORD_BYTES}
use Rattle.lexer.specs.Pieces.{is_word_byte}

-- how a table writes the answer of a test
abbrev bit : Bool → ℕ
bit true = 1
bit false = 0

bit_is : (b : Bool) → (bit b == 1) ≡ b
bit_is true = refl
bit_is false = refl

table_is : WORD_BYTES ≡ map (λ c. bit (is_word_byte c)) (range_with_len 0 256)
table_is = refl

pub word_byte_is : (c : ℕ) → c < 256 → (get_or WORD_BYTES c 0 == 1) ≡ is_word_byte c
word_byte_is c below =
    let i : 0 + c ≡ c = omega arith in
    ap (λ xs. get_or xs c 0 == 1) table_is ∙ ap (λ n. n == 1) (get_or-map-range_with_len (λ b. bit (is_word_byte b)) 0 256 c c 0 below i)
    ∙ bit_is (is_word_byte c)
