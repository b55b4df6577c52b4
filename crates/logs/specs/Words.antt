-- Words, and bytes cut at spaces.
use Rattle.std.specs.Prelude.{ℕ, Bool, not, ◌==◌, ◌&&◌, List, [], ◌∷◌, Option, Some, None, if◌then◌else◌, nat_lt, nat_le, length}
use Rattle.std.specs.List.{list_all}

-- whether a byte may stand in a word: it is no space, no control and no delete
abbrev pub is_log_word_byte : ℕ → Bool
is_log_word_byte b = nat_lt 32 b && not (b == 127)

-- whether these bytes are a word: 1 to 255 of them, each of which may stand in one
abbrev pub is_log_word : List ℕ → Bool
is_log_word w = nat_lt 0 (length w) && (nat_le (length w) 255 && list_all is_log_word_byte w)

-- the bytes before the first space, or all
abbrev pub before_space : List ℕ → List ℕ
before_space [] = []
before_space (b ∷ bs) = if b == 32 then [] else b ∷ before_space bs

-- the bytes behind the first space, where there is one
abbrev pub behind_space : List ℕ → Option (List ℕ)
behind_space [] = None
behind_space (b ∷ bs) = if b == 32 then Some bs else behind_space bs
