-- Each word has a number, and different words have different ones.
use Rattle.std.specs.Prelude.{ℕ, zero, suc, ◌+◌, ◌*◌, List, [], ◌∷◌}

-- one number for two: the double of the second and one, doubled as often as the first says
abbrev pub paired : ℕ → ℕ → ℕ
paired zero n = 2 * n + 1
paired (suc b) n = 2 * paired b n

-- the number of a word
abbrev pub number_of_word : List ℕ → ℕ
number_of_word [] = 0
number_of_word (b ∷ bs) = paired b (number_of_word bs)
