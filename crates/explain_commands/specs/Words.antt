-- What the words ask for, and of which files.
use Rattle.std.specs.Prelude.{◌≡◌, ◌≢◌, ℕ, List, [], ◌∷◌, ◌++◌, codes, ◌⊎◌}
use Rattle.edge.specs.Lines.{line_end}
use Rattle.explain_commands.specs.declared.words.Order.{Order}
use Rattle.explain_commands.specs.declared.words.Order.TheVariants.{Why, All, Strict}

-- what is written for words that ask for nothing
abbrev pub explain_usage_line : List ℕ
explain_usage_line = codes "usage: atomic_why FILE.. | --all FILE.. | --strict FILE.." ++ line_end

-- the word that asks for the basic of each part
abbrev pub all_word : List ℕ
all_word = codes "--all"

-- the word by which each method counts as `atomic`
abbrev pub strict_word : List ℕ
strict_word = codes "--strict"

-- one of the two
abbrev pub IsFlagWord : List ℕ → Type 0
IsFlagWord word = (word ≡ all_word) ⊎ (word ≡ strict_word)

-- none of these is one
abbrev pub HasNoFlag : List (List ℕ) → Type 0
HasNoFlag [] = Unit {0}
HasNoFlag (name ∷ names) = (IsFlagWord name → ⊥) × HasNoFlag names

-- the words ask for this of the files of these names, of which there is at least one: they are the names alone, of which none is `--all` or
-- `--strict`; or `--all` and the names; or `--strict` and the names
abbrev pub AsksForAll : List (List ℕ) → Order → List (List ℕ) → Type 0
AsksForAll words Why names = (words ≡ names) × (names ≢ []) × HasNoFlag names
AsksForAll words All names = (words ≡ all_word ∷ names) × (names ≢ [])
AsksForAll words Strict names = (words ≡ strict_word ∷ names) × (names ≢ [])

-- the words ask for this of the file of this name alone: they are the name, which is neither word; or `--all` and the name; or `--strict` and
-- the name
abbrev pub AsksFor : List (List ℕ) → Order → List ℕ → Type 0
AsksFor words Why name = (words ≡ name ∷ []) × (IsFlagWord name → ⊥)
AsksFor words All name = words ≡ all_word ∷ name ∷ []
AsksFor words Strict name = words ≡ strict_word ∷ name ∷ []

-- the words ask for nothing
abbrev pub AsksNothing : List (List ℕ) → Type 0
AsksNothing words = (order : Order) (names : List (List ℕ)) → AsksForAll words order names → ⊥
