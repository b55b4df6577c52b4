-- What the words ask for.
use Rattle.std.specs.Prelude.{◌≡◌, ℕ, List, [], ◌∷◌, ◌++◌, Option, Some, None, codes}
use Rattle.edge.specs.Lines.{line_end}

-- what is written for words that ask for nothing
abbrev pub trace_usage_line : List ℕ
trace_usage_line = codes "usage: atomic_trace LOG [--guards FILE]" ++ line_end

-- the word behind which the name of a file of guards stands
abbrev pub guards_word : List ℕ
guards_word = codes "--guards"

-- the words ask for the log of this name, with the guards in a file of that name, or with guesses
abbrev pub NamesLog : List (List ℕ) → (log : List ℕ) → (guards : Option (List ℕ)) → Type 0
NamesLog words log None = words ≡ log ∷ []
NamesLog words log (Some file) = words ≡ log ∷ guards_word ∷ file ∷ []

-- the words ask for nothing
abbrev pub NamesNoLog : List (List ℕ) → Type 0
NamesNoLog words = (log : List ℕ) (guards : Option (List ℕ)) → NamesLog words log guards → ⊥
