-- What the words ask for.
use Rattle.std.specs.Prelude.{◌≡◌, ℕ, List, [], ◌∷◌, ◌++◌, Option, Some, None, codes}
use Rattle.edge.specs.Lines.{line_end}

-- what is written for words that ask for nothing
abbrev pub witness_usage_line : List ℕ
witness_usage_line = codes "usage: atomic_witness FILE [SCHEDULE]" ++ line_end

-- the words are the names of a source and of a schedule; or that of a source, where no schedule is given
abbrev pub NamesFiles : (words : List (List ℕ)) → (source : List ℕ) → (schedule : Option (List ℕ)) → Type 0
NamesFiles words source (Some schedule) = words ≡ source ∷ schedule ∷ []
NamesFiles words source None = words ≡ source ∷ []

-- the words ask for nothing
abbrev pub NamesNoFiles : List (List ℕ) → Type 0
NamesNoFiles words = (source : List ℕ) (schedule : Option (List ℕ)) → NamesFiles words source schedule → ⊥
