-- The entries that steps stand for.
use Rattle.std.specs.Prelude.{ℕ, ◌+◌, List, [], ◌∷◌}
use Rattle.semantics.specs.Units.{Entry}
use Rattle.serialise.specs.declared.step.Step.{Step}

-- the entry of a step at a place
abbrev pub noted_entry : ℕ → Step → Entry
noted_entry place step = record { place = place; thread = step.thread; kind = step.kind; inside = step.inside }

-- the entries of steps that stand one after the other; the first has this place
abbrev pub entries_of : ℕ → List Step → List Entry
entries_of place [] = []
entries_of place (step ∷ steps) = noted_entry place step ∷ entries_of (place + 1) steps
