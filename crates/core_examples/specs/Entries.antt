-- Entries of runs.
use Rattle.std.specs.Prelude.{ℕ, Bool}
use Rattle.state.specs.declared.value.StepKind.{StepKind}
use Rattle.semantics.specs.Units.{Entry}

-- the entry at a place, of a thread, with a step of this kind; and whether the thread stands inside an atomic call after it
abbrev pub entry_at : (place thread : ℕ) → StepKind → Bool → Entry
entry_at place thread kind inside = record { place = place; thread = thread; kind = kind; inside = inside }
