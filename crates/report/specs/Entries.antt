-- The entries of a thread and at an address, as the code writes their lines.
use Rattle.std.specs.Prelude.{ℕ, ◌==◌, List, [], ◌∷◌, Option, Some, None}
use Rattle.std.specs.List.{filter}
use Rattle.state.specs.declared.value.Address.{Address}

-- the entries of a thread
abbrev pub of_thread : {A : Type 0} → ℕ → List (Address × A) → List (Address × A)
of_thread t entries = filter (λ e. e.0.thread == t) entries

-- the entry at an address, where something is there
abbrev pub entry_if_there : {A : Type 0} → Address → Option A → List (Address × A)
entry_if_there a None = []
entry_if_there a (Some v) = (a, v) ∷ []
