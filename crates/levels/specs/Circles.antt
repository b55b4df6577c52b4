-- Circles of threads, each of which waits for a lock that the next one holds.
use Rattle.std.specs.Prelude.{ℕ, List, [], ◌∷◌}
use Rattle.state.specs.declared.value.Address.{Address}
use Rattle.state.specs.States.{State}
use Rattle.semantics.specs.Waiting.{WaitsFor}

-- the first thread waits for a lock that the next one holds, and so on up to the last
abbrev pub IsChain : State → ℕ → List ℕ → ℕ → Type 0
IsChain q t [] last = (a : Address) × WaitsFor q t a last
IsChain q t (u ∷ us) last = (a : Address) × WaitsFor q t a u × IsChain q u us last

-- at least two threads in a row, and the last waits for a lock that the first holds
pub record Circle (q : State) : Type 0 where
  pub first : ℕ
  pub second : ℕ
  pub others : List ℕ
  pub waits : IsChain q first (second ∷ others) first
