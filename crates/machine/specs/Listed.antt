-- The topmost operands as a list.
use Rattle.std.specs.Prelude.{ℕ, zero, suc, List, [], ◌∷◌}
use Rattle.state.specs.declared.value.Value.{Value}
use Rattle.state.specs.Values.{top, dropped}

-- the n topmost operands, the deepest first
abbrev pub listed : ℕ → List Value → List Value
listed zero ops = []
listed (suc n) ops = top (dropped n ops) ∷ listed n ops
