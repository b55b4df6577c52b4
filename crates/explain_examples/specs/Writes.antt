-- Writes of fields that nothing guards.
use Rattle.std.specs.Prelude.{ℕ}
use Rattle.explain.specs.declared.unguarded.BareWrite.{BareWrite}

-- by this method, at this node, of this field
abbrev pub written_by : ℕ → ℕ → ℕ → BareWrite
written_by m node f = record { method = m; node = node; field = f }
