use Rattle.std.proofs.Common.{◌≡◌, ◌+◌, ◌-◌, ◌++◌, string_bytes}
use Rattle.schedule.specs.Sources.{repeated}
use Rattle.schedule.proofs.making.write_times.Given as goal

abbrev pub invariant-loop-piece : goal.invariant-loop-piece
invariant-loop-piece l = string_bytes l.text ++ repeated (l.count - l._piece) l.piece ≡ string_bytes l.fn.text ++ repeated l.count l.piece
