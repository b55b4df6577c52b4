use Rattle.std.proofs.Common.{◌≡◌, drop}
use Rattle.explain.specs.Unguarded.{is_written}
use Rattle.explain.proofs.unguarded.is_written.Given as goal

-- what is said of the writes that are left is said of all
abbrev pub invariant-loop-write : goal.invariant-loop-write
invariant-loop-write l = is_written l.field (drop l.write-index l.writes) ≡ is_written l.field l.writes
