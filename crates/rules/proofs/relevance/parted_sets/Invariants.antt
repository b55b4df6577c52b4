use Rattle.std.proofs.Common.{◌≡◌, ◌++◌, drop, map}
use Rattle.core_program.specs.Views.{method_of}
use Rattle.rules.specs.Search.{rows_of}
use Rattle.rules.specs.Limits.{parted_from}
use Rattle.rules.proofs.relevance.parted_sets.Given as goal

-- the sets so far and those of the rest are those of all
abbrev pub invariant-loop-place : goal.invariant-loop-place
invariant-loop-place l = map (λ m. record { rel = m.rel.items; loc = m.loc.items }) l.sets.items ++ parted_from (rows_of l.near) l.place (map method_of (drop l.place l.methods)) ≡ parted_from (rows_of l.near) 0 (map method_of l.methods)
