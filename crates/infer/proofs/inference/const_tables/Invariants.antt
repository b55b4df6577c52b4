use Rattle.std.proofs.Common.{◌≡◌, ◌++◌, ◌-◌}
use Rattle.rules.specs.Near.{rel_of}
use Rattle.infer.specs.Cells.{tables_in, all_const}
use Rattle.infer.proofs.inference.const_tables.Given as goal

-- the tables so far, and then those of the methods that are left, are all
abbrev pub invariant-loop-method : goal.invariant-loop-method
invariant-loop-method l = l.tables.items ++ tables_in (rel_of l.sets) all_const l.method (l.count - l.method) ≡ tables_in (rel_of l.sets) all_const 0 l.count
