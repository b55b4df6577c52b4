use Rattle.std.proofs.Common.{map}
use Rattle.core_program.specs.Views.{program_of}
use Rattle.books.specs.Memory.{method_line_of}
use Rattle.rules.specs.Near.{rel_of}
use Rattle.derive.specs.Bases.{own_trees}
use Rattle.derive.specs.Lines.{AreLinesOf}
use Rattle.derive.specs.Pools.{pool_table, IsPool}
use Rattle.derive.proofs.derive_book.lines.Given as goal

-- the lines of the methods before this one
abbrev pub invariant-loop-m : goal.invariant-loop-m
invariant-loop-m l = record {
  pool : IsPool l.table l.pool;
  lines : AreLinesOf (program_of l.basis.program.now) (rel_of l.basis.sets.now) (own_trees l.basis) l.m (pool_table l.pool) (map method_line_of l.lines.items);
}
