use Rattle.std.proofs.Common.{◌≡◌, ℕ}
use Rattle.classes.specs.Jumps.{jump_at}
use Rattle.classes.specs.Table.{is_of_kind}
use Rattle.classes.specs.Views.{table_data}
use Rattle.classes.proofs.entries.ClassTable.risen.Given as goal

abbrev pub invariant-loop : goal.invariant-loop
invariant-loop l = (other : ℕ) → l.depth ≡ (jump_at l.jumps other).depth → is_of_kind (table_data l.self) l.at other ≡ is_of_kind (table_data l.self) l.fn.class other
