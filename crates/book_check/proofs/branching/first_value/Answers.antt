-- The first node's conclusion.
use Rattle.std.proofs.Common.{ap, map}
use Rattle.conditions.specs.Conditions.{cond_of}
use Rattle.book_check.specs.Conclusions.{conclusions, table_value}
use Rattle.book_check.proofs.branching.first_value.Goals as goal

pub returns-clause-value : goal.returns-clause-value
returns-clause-value g c = record {
  first = c.in_ok-first.first.number;
  are = ap (conclusions (table_value (map cond_of c.args.table.now))) c.in_ok-first.ensures.some;
  value = c.in_ok-value.ensures;
}
