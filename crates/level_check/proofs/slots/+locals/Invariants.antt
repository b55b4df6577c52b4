use Rattle.std.proofs.Common.{◌≡◌, ◌++◌, drop}
use Rattle.core_program.specs.Views.{stmts_from}
use Rattle.levels.specs.SlotTypes.{local_types_each}
use Rattle.level_check.proofs.slots.+locals.Given as goal

-- the types so far and those of the rest are those of all
abbrev pub invariant-add_each-loop-s : goal.invariant-add_each-loop-s
invariant-add_each-loop-s l = l.types.items ++ local_types_each (stmts_from (drop l.s-index l.body)) ≡ l.fn.types.items ++ local_types_each (stmts_from l.body)
