use Rattle.std.proofs.Common.{◌≡◌, ◌++◌, drop, reverse}
use Rattle.core_program.specs.Views.{program_of}
use Rattle.state.specs.Memory.{new_values}
use Rattle.machine.specs.Listed.{listed}
use Rattle.machine.proofs.make.values_of.Given as goal

abbrev pub invariant-loop-field : goal.invariant-loop-field
invariant-loop-field l =
    l.values.items ++ new_values (program_of l.program) (drop l.field-index l.fields) (listed l.left (reverse l.operands))
    ≡ new_values (program_of l.program) l.fields (listed l.count (reverse l.operands))
