use Rattle.std.proofs.Common.{◌≡◌, ◌++◌, drop, string_bytes}
use Rattle.std.specs.List.{flat_map}
use Rattle.report.specs.States.{print_line}
use Rattle.report.proofs.states.write_output.Given as goal

-- the lines so far and those of the rest are those of all
abbrev pub invariant-loop-number : goal.invariant-loop-number
invariant-loop-number l = string_bytes l.text ++ flat_map print_line (drop l.number-index l.output) ≡ string_bytes l.fn.text ++ flat_map print_line l.output
