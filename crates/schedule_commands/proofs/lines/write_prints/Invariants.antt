use Rattle.std.proofs.Common.{◌≡◌, ◌++◌, flat_map, take, string_bytes}
use Rattle.schedule_commands.specs.Lines.{prints_text}
use Rattle.schedule_commands.proofs.lines.write_prints.Given as goal

-- what is written of the numbers so far
abbrev pub invariant-loop-number : goal.invariant-loop-number
invariant-loop-number l = string_bytes l.text ≡ string_bytes l.fn.text ++ flat_map prints_text (take l.number-index l.prints)
