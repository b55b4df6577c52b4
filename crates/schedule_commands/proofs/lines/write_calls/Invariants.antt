use Rattle.std.proofs.Common.{◌≡◌, ◌++◌, flat_map, take, string_bytes}
use Rattle.classes.specs.Views.{table_data}
use Rattle.replay.specs.Views.{record_told}
use Rattle.schedule_commands.specs.Lines.{call_line}
use Rattle.schedule_commands.proofs.lines.write_calls.Given as goal

-- what is written of the calls so far
abbrev pub invariant-loop-call : goal.invariant-loop-call
invariant-loop-call l = string_bytes l.text ≡ string_bytes l.fn.text ++ flat_map (λ c. call_line (table_data l.table) (record_told c)) (take l.call-index l.calls)
