-- The lines of `replay`.
use Rattle.std.specs.Prelude.{ℕ, ℤ, List, ◌++◌, Option, Some, None, codes, decimal}
use Rattle.std.specs.Fmt.{signed_decimal}
use Rattle.std.specs.List.{flat_map}
use Rattle.classes.specs.Table.{TableData}
use Rattle.replay.specs.Records.{Told}
use Rattle.report.specs.Verdicts.{title_text}
use Rattle.state.specs.declared.value.Value.{Value}
use Rattle.report.specs.States.{address_text, value_text}

-- the result of a call, or `void`
abbrev pub result_text : Option Value → List ℕ
result_text None = codes "void"
result_text (Some v) = value_text v

-- ` prints N`
abbrev pub prints_text : ℤ → List ℕ
prints_text n = codes " prints " ++ signed_decimal n

-- `call K thread T`
abbrev pub entry_text : Told → List ℕ
entry_text call = codes "call " ++ decimal call.entry ++ codes " thread " ++ decimal call.thread

-- ` C.m on A`
abbrev pub asked_text : TableData → Told → List ℕ
asked_text table call = codes " " ++ title_text table call.method ++ codes " on " ++ address_text call.on

-- ` gives V`, and ` prints N` for each number that the call printed
abbrev pub given_text : Told → List ℕ
given_text call = codes " gives " ++ result_text call.result ++ flat_map prints_text call.prints

-- `call K thread T C.m on A gives V`, and what it printed
abbrev pub call_line : TableData → Told → List ℕ
call_line table call = entry_text call ++ asked_text table call ++ given_text call ++ codes "\n"

-- a line for each call
abbrev pub calls_text : TableData → List Told → List ℕ
calls_text table calls = flat_map (call_line table) calls

-- `entry K: call is too deep`
abbrev pub too_deep_call_line : ℕ → List ℕ
too_deep_call_line entry = codes "entry " ++ decimal entry ++ codes ": call is too deep" ++ codes "\n"
