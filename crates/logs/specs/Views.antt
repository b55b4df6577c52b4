-- What the code's values stand for.
use Rattle.std.specs.Prelude.{ℕ, Option, Some, None, option_map}
use Rattle.logs.specs.Logs as logs
use Rattle.logs.specs.Memory as memory
use Rattle.logs.specs.Turns as turns
use Rattle.logs.specs.declared.memory.Cell.{Cell}
use Rattle.logs.specs.declared.memory.Cell.TheVariants as cell
use Rattle.logs.specs.declared.memory.Content.{Content}
use Rattle.logs.specs.declared.memory.Content.TheVariants as content
use Rattle.logs.specs.declared.memory.Cells.{Cells}
use Rattle.logs.specs.declared.guards.Guard.{Guard}
use Rattle.logs.specs.declared.guards.Guard.TheVariants as guard
use Rattle.logs.specs.declared.guards.Guards.{Guards}
use Rattle.logs.specs.declared.turns.Turn.{Turn}
use Rattle.logs.specs.Numbers.{number_of_word}
use Rattle.logs.specs.Tables.{value_in_table}

abbrev pub cell_data : Cell → memory.SharedCell
cell_data (cell.Lock l) = memory.AtLock (number_of_word l.now)
cell_data (cell.Place p) = memory.AtPlace (number_of_word p.now)
cell_data (cell.Thread t) = memory.AtThread (number_of_word t.now)

abbrev pub content_data : Content → memory.Content
content_data content.Free = memory.Lock None
content_data (content.Held by more) = memory.Lock (Some (record { by = number_of_word by.items; more = more }))
content_data (content.Value v) = memory.Value v.items
content_data content.Absent = memory.Thread memory.Absent
content_data content.Present = memory.Thread memory.Present
content_data content.Ended = memory.Thread memory.Ended

-- what is known of cells
abbrev pub known_cells : Cells → memory.SharedCell → Option memory.Content
known_cells cells (memory.AtLock l) = option_map content_data (value_in_table cells.locks l)
known_cells cells (memory.AtPlace p) = option_map content_data (value_in_table cells.places p)
known_cells cells (memory.AtThread t) = option_map content_data (value_in_table cells.threads t)

abbrev pub turn_data : Turn → turns.Turn
turn_data turn = record { kind = turn.kind; content = content_data turn.content }

-- a guard; nothing guards a place that has none
abbrev pub guard_data : Option Guard → logs.Guard
guard_data None = logs.Unguarded
guard_data (Some (guard.ByLock l)) = logs.ByLock (number_of_word l.items)
guard_data (Some (guard.ByThread t)) = logs.ByThread (number_of_word t.items)
guard_data (Some guard.Free) = logs.Unguarded

abbrev pub guards_data : Guards → ℕ → logs.Guard
guards_data guards p = guard_data (value_in_table guards.places p)
