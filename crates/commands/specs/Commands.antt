-- Rows and statuses as the code has them.
use Rattle.std.specs.Prelude.{ℕ, map, string_bytes}
use Rattle.sources.specs.Refusals.{code_of}
use Rattle.commands.specs.declared.command.Words.{Words}
use Rattle.commands.specs.declared.status.Status.{Status}
use Rattle.commands.specs.declared.status.Status.TheVariants.{Ended, CannotRead, CannotWrite, NoMemory, Usage, TooLarge}
use Rattle.commands.specs.Rows.{Row}

-- a row of words as plain data: its command, and the bytes of the names of its files
abbrev pub row_of_words : Words → Row
row_of_words words = record { command = words.command; names = map string_bytes words.names.now }

-- the exit status
abbrev pub exit_status : Status → ℕ
exit_status (Ended ending) = code_of ending
exit_status CannotRead = 6
exit_status CannotWrite = 7
exit_status NoMemory = 8
exit_status Usage = 9
exit_status TooLarge = 10
