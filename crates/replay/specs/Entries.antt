-- Statuses of threads in memory.
use Rattle.std.specs.Prelude.{[]}
use Rattle.state.specs.States.{Ready, Running, Done, Faulted}
use Rattle.replay.specs.Plain.{PlainThread}
use Rattle.replay.specs.declared.plain.PlainEntry.{PlainEntry}
use Rattle.replay.specs.declared.plain.PlainEntry.TheVariants as entry

-- a status as plain data
abbrev pub plain_thread_of : PlainEntry → PlainThread
plain_thread_of (entry.Ready a m) = Ready a m
plain_thread_of entry.Running = Running []
plain_thread_of entry.Done = Done
plain_thread_of (entry.Faulted kind) = Faulted kind []
