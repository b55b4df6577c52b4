-- Examples of logs: two threads count under a lock.
use Rattle.std.specs.Prelude.{ℕ, zero, suc, List, [], ◌∷◌, ◌++◌, Option, Some, None}
use Rattle.logs.specs.Events.{Word, Event, Take, Give, Access, Begin, End, LogLine}
use Rattle.logs.specs.Judging.{Refusal, Note, Goes, Stops}
use Rattle.logs.specs.Logs.{Guard, ByLock, Unguarded}

-- why a judge stops, where it does
abbrev pub refusal_of_note : Note → Option Refusal
refusal_of_note (Goes k) = None
refusal_of_note (Stops why) = Some why

abbrev pub line : ℕ → Event → LogLine
line t e = record { thread = t; event = e }

-- the counter is place 0, and lock 0 guards it
abbrev pub counter_guard : ℕ → Guard
counter_guard zero = ByLock 0
counter_guard (suc p) = Unguarded

-- the steps by which a thread counts from one value to the next, under the lock
abbrev pub counts : ℕ → (from to : Word) → List LogLine
counts t from to = line t (Take 0) ∷ line t (Access 0 (Some from) None) ∷ line t (Access 0 None (Some to)) ∷ line t (Give 0) ∷ []

-- thread 0 counts in a block; thread 1 writes a place that nothing guards in between, and counts then
abbrev pub counter_log : List LogLine
counter_log = line 0 (Begin 0) ∷ line 0 (Take 0) ∷ line 1 (Access 1 None (Some (7 ∷ []))) ∷ line 0 (Access 0 (Some (0 ∷ [])) (Some (1 ∷ []))) ∷ line 0 (Give 0) ∷ line 0 End ∷ counts 1 (1 ∷ []) (2 ∷ [])

-- a block that takes the lock twice, and another thread in between
abbrev pub lock_taken_twice : List LogLine
lock_taken_twice = line 0 (Begin 0) ∷ counts 0 (0 ∷ []) (1 ∷ []) ++ counts 1 (1 ∷ []) (2 ∷ []) ++ counts 0 (2 ∷ []) (3 ∷ []) ++ line 0 End ∷ []

-- a read of a value that isn't there
abbrev pub stale : List LogLine
stale = counts 0 (0 ∷ []) (1 ∷ []) ++ counts 1 (0 ∷ []) (1 ∷ [])
