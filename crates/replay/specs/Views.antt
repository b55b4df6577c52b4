-- Calls in memory as plain data.
use Rattle.std.specs.Prelude.{◌≡◌, List, [], ◌∷◌, Option, Some, None}
use Rattle.replay.specs.Records.{Told}
use Rattle.replay.specs.Scanning as scan
use Rattle.replay.specs.declared.calls.CallRecord.{CallRecord}
use Rattle.replay.specs.declared.calls.ReplayEnd.{ReplayEnd}
use Rattle.replay.specs.declared.calls.ReplayEnd.TheVariants as ends
use Rattle.replay.specs.declared.begun.Begun.{Begun}

-- what a record tells
abbrev pub record_told : CallRecord → Told
record_told c = record { entry = c.entry; thread = c.thread; method = c.method; on = c.on; result = c.result; prints = c.prints.items }

-- what one or no record tells
abbrev pub all_told_in : Option CallRecord → List Told
all_told_in None = []
all_told_in (Some c) = record_told c ∷ []

-- an open call
abbrev pub begun_of : Begun → scan.Begun
begun_of b = record { entry = b.entry; thread = b.thread; method = b.method; on = b.on; frames = b.frames; printed = b.printed }

-- the open call, where there is one, as plain data
abbrev pub open_of : Option Begun → Option scan.Begun
open_of None = None
open_of (Some b) = Some (begun_of b)

-- why an entry is refused: its call has too many frames; of want of memory nothing is said
abbrev pub IsDeepEnd : ReplayEnd → scan.NextScan → Type 0
IsDeepEnd (ends.TooDeep entry) next = next ≡ scan.Deep entry
IsDeepEnd ends.NoMemory next = Unit {0}
