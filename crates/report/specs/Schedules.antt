-- The lines for schedules: for a text that is none, for one that stops, and for one that ends inside an atomic call.
use Rattle.std.specs.Prelude.{ℕ, List, ◌++◌, codes, decimal}
use Rattle.schedule.specs.declared.reader.SchedFault.{SchedFault}
use Rattle.schedule.specs.declared.reader.SchedFault.TheVariants as schedule
use Rattle.machine.specs.declared.deed.StepEnd.{StepEnd}
use Rattle.machine.specs.declared.deed.StepEnd.TheVariants as ends
use Rattle.machine.specs.declared.machine.Stopped.{Stopped}
use Rattle.report.specs.Refused.{refused_at_line}
use Rattle.report.specs.States.{address_text, fault_text}

-- the line for a text that goes wrong at this byte
abbrev pub schedule_form_line : ℕ → List ℕ
schedule_form_line place = refused_at_line (codes "schedule") place (codes "form")

-- the line for a text of which the entry at this byte makes the schedule too long
abbrev pub too_long_line : ℕ → List ℕ
too_long_line place = refused_at_line (codes "schedule") place (codes "too long")

-- the line for a fault; none for want of memory
abbrev pub schedule_fault_line : SchedFault → List ℕ
schedule_fault_line (schedule.Form place) = schedule_form_line place
schedule_fault_line (schedule.TooLong place) = too_long_line place
schedule_fault_line schedule.NoMemory = codes ""

-- why a thread has no step; nothing for want of memory
abbrev pub reason_text : StepEnd → List ℕ
reason_text ends.Absent = codes "is absent"
reason_text ends.Done = codes "is done"
reason_text (ends.Faulted kind) = codes "is faulted " ++ fault_text kind
reason_text (ends.Waits address holder) = codes "waits for " ++ address_text address ++ codes " held by " ++ decimal holder
reason_text ends.NoMemory = codes ""

-- `entry K: thread T R`
abbrev pub stopped_line : Stopped → List ℕ
stopped_line stopped = codes "entry " ++ decimal stopped.entry ++ codes ": thread " ++ decimal stopped.thread ++ codes " " ++ reason_text stopped.why ++ codes "\n"

-- `thread T is inside an atomic call`
abbrev pub inside_call_line : ℕ → List ℕ
inside_call_line thread = codes "thread " ++ decimal thread ++ codes " is inside an atomic call" ++ codes "\n"
