-- What an event asks of its cell, and what it leaves there.
use Rattle.std.specs.Prelude.{ℕ, zero, suc, Bool, true, ◌==◌, Option, Some, None}
use Rattle.std.specs.Str.{bytes_eq}
use Rattle.state.specs.declared.value.StepKind.{StepKind}
use Rattle.state.specs.declared.value.StepKind.TheVariants.{Both, Right, Left}
use Rattle.logs.specs.Events.{Word, Event, Take, Give, Access, Start, Join, Stop, Begin, End}
use Rattle.logs.specs.Memory.{Absent, Present, Ended, SharedCell, AtLock, AtPlace, AtThread, Content, Lock, Value, Thread}

-- the cell of a thread's event: its own where it only begins or ends something
abbrev pub cell_of : ℕ → Event → SharedCell
cell_of t (Take l) = AtLock l
cell_of t (Give l) = AtLock l
cell_of t (Access p seen left) = AtPlace p
cell_of t (Start u) = AtThread u
cell_of t (Join u) = AtThread u
cell_of t Stop = AtThread t
cell_of t (Begin name) = AtThread t
cell_of t End = AtThread t

-- an event that can happen: its kind, and what it leaves in its cell
pub record Turn : Type 0 where
  pub kind : StepKind
  pub content : Content

-- a turn under a test
abbrev pub only_if : Bool → Turn → Option Turn
only_if true x = Some x
only_if _ x = None

-- a lock that is free is taken, which moves right; its holder may take it once more
abbrev pub take_turn : ℕ → Content → Option Turn
take_turn t (Lock None) = Some (record { kind = Right; content = Lock (Some (record { by = t; more = 0 })) })
take_turn t (Lock (Some h)) = only_if (h.by == t) (record { kind = Both; content = Lock (Some (record { by = t; more = suc h.more })) })
take_turn t (Value v) = None
take_turn t (Thread p) = None

-- the turn of a holder that took a lock so often more: the last give moves left
abbrev pub turn_of_holder : ℕ → ℕ → Turn
turn_of_holder t zero = record { kind = Left; content = Lock None }
turn_of_holder t (suc more) = record { kind = Both; content = Lock (Some (record { by = t; more = more })) }

-- a lock is given back by its holder
abbrev pub give_turn : ℕ → Content → Option Turn
give_turn t (Lock None) = None
give_turn t (Lock (Some h)) = only_if (h.by == t) (turn_of_holder t h.more)
give_turn t (Value v) = None
give_turn t (Thread p) = None

-- whether what was seen is what is there
abbrev pub saw_content : Option Word → Word → Bool
saw_content None v = true
saw_content (Some w) v = bytes_eq w v

-- what is left in a place
abbrev pub left_in : Option Word → Word → Word
left_in None v = v
left_in (Some w) v = w

-- an access of this kind sees what is there
abbrev pub access_turn : StepKind → (seen left : Option Word) → Content → Option Turn
access_turn kind seen left (Lock o) = None
access_turn kind seen left (Value v) = only_if (saw_content seen v) (record { kind = kind; content = Value (left_in left v) })
access_turn kind seen left (Thread p) = None

-- a thread that isn't there is started, which moves left
abbrev pub start_turn : Content → Option Turn
start_turn (Lock o) = None
start_turn (Value v) = None
start_turn (Thread Absent) = Some (record { kind = Left; content = Thread Present })
start_turn (Thread Present) = None
start_turn (Thread Ended) = None

-- a thread that has ended is joined, which moves right
abbrev pub join_turn : Content → Option Turn
join_turn (Lock o) = None
join_turn (Value v) = None
join_turn (Thread Absent) = None
join_turn (Thread Present) = None
join_turn (Thread Ended) = Some (record { kind = Right; content = Thread Ended })

-- a thread that is there goes on, or ends
abbrev pub own_turn : Turn → Content → Option Turn
own_turn x (Lock o) = None
own_turn x (Value v) = None
own_turn x (Thread Absent) = None
own_turn x (Thread Present) = Some x
own_turn x (Thread Ended) = None

-- the turn of a thread's event, by what its cell holds; an access is of the given kind
abbrev pub turn_by_content : StepKind → Event → ℕ → Content → Option Turn
turn_by_content kind (Take l) t c = take_turn t c
turn_by_content kind (Give l) t c = give_turn t c
turn_by_content kind (Access p seen left) t c = access_turn kind seen left c
turn_by_content kind (Start u) t c = start_turn c
turn_by_content kind (Join u) t c = join_turn c
turn_by_content kind Stop t c = own_turn (record { kind = Left; content = Thread Ended }) c
turn_by_content kind (Begin name) t c = own_turn (record { kind = Both; content = Thread Present }) c
turn_by_content kind End t c = own_turn (record { kind = Both; content = Thread Present }) c

-- how many blocks a thread is in after an event; none where no block is open that could end
abbrev pub blocks_after : Event → ℕ → Option ℕ
blocks_after (Take l) d = Some d
blocks_after (Give l) d = Some d
blocks_after (Access p seen left) d = Some d
blocks_after (Start u) d = Some d
blocks_after (Join u) d = Some d
blocks_after Stop d = Some d
blocks_after (Begin name) d = Some (suc d)
blocks_after End zero = None
blocks_after End (suc d) = Some d
