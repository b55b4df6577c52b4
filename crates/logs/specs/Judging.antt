-- A log is judged line by line, by what is known after the lines before.
use Rattle.std.specs.Prelude.{ℕ, Bool, false, not, ◌==◌, ◌&&◌, ◌||◌, List, [], ◌∷◌, Option, Some, None, unwrap_or, if◌then◌else◌}
use Rattle.semantics.specs.Units.{is_commit}
use Rattle.semantics.specs.Words.{fits_phase}
use Rattle.logs.specs.Events.{Event, Take, Give, Access, Start, Join, Stop, Begin, End, LogLine}
use Rattle.logs.specs.Logs.{Guard, kind_at}
use Rattle.logs.specs.Memory.{Absent, Present, Ended, SharedCell, AtLock, AtPlace, AtThread, Content, Lock, Value, Thread, eq_cell, Cells, LogMemory}
use Rattle.logs.specs.Turns.{cell_of, Turn, turn_by_content, blocks_after}

-- what is known after some lines: what cells hold, of which anything is known; for each thread how many blocks it is in, and whether the
-- outermost of these made a Left or Other step
pub record Known : Type 0 where
  pub cells : SharedCell → Option Content
  pub depth : ℕ → ℕ
  pub committed : ℕ → Bool

-- what is known before the first line
abbrev pub nothing_known : Known
nothing_known = record { cells = λ cell. None; depth = λ t. 0; committed = λ t. false }

-- what a cell held of which nothing was known before this event: a lock was free; in a place was what was seen; a thread that is started
-- wasn't there, and any other was there from the beginning
abbrev pub assumed : Event → Content
assumed (Take l) = Lock None
assumed (Give l) = Lock None
assumed (Access p seen left) = Value (unwrap_or seen [])
assumed (Start u) = Thread Absent
assumed (Join u) = Thread Present
assumed Stop = Thread Present
assumed (Begin name) = Thread Present
assumed End = Thread Present

-- what is known of cells, and this of one
abbrev pub put_known : SharedCell → Content → (SharedCell → Option Content) → SharedCell → Option Content
put_known at c cells = λ cell. if eq_cell at cell then Some c else cells cell

-- what is known of cells when a thread steps: it is there
abbrev pub with_stepper : ℕ → Known → SharedCell → Option Content
with_stepper t k = put_known (AtThread t) (Thread Present) k.cells

-- what the cell of a thread's event holds
abbrev pub cell_content : Known → ℕ → Event → Content
cell_content k t e = unwrap_or (with_stepper t k (cell_of t e)) (assumed e)

-- what locks hold, of which kinds of accesses ask: those of which nothing is known are free
abbrev pub known_locks : Known → Cells
known_locks k = λ cell. unwrap_or (k.cells cell) (Lock None)

-- what is known after a turn of a line's thread, which leaves it in so many blocks
abbrev pub known_after : Known → LogLine → ℕ → Turn → Known
known_after k line d x = record {
  cells = put_known (cell_of line.thread line.event) x.content (with_stepper line.thread k);
  depth = λ u. if line.thread == u then d else k.depth u;
  committed = λ u. if u == line.thread then not (d == 0) && (k.committed line.thread || is_commit x.kind) else k.committed u;
}

-- why a line is refused
pub data Refusal : Type 0 where
  -- its thread has ended
  HasEnded : Refusal
  -- a block ends, and none is open
  NoBlock : Refusal
  -- the event can't happen as its lock, its place or its thread is
  Impossible : Refusal
  -- with this event its block may be cut; or it is an access without its guard
  Cut : Refusal

-- a line that can be, or why it is refused
pub data Note : Type 0 where
  Goes : Known → Note
  Stops : Refusal → Note

-- a turn in its block
abbrev pub note_kind : Bool → Known → Note
note_kind fits k = if fits then Goes k else Stops Cut

abbrev pub note_turn : Known → LogLine → Option ℕ → Option Turn → Note
note_turn k line None x = Stops NoBlock
note_turn k line (Some d) None = Stops Impossible
note_turn k line (Some d) (Some x) = note_kind (fits_phase (k.committed line.thread) x.kind) (known_after k line d x)

-- the turn of a line's event, by what is known
abbrev pub event_turn : (ℕ → Guard) → Known → LogLine → Option Turn
event_turn guard k line = turn_by_content (kind_at guard (known_locks k) line.thread line.event) line.event line.thread (cell_content k line.thread line.event)

-- a thread that is there goes on
abbrev pub note_there : (ℕ → Guard) → Known → LogLine → Content → Note
note_there guard k line (Lock o) = Stops HasEnded
note_there guard k line (Value v) = Stops HasEnded
note_there guard k line (Thread Absent) = Stops HasEnded
note_there guard k line (Thread Present) = note_turn k line (blocks_after line.event (k.depth line.thread)) (event_turn guard k line)
note_there guard k line (Thread Ended) = Stops HasEnded

-- one line
abbrev pub line_noted : (ℕ → Guard) → Known → LogLine → Note
line_noted guard k line = note_there guard k line (unwrap_or (k.cells (AtThread line.thread)) (Thread Present))

-- what comes of a note
abbrev pub note_then : Note → (Known → Note) → Note
note_then (Goes k) later = later k
note_then (Stops why) later = Stops why

-- all lines, up to the first that is refused
abbrev pub judged : (ℕ → Guard) → Known → List LogLine → Note
judged guard k [] = Goes k
judged guard k (line ∷ lines) = note_then (line_noted guard k line) (λ next. judged guard next lines)

-- What it is judged of.

-- the events of a thread
abbrev pub events_of : ℕ → List LogLine → List Event
events_of t [] = []
events_of t (line ∷ lines) = if line.thread == t then line.event ∷ events_of t lines else events_of t lines

-- what a cell holds that no line is about
abbrev pub untold : SharedCell → Content
untold (AtLock l) = Lock None
untold (AtPlace p) = Value []
untold (AtThread t) = Thread Present

-- what a cell of which nothing is known holds before these lines: what the first line that is about it tells
abbrev pub first_content : SharedCell → List LogLine → Content
first_content cell [] = untold cell
first_content cell (line ∷ lines) = if eq_cell (AtThread line.thread) cell then Thread Present else (if eq_cell (cell_of line.thread line.event) cell then assumed line.event else first_content cell lines)

-- the memory before these lines
abbrev pub memory_before : Known → List LogLine → LogMemory
memory_before k lines = record {
  cells = λ cell. unwrap_or (k.cells cell) (first_content cell lines);
  own = λ t. record { depth = k.depth t; rest = events_of t lines };
}
