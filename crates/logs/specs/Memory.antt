-- What the threads of a log share, and what is each one's own.
use Rattle.std.specs.Prelude.{ℕ, Bool, false, ◌==◌, Option, List, if◌then◌else◌}
use Rattle.logs.specs.Events.{Word, Event}

-- a lock that is held: by which thread, and how often it was taken once more
pub record LogHold : Type 0 where
  pub by : ℕ
  pub more : ℕ

-- whether a thread isn't there yet, is there, or has ended
pub data Presence : Type 0 where
  Absent : Presence
  Present : Presence
  Ended : Presence

-- what threads share is cells: locks, places, and who is there
pub data SharedCell : Type 0 where
  AtLock : ℕ → SharedCell
  AtPlace : ℕ → SharedCell
  AtThread : ℕ → SharedCell

-- what a cell holds
pub data Content : Type 0 where
  Lock : Option LogHold → Content
  Value : Word → Content
  Thread : Presence → Content

-- whether two cells are the same
abbrev pub eq_cell : SharedCell → SharedCell → Bool
eq_cell (AtLock l) (AtLock m) = l == m
eq_cell (AtPlace l) (AtPlace m) = l == m
eq_cell (AtThread l) (AtThread m) = l == m
eq_cell (AtLock l) (AtPlace m) = false
eq_cell (AtLock l) (AtThread m) = false
eq_cell (AtPlace l) (AtLock m) = false
eq_cell (AtPlace l) (AtThread m) = false
eq_cell (AtThread l) (AtLock m) = false
eq_cell (AtThread l) (AtPlace m) = false

-- all cells
abbrev pub Cells : Type 0
Cells = SharedCell → Content

-- the cells, with this content in this one
abbrev pub content_put : SharedCell → Content → Cells → Cells
content_put at c cells = λ cell. if eq_cell at cell then c else cells cell

-- what is a thread's own: how many blocks it is in, and what the log says that it does from now on
pub record Own : Type 0 where
  pub depth : ℕ
  pub rest : List Event

-- the own of all threads, with this for one of them
abbrev pub put_own : ℕ → Own → (ℕ → Own) → ℕ → Own
put_own t o owns = λ u. if t == u then o else owns u

pub record LogMemory : Type 0 where
  pub cells : Cells
  pub own : ℕ → Own
