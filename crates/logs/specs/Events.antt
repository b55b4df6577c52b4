-- What a log says that the threads of a program did. Locks, places, threads and blocks have numbers; a value is a word of bytes.
use Rattle.std.specs.Prelude.{ℕ, Option, List, map}

-- a value, as its bytes
abbrev pub Word : Type 0
Word = List ℕ

-- one step of a thread
pub data Event : Type 0 where
  -- it took a lock, or took one that it has once more; it gave a lock back once
  Take : ℕ → Event
  Give : ℕ → Event
  -- it saw this value in a place, where it looked, and left that value there, where it wrote
  Access : ℕ → (seen left : Option Word) → Event
  -- it started a thread; it saw that one has ended; it ended itself
  Start : ℕ → Event
  Join : ℕ → Event
  Stop : Event
  -- a block of this name begins that means to be atomic; the innermost of the thread's blocks ends
  Begin : ℕ → Event
  End : Event

-- a line of a log: a thread and what it did
pub record LogLine : Type 0 where
  pub thread : ℕ
  pub event : Event

-- the threads of a log's lines, in order
abbrev pub order_of : List LogLine → List ℕ
order_of lines = map (λ l. l.thread) lines
