-- What it means that a log is serial, with no word about movers: an order of its lines.
use Rattle.std.specs.Prelude.{◌≡◌, ◌≢◌, ℕ, ◌+◌, ◌==◌, List, [], ◌∷◌, take, slice_get, Option, Some, None, if◌then◌else◌}
use Rattle.state.specs.declared.value.StepKind.TheVariants.{Both}
use Rattle.logs.specs.Events.{LogLine}
use Rattle.logs.specs.Judging.{events_of}
use Rattle.logs.specs.Memory.{Absent, Present, Ended, AtThread, Content, Lock, Value, Thread, Cells, content_put}
use Rattle.logs.specs.Turns.{cell_of, Turn, turn_by_content, blocks_after}

-- what stands after some lines: what cells hold, and how many blocks each thread is in
pub record Scene : Type 0 where
  pub cells : Cells
  pub depth : ℕ → ℕ

-- before the first line nobody is in a block
abbrev pub opening : Cells → Scene
opening cells = record { cells = cells; depth = λ t. 0 }

-- after a line that leaves its thread in so many blocks, and this in the line's cell
abbrev pub scene_after : Scene → LogLine → Option ℕ → Option Turn → Option Scene
scene_after s line None x = None
scene_after s line (Some d) None = None
scene_after s line (Some d) (Some x) = Some (record {
  cells = content_put (cell_of line.thread line.event) x.content s.cells;
  depth = λ u. if line.thread == u then d else s.depth u;
})

-- a thread that is there does what its line says, by what its cell holds
abbrev pub scene_at : Scene → LogLine → Content → Option Scene
scene_at s line (Lock o) = None
scene_at s line (Value v) = None
scene_at s line (Thread Absent) = None
scene_at s line (Thread Present) = scene_after s line (blocks_after line.event (s.depth line.thread)) (turn_by_content Both line.event line.thread (s.cells (cell_of line.thread line.event)))
scene_at s line (Thread Ended) = None

-- what comes of a scene
abbrev pub scene_then : Option Scene → (Scene → Option Scene) → Option Scene
scene_then None later = None
scene_then (Some s) later = later s

-- the scene after these lines; none where one of them can't be where it stands: a lock is taken that another holds, a value is seen that
-- isn't there, a thread goes on that isn't there, a block ends where none is open
abbrev pub happen : Scene → List LogLine → Option Scene
happen s [] = Some s
happen s (line ∷ lines) = scene_then (scene_at s line (s.cells (AtThread line.thread))) (λ next. happen next lines)

-- There is an order of the log's lines in which each thread's stand in their own order. From one memory both the log and that order can
-- happen: each line where it stands, each read seeing the value that it saw; and they end alike. In that order no block is interrupted: a
-- line after which its thread is in a block is followed by one of the same thread, or by none.
pub record IsSerialLog (lines : List LogLine) : Type 0 where
  pub cells : Cells
  pub end : Scene
  pub order : List LogLine
  pub own : (t : ℕ) → events_of t order ≡ events_of t lines
  pub given : happen (opening cells) lines ≡ Some end
  pub happens : happen (opening cells) order ≡ Some end
  pub uninterrupted : (place : ℕ) (a b : LogLine) (s : Scene) → slice_get order place ≡ Some a → slice_get order (place + 1) ≡ Some b →
      happen (opening cells) (take (place + 1) order) ≡ Some s → s.depth a.thread ≢ 0 → b.thread ≡ a.thread
