-- What one entry of a schedule that interrupts no atomic call adds, by what is seen of the states before and after it.
use Rattle.std.specs.Prelude.{ℕ, ◌+◌, Bool, true, false, nat_lt, List, [], ◌∷◌, length, drop, Option, Some, None, slice_get, if◌then◌else◌}
use Rattle.core_program.specs.Core.{Program}
use Rattle.state.specs.declared.value.Address.{Address}
use Rattle.state.specs.declared.value.Value.{Value}
use Rattle.state.specs.Values.{address_of}
use Rattle.state.specs.States.{Frame, Thread, State}
use Rattle.semantics.specs.Step.{has_result}
use Rattle.semantics.specs.Run.{inside, frames_of}
use Rattle.replay.specs.Evaluation.{most_depth}
use Rattle.replay.specs.Calls.{depth, result_in}
use Rattle.replay.specs.Records.{Told}

-- an open call, and what was seen of it when it began: the number of its first entry, its thread, method and receiver, how many frames its thread had
-- before it, and how many numbers were printed
pub record Begun : Type 0 where
  pub entry : ℕ
  pub thread : ℕ
  pub method : ℕ
  pub on : Address
  pub frames : ℕ
  pub printed : ℕ

-- a method, and the receiver in its first slot
abbrev pub with_receiver : ℕ → Option Address → Option (ℕ × Address)
with_receiver m None = None
with_receiver m (Some a) = Some (m, a)

-- a method, and the receiver in the first of these slots
abbrev pub first_receiver : ℕ → List Value → Option (ℕ × Address)
first_receiver m [] = None
first_receiver m (v ∷ vs) = with_receiver m (address_of v)

-- the method and the receiver of the innermost frame
abbrev pub innermost : List Frame → Option (ℕ × Address)
innermost [] = None
innermost (f ∷ below) = first_receiver f.method f.slots

-- the method and the receiver of a thread's innermost frame
abbrev pub entered_in : Option Thread → Option (ℕ × Address)
entered_in None = None
entered_in (Some thread) = innermost (frames_of thread)

-- the call of this method and receiver, that began in this state
abbrev pub begun_in : State → (entry t : ℕ) → Option (ℕ × Address) → Option Begun
begun_in q entry t None = None
begun_in q entry t (Some call) = Some (record { entry = entry; thread = t; method = call.0; on = call.1; frames = depth (slice_get q.threads t); printed = length q.output })

-- the call that is open already, or else the one that begins
abbrev pub open_or : Option Begun → Option Begun → Option Begun
open_or None begins = begins
open_or (Some b) begins = Some b

-- what is told of a call that ended in this state
abbrev pub told_call : Program → State → Begun → Told
told_call P r b = record {
  entry = b.entry;
  thread = b.thread;
  method = b.method;
  on = b.on;
  result = result_in (has_result (slice_get P.methods b.method)) (slice_get r.threads b.thread);
  prints = drop b.printed r.output;
}

-- after an entry: a call is open or none, and this much is told more; or the call with this first entry has too many frames
pub data NextScan : Type 0 where
  Goes : Option Begun → List Told → NextScan
  Deep : ℕ → NextScan

-- a call goes on, or has more than 100 frames of its own, which is too deep
abbrev pub low_or_deep : State → Option Begun → NextScan
low_or_deep r None = Goes None []
low_or_deep r (Some b) = if nat_lt (b.frames + most_depth) (depth (slice_get r.threads b.thread)) then Deep b.entry else Goes (Some b) []

-- the open call has ended: what is told of it
abbrev pub ended_in : Program → State → Option Begun → NextScan
ended_in P r None = Goes None []
ended_in P r (Some b) = Goes None (told_call P r b ∷ [])

-- what an entry adds, by whether its thread stands inside an atomic call after it: a call begins or goes on, or it has ended
abbrev pub next_by : Program → (q r : State) → (entry t : ℕ) → Option Begun → Bool → NextScan
next_by P q r entry t open_ true = low_or_deep r (open_or open_ (begun_in q entry t (entered_in (slice_get r.threads t))))
next_by P q r entry t open_ false = ended_in P r open_

-- what the entry of this number, counted from 1, of a thread adds, where it leads from one state to another one
abbrev pub next_of : Program → (q r : State) → (entry t : ℕ) → Option Begun → NextScan
next_of P q r entry t open_ = next_by P q r entry t open_ (inside P r t)
