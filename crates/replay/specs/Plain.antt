-- Plain states: what all threads share, and of each thread its status alone.
use Rattle.std.specs.Prelude.{[], map}
use Rattle.state.specs.States.{ThreadOf, Ready, Running, Done, Faulted, StateOf}

-- no frame at all
abbrev pub NoFrame : Type 0
NoFrame = ⊥

-- the status of a thread
abbrev pub PlainThread : Type 0
PlainThread = ThreadOf NoFrame

-- a heap, the held locks, the statuses of the threads by their numbers, and what was printed
abbrev pub Plain : Type 0
Plain = StateOf NoFrame

-- a thread without its frames
abbrev pub plain_thread : {F : Type 0} → ThreadOf F → PlainThread
plain_thread (Ready a m) = Ready a m
plain_thread (Running frames) = Running []
plain_thread Done = Done
plain_thread (Faulted kind frames) = Faulted kind []

-- a state without the frames of its threads
abbrev pub plain_of : {F : Type 0} → StateOf F → Plain
plain_of q = record { heap = q.heap; locks = q.locks; threads = map plain_thread q.threads; output = q.output }
