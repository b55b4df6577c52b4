-- How many of a thread's frames belong to annotated methods: in so many atomic calls it stands.
use Rattle.std.specs.Prelude.{◌≡◌, ℕ, ◌+◌, ◌-◌, Bool, true, false, nat_lt, List, [], ◌∷◌, length, map, Option, Some, None, slice_get, if◌then◌else◌}
use Rattle.core_program.specs.Core.{Program}
use Rattle.state.specs.States.{Thread, State}
use Rattle.semantics.specs.Run.{is_annotated, frames_of}
use Rattle.serialise.specs.declared.calls.Frames.{Frames}

-- the methods of a thread's frames, the innermost first
abbrev pub frame_methods : Thread → List ℕ
frame_methods thread = map (λ f. f.method) (frames_of thread)

-- of a thread that may be absent
abbrev pub methods_at : Option Thread → List ℕ
methods_at None = []
methods_at (Some thread) = frame_methods thread

-- one call more, or one less, where a method is annotated
abbrev pub with_call : Bool → ℕ → ℕ
with_call true calls = calls + 1
with_call false calls = calls

-- the calls that are left when a frame goes: one less where its method is annotated
abbrev pub without_call : Bool → ℕ → ℕ
without_call true calls = calls - 1
without_call false calls = calls

-- how many of these methods are annotated
abbrev pub atomic_calls : Program → List ℕ → ℕ
atomic_calls P [] = 0
atomic_calls P (m ∷ ms) = with_call (is_annotated (slice_get P.methods m)) (atomic_calls P ms)

-- in how many atomic calls the thread of this number stands
abbrev pub atomic_call_depth : Program → State → ℕ → ℕ
atomic_call_depth P q t = atomic_calls P (methods_at (slice_get q.threads t))

-- these are the numbers of calls of each thread
abbrev pub AreCalls : Program → State → (ℕ → ℕ) → Type 0
AreCalls P q calls = (t : ℕ) → calls t ≡ atomic_call_depth P q t

-- what is seen of frames with these methods: how many they are, and the innermost one's method
abbrev pub first_method : List ℕ → Option ℕ
first_method [] = None
first_method (m ∷ ms) = Some m

-- what is seen of frames whose methods are these
abbrev pub frames_seen : List ℕ → Frames
frames_seen ms = record { count = length ms; top = first_method ms }

-- whether a method that may be missing is annotated
abbrev pub is_atomic : Program → Option ℕ → Bool
is_atomic P None = false
is_atomic P (Some m) = is_annotated (slice_get P.methods m)

-- the number of calls after a step, by what is seen of the frames before and after it
abbrev pub calls_after : Program → (before after : Frames) → ℕ → ℕ
calls_after P before after calls =
    if nat_lt before.count after.count then with_call (is_atomic P after.top) calls
    else (if nat_lt after.count before.count then without_call (is_atomic P before.top) calls else calls)
