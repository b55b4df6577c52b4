-- What a thread's turn asks of what all threads share, and what the answer is: with the same answer it comes to the same.
use Rattle.std.specs.Prelude.{◌≡◌, ℕ, true, false, ◌==◌, List, ◌∷◌, length, Option, Some, None, is_some, slice_get, if◌then◌else◌}
use Rattle.core_program.specs.Core.{Program, Method}
use Rattle.state.specs.declared.value.Address.{Address}
use Rattle.state.specs.declared.value.Value.{Value}
use Rattle.state.specs.Values.{top, under, dropped, address_of}
use Rattle.state.specs.Memory.{Hold}
use Rattle.state.specs.Work as W
use Rattle.state.specs.Work.{Action, Next, unfolded}
use Rattle.state.specs.States.{Thread, Running}
use Rattle.semantics.specs.Step.{Shared, object_class, value_at, access_kind}

-- at most one thing: a field that is read or written, the number of the thread's objects, a lock that is taken or given back,
-- the class of an object, whose method is called or whose `run` is started
pub data Ask : Type 0 where
  Alone : Ask
  Reads : Address → ℕ → Ask
  Writes : Address → ℕ → Ask
  Counts : Ask
  Takes : Address → Ask
  Gives : Address → Ask
  Runs : Address → Ask

-- what is asked of an operand's address; nothing of one that has none
abbrev pub asks_at : (Address → Ask) → Option Address → Ask
asks_at ask None = Alone
asks_at ask (Some a) = ask a

-- what a call of a method asks, with these operands; nothing where the method isn't there
abbrev pub call_asks : List Value → Option Method → Ask
call_asks operands None = Alone
call_asks operands (Some method) = asks_at Runs (address_of (top (dropped (length method.params) operands)))

-- what an action asks, with these operands
abbrev pub act_asks : Program → List Value → Action → Ask
act_asks P operands (W.Get x) = asks_at (λ a. Reads a x) (address_of (top operands))
act_asks P operands (W.Put x) = asks_at (λ a. Writes a x) (address_of (top (under operands)))
act_asks P operands (W.New c) = Counts
act_asks P operands (W.Acquire s) = asks_at Takes (address_of (top operands))
act_asks P operands (W.Release a) = Gives a
act_asks P operands (W.Call m) = call_asks operands (slice_get P.methods m)
act_asks P operands W.Start = asks_at Runs (address_of (top operands))
act_asks P operands _ = Alone

-- what the next action asks, where there is one
abbrev pub next_asks : Program → List Value → Option Next → Ask
next_asks P operands None = Alone
next_asks P operands (Some next) = act_asks P operands next.0

-- what a thread's turn asks
abbrev pub asks : Program → Option Thread → Ask
asks P (Some (Running (f ∷ below))) = next_asks P f.operands (unfolded f.work)
asks P _ = Alone

-- a hold of this thread; a free lock and another's look alike to who gives one back
abbrev pub mine : ℕ → Option Hold → Option Hold
mine t None = None
mine t (Some hold) = if hold.holder == t then Some hold else None

-- what is asked looks the same: the value that is read, whether there is one that is written, and the kinds of the accesses
abbrev pub LooksSame : Program → ℕ → (see other : Shared) → Ask → Type 0
LooksSame P t see other Alone = Unit {0}
LooksSame P t see other (Reads a x) = (value_at P see t a x ≡ value_at P other t a x) × (access_kind P see t false a (slice_get P.fields x) ≡ access_kind P other t false a (slice_get P.fields x))
LooksSame P t see other (Writes a x) = (is_some (value_at P see t a x) ≡ is_some (value_at P other t a x)) × (access_kind P see t true a (slice_get P.fields x) ≡ access_kind P other t true a (slice_get P.fields x))
LooksSame P t see other Counts = see.made ≡ other.made
LooksSame P t see other (Takes a) = see.lock_at a ≡ other.lock_at a
LooksSame P t see other (Gives a) = mine t (see.lock_at a) ≡ mine t (other.lock_at a)
LooksSame P t see other (Runs a) = object_class (see.object_at a) ≡ object_class (other.object_at a)
