-- The text of a state: a line for each printed number, each object, each held lock and each thread.
-- A class, field or method that the table hasn't is written as nothing, so that the text is defined for all states.
use Rattle.std.specs.Prelude.{ℕ, ◌+◌, ℤ, true, false, List, [], ◌∷◌, ◌++◌, map, length, Option, option_map, slice_get, unwrap_or, codes, decimal}
use Rattle.std.specs.Fmt.{signed_decimal}
use Rattle.std.specs.List.{flat_map}
use Rattle.std.specs.FinMap as finite
use Rattle.classes.specs.Table.{TableData}
use Rattle.core_program.specs.Core.{Program}
use Rattle.report.specs.Verdicts.{title_text, field_text}
use Rattle.state.specs.declared.value.Address.{Address}
use Rattle.state.specs.declared.value.Fault.{Fault}
use Rattle.state.specs.declared.value.Fault.TheVariants as fault
use Rattle.state.specs.declared.value.ThreadState.{ThreadState}
use Rattle.state.specs.declared.value.ThreadState.TheVariants as status
use Rattle.state.specs.declared.value.Value.{Value}
use Rattle.state.specs.declared.value.Value.TheVariants.{Int, Truth, Null, Ref}
use Rattle.state.specs.Frames.{frames_in, top_frame, thread_status}
use Rattle.state.specs.Memory.{Object, Hold}
use Rattle.state.specs.States.{ThreadOf, StateOf, State, fields_of}

-- an address: `THREAD:COUNT`
abbrev pub address_text : Address → List ℕ
address_text a = decimal a.thread ++ codes ":" ++ decimal a.count

-- a value: a number, `true`, `false`, `null` or an address
abbrev pub value_text : Value → List ℕ
value_text (Int n) = signed_decimal n
value_text (Truth true) = codes "true"
value_text (Truth false) = codes "false"
value_text Null = codes "null"
value_text (Ref a) = address_text a

-- why a thread faulted
abbrev pub fault_text : Fault → List ℕ
fault_text fault.Null = codes "null"
fault_text fault.Zero = codes "zero"
fault_text fault.Depth = codes "depth"

-- the name of a class
abbrev pub class_text : TableData → ℕ → List ℕ
class_text table class = unwrap_or (slice_get table.names class) []

-- `print N`
abbrev pub print_line : ℤ → List ℕ
print_line n = codes "print " ++ signed_decimal n ++ codes "\n"

-- ` F=V`
abbrev pub field_value_text : TableData → ℕ → Value → List ℕ
field_value_text table field v = codes " " ++ field_text table field ++ codes "=" ++ value_text v

-- the same for each of these fields, with these values
abbrev pub field_values_text : TableData → List ℕ → List Value → List ℕ
field_values_text table [] values = []
field_values_text table (field ∷ fields) [] = []
field_values_text table (field ∷ fields) (v ∷ values) = field_value_text table field v ++ field_values_text table fields values

-- `object A C F=V ..`, with the fields of the class in order
abbrev pub object_line : Program → TableData → Address × Object → List ℕ
object_line P table entry =
    codes "object " ++ address_text entry.0 ++ codes " " ++ class_text table entry.1.class
    ++ field_values_text table (fields_of (slice_get P.classes entry.1.class)) entry.1.values ++ codes "\n"

-- `lock A thread T count N`
abbrev pub lock_line : Address × Hold → List ℕ
lock_line entry = codes "lock " ++ address_text entry.0 ++ codes " thread " ++ decimal entry.1.holder ++ codes " count " ++ decimal entry.1.count ++ codes "\n"

-- what is told of a thread: its status, the method of its top frame, and the number of its frames
pub record ThreadSight : Type 0 where
  pub status : ThreadState
  pub method : Option ℕ
  pub frames : ℕ

-- the same of a thread with frames of some type, which have these methods
abbrev pub sight_by_methods : {F : Type 0} → (F → ℕ) → ThreadOf F → ThreadSight
sight_by_methods method_of thread = record { status = thread_status thread; method = option_map method_of (top_frame thread); frames = length (frames_in thread) }

-- the method of the top frame: `C.M`
abbrev pub top_text : TableData → Option ℕ → List ℕ
top_text table method = unwrap_or (option_map (title_text table) method) []

-- `ready`, `running C.M N`, `done` or `faulted K`
abbrev pub status_text : TableData → Option ℕ → ℕ → ThreadState → List ℕ
status_text table method frames status.Ready = codes "ready"
status_text table method frames status.Running = codes "running " ++ top_text table method ++ codes " " ++ decimal frames
status_text table method frames status.Done = codes "done"
status_text table method frames (status.Faulted kind) = codes "faulted " ++ fault_text kind

-- `thread T`, and how it stands
abbrev pub thread_line : TableData → ℕ → ThreadSight → List ℕ
thread_line table t sight = codes "thread " ++ decimal t ++ codes " " ++ status_text table sight.method sight.frames sight.status ++ codes "\n"

-- a line for each thread, the first of which has this number
abbrev pub threads_text : TableData → ℕ → List ThreadSight → List ℕ
threads_text table t [] = []
threads_text table t (sight ∷ sights) = thread_line table t sight ++ threads_text table (t + 1) sights

-- the text of a state with frames of some type, which have these methods: the printed numbers in order, then objects and held
-- locks in ascending order of address, then the threads
abbrev pub text_of_state : {F : Type 0} → (F → ℕ) → Program → TableData → StateOf F → List ℕ
text_of_state method_of P table q =
    flat_map print_line q.output
    ++ flat_map (object_line P table) (finite.entries q.heap)
    ++ flat_map lock_line (finite.entries q.locks)
    ++ threads_text table 0 (map (sight_by_methods method_of) q.threads)

-- the text of a state of a program whose names stand in this table
abbrev pub state_text : Program → TableData → State → List ℕ
state_text P table q = text_of_state (λ f. f.method) P table q
