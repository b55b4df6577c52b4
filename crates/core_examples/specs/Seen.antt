-- A thread's turn where every address has the same object, and each lock is held in the same way.
use Rattle.std.specs.Prelude.{ℕ, pos, negsuc, Bool, true, false, List, [], ◌∷◌, Option, Some, None}
use Rattle.paths.specs.Paths.{PathData}
use Rattle.core_program.specs.declared.types.CoreType.TheVariants as type
use Rattle.core_program.specs.Core.{Program, Field, Method, EmptyS}
use Rattle.core_program.specs.Examples.{plain_class, plain_method, this_path}
use Rattle.state.specs.declared.value.Address.{Address}
use Rattle.state.specs.declared.value.Value.{Value}
use Rattle.state.specs.declared.value.Value.TheVariants.{Int, Truth, Ref}
use Rattle.state.specs.declared.value.Fault.{Fault}
use Rattle.state.specs.declared.value.StepKind.{StepKind}
use Rattle.state.specs.declared.value.StepKind.TheVariants.{Both}
use Rattle.state.specs.Memory.{Object, Hold}
use Rattle.state.specs.States.{Frame, Running, Faulted}
use Rattle.state.specs.Work.{Action, Item, Act, Ret}
use Rattle.semantics.specs.Step.{Shared, Change, Nothing, Outcome, Moves, act}

-- the number 7 as a value
abbrev pub seven : Value
seven = Int (pos 7)

-- the number -2 as a value
abbrev pub minus_two : Value
minus_two = Int (negsuc 1)

-- `true` as a value
abbrev pub yes_value : Value
yes_value = Truth true

-- `false` as a value
abbrev pub no_value : Value
no_value = Truth false

-- the address of the object, and another address
abbrev pub here : Address
here = record { thread = 0; count = 0 }

-- an address at which the thread 1 would have its first object
abbrev pub there : Address
there = record { thread = 1; count = 0 }

-- a field of the class 0 at this index
abbrev pub field_at : (index : ℕ) (is_final : Bool) (guard : Option PathData) (writes_only : Bool) → Field
field_at index is_final guard writes_only = record { class = 0; index = index; is_final = is_final; ty = type.Int; guard = guard; writes_only = writes_only }

-- A class with a final field, one that nothing guards, one that is guarded, and one that is guarded for writing only; and with a method of two
-- parameters and a result, which is its `run` too. A class that extends it runs its own method in the place of that.
abbrev pub two_parameters : Method
two_parameters = record (plain_method 0 0 false EmptyS) { params = (false, type.Int) ∷ (false, type.Int) ∷ []; result = Some type.Int; slots = 3 }

-- this class, and one that extends it with a method of its own and no field more
abbrev pub four_fields : Program
four_fields = record {
  classes = plain_class (0 ∷ 1 ∷ 2 ∷ 3 ∷ []) (0 ∷ []) (Some 0) 0
      ∷ record (plain_class (0 ∷ 1 ∷ 2 ∷ 3 ∷ []) (0 ∷ []) None 1) { above = Some 0; targets = (0, 1) ∷ (1, 1) ∷ [] } ∷ [];
  fields = field_at 0 true None false ∷ field_at 1 false None false ∷ field_at 2 false (Some this_path) false ∷ field_at 3 false (Some this_path) true ∷ [];
  methods = two_parameters ∷ record two_parameters { class = 1 } ∷ [];
  main_class = 0;
  main = 0;
}

-- the same with a class that pairs its method with one that isn't there
abbrev pub two_pairs : Program
two_pairs = record four_fields { classes = record (plain_class (0 ∷ 1 ∷ 2 ∷ 3 ∷ []) (0 ∷ []) (Some 0) 0) { targets = (0, 2) ∷ [] } ∷ [] }

-- an object of this class
abbrev pub object_of : ℕ → Object
object_of class = record { class = class; values = Int (pos 1) ∷ Int (pos 2) ∷ Int (pos 3) ∷ Int (pos 4) ∷ [] }

-- every address has such an object, and each lock is held so
abbrev pub sees : ℕ → Option Hold → Shared
sees class hold = record { object_at = λ a. Some (object_of class); lock_at = λ a. hold; made = 5 }

-- the thread of this number holds a lock this often
abbrev pub held_so_often : (holder count : ℕ) → Option Hold
held_so_often holder count = Some (record { holder = holder; count = count })

-- a frame of the method 0 with these operands, the topmost first
abbrev pub frame_with : List Value → Frame
frame_with operands = record { method = 0; slots = Ref here ∷ Int (pos 1) ∷ Int (pos 2) ∷ []; operands = operands; work = [] }

-- what is left to do behind the action
abbrev pub rest : List Item
rest = Act Ret ∷ []

-- what an action of thread 0 comes to with these operands, in its one frame, where it sees this
abbrev pub does : Shared → List Value → Action → Outcome
does see operands action = act four_fields see 0 (frame_with operands) [] rest action

-- the frame goes on with these operands and this work, by a step of this kind with this change
abbrev pub goes_by : StepKind → List Value → List Item → Change → Outcome
goes_by kind operands work change = Moves (record { kind = kind; thread = Running (record (frame_with []) { operands = operands; work = work } ∷ []); change = change })

-- with these operands and nothing else
abbrev pub gives_alone : List Value → Outcome
gives_alone operands = goes_by Both operands rest Nothing

-- the thread faults with the operands that it had
abbrev pub faults_with : Fault → List Value → Outcome
faults_with kind operands = Moves (record { kind = Both; thread = Faulted kind (frame_with operands ∷ []); change = Nothing })
