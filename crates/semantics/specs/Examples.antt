-- Example schedules, and the states that they run to.
use Rattle.std.specs.Prelude.{ℕ, pos, List, [], ◌∷◌, ◌++◌, replicate}
use Rattle.std.specs.FinMap as map
use Rattle.core_program.specs.declared.types.CoreOp.TheVariants.{Div}
use Rattle.core_program.specs.Examples.{block_of, put_seven}
use Rattle.state.specs.declared.value.Address.{Address}
use Rattle.state.specs.declared.value.Value.{Value}
use Rattle.state.specs.declared.value.Value.TheVariants.{Int, Ref}
use Rattle.state.specs.declared.value.Fault.TheVariants.{Zero}
use Rattle.state.specs.Memory.{Object, Hold}
use Rattle.state.specs.Work.{Item, St, Act, Release, Ret, Binary, Print}
use Rattle.state.specs.States.{Frame, Thread, Running, Done, Faulted, State, main_address}

-- a state with the one object of the class `Main`, whose field has this value, and one thread
abbrev pub main_state : Value → List (Address × Hold) → Thread → State
main_state v locks thread = record {
  heap = map.from_sorted ((main_address, record { class = 0; values = v ∷ [] }) ∷ []);
  locks = map.from_sorted locks;
  threads = thread ∷ [];
  output = [];
}

-- the frame of `main` with these operands and this work
abbrev pub main_frame : List Value → List Item → Frame
main_frame operands work = record { method = 0; slots = Ref main_address ∷ []; operands = operands; work = work }

-- the first thread holds the lock of that object this often
abbrev pub main_lock : ℕ → List (Address × Hold)
main_lock n = (main_address, record { holder = 0; count = n }) ∷ []

-- the release of the lock of that object
abbrev pub release : Item
release = Act (Release main_address)

-- `synchronized (this) { synchronized (this) { this.v = 7; } }`, both locks taken
abbrev pub nested_after_five : State
nested_after_five = main_state (Int (pos 0)) (main_lock 2) (Running (main_frame [] (St (block_of put_seven) ∷ release ∷ release ∷ Act Ret ∷ []) ∷ []))

-- and at its end
abbrev pub nested_after_eleven : State
nested_after_eleven = main_state (Int (pos 7)) [] Done

-- `synchronized (this) { synchronized (this) { return; } }`: the return released one lock, and then both
abbrev pub returning_after_six : State
returning_after_six = main_state (Int (pos 0)) (main_lock 1) (Running (main_frame [] (Act Ret ∷ release ∷ Act Ret ∷ []) ∷ []))

-- and both
abbrev pub returning_after_seven : State
returning_after_seven = main_state (Int (pos 0)) [] (Running (main_frame [] (Act Ret ∷ Act Ret ∷ []) ∷ []))

-- and returned
abbrev pub returned : State
returned = main_state (Int (pos 0)) [] Done

-- `System.out.println(1 / 0);`: the frame keeps its operands and what it had still to do
abbrev pub faulted_by_zero : State
faulted_by_zero = main_state (Int (pos 0)) [] (Faulted Zero (main_frame (Int (pos 0) ∷ Int (pos 1) ∷ []) (Act (Binary Div) ∷ Act Print ∷ Act Ret ∷ []) ∷ []))

-- The counter program.

-- the main thread alone, and then the first worker alone
abbrev pub one_worker : List ℕ
one_worker = replicate 10 0 ++ replicate 15 1

-- two workers that interleave: the second call begins before the first has ended
abbrev pub interleaved : List ℕ
interleaved = replicate 10 0 ++ replicate 4 1 ++ replicate 4 2 ++ replicate 2 1 ++ 2 ∷ replicate 7 1 ++ 2 ∷ 1 ∷ replicate 8 2 ++ 1 ∷ 2 ∷ []

-- the same with each call's entries as neighbours
abbrev pub one_after_the_other : List ℕ
one_after_the_other = replicate 10 0 ++ replicate 3 1 ++ replicate 3 2 ++ replicate 11 1 ++ replicate 11 2 ++ 1 ∷ 2 ∷ []

-- a worker at an address of the first thread, over the cell 0:1
abbrev pub worker_at : ℕ → Address × Object
worker_at n = (record { thread = 0; count = n }, record { class = 1; values = Ref (record { thread = 0; count = 1 }) ∷ [] })

-- the cell was incremented twice, and all threads are done
abbrev pub counted_to_two : State
counted_to_two = record {
  heap = map.from_sorted ((main_address, record { class = 2; values = [] })
      ∷ (record { thread = 0; count = 1 }, record { class = 0; values = Int (pos 2) ∷ [] })
      ∷ worker_at 2 ∷ worker_at 3 ∷ []);
  locks = map.from_sorted [];
  threads = Done ∷ Done ∷ Done ∷ [];
  output = [];
}
