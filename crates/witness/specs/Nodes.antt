-- Nodes of the search, and sets of them.
use Rattle.std.specs.Prelude.{◌≡◌, ℕ, ◌+◌, Bool, true, false, List, [], ◌∷◌, ◌++◌, Option, Some, None}
use Rattle.core_program.specs.Core.{Program}
use Rattle.core_program.specs.declared.program.CoreProgram.{CoreProgram}
use Rattle.core_program.specs.Views.{program_of}
use Rattle.compile.specs.declared.stack.CodeTable.{CodeTable}
use Rattle.state.specs.States.{State, initial}
use Rattle.semantics.specs.Step.{step}
use Rattle.machine.specs.MachineValue.{MachineValue, code_state}
use Rattle.machine.specs.Standing.{program_run, StandsFor, IsSame}
use Rattle.witness.specs.Tables.{count_at}
use Rattle.witness.specs.Walks.{may_step, must_step_next, less, allows}
use Rattle.witness.specs.declared.node.Node.{Node}

-- the entries that are left at a node
abbrev pub left_at : Node → ℕ → ℕ
left_at n = count_at n.left.items

-- a node is the one for this state, with this thread that has to go on and these entries left
pub record Covers (n : Node) (q : State) (busy : Option ℕ) (left : ℕ → ℕ) : Type 0 where
  pub stands : StandsFor n.machine q
  pub waits : n.busy ≡ busy
  pub counts : left_at n ≡ left

-- what a machine has become by a step of a thread from this state; none where there is no step
abbrev pub HasStepped : Program → State → ℕ → Option MachineValue → Type 0
HasStepped P q t None = step P q t ≡ None
HasStepped P q t (Some m) = (next : State) × (step P q t ≡ Some next) × StandsFor m next

-- the node at the start, with these entries left
pub record IsStart (program : CoreProgram) (code : CodeTable) (left : List ℕ) (n : Node) : Type 0 where
  pub runs : n.machine.program ≡ program
  pub coded : n.machine.code ≡ code
  pub made : n.machine.made ≡ 0
  pub stands : StandsFor n.machine (initial (program_of program))
  pub waits : n.busy ≡ None
  pub counts : n.left.items ≡ left
  pub steps : n.steps.items ≡ []

-- the node behind another one, with this machine after a step of a thread
pub record IsBehind (n : Node) (m : MachineValue) (t : ℕ) (next : Node) : Type 0 where
  pub machine : next.machine ≡ m
  pub waits : (q : State) → StandsFor m q → next.busy ≡ must_step_next (program_run m) q t
  pub counts : (u : ℕ) → left_at next u ≡ less (left_at n) t u

-- a step of a thread of a node leads there
pub record StepsTo (n : Node) (t : ℕ) (next : Node) : Type 0 where
  pub machine : MachineValue
  pub behind : IsBehind n machine t next
  pub runs : machine.program ≡ n.machine.program
  pub coded : machine.code ≡ n.machine.code
  pub made : machine.made ≡ n.machine.made + 1
  pub steps : (q : State) → StandsFor n.machine q → HasStepped (program_run n.machine) q t (Some machine)

-- The child of the node at a place by a step of a thread: this step leads there, and interrupts nobody; none where there is no such
-- step.
abbrev pub IsChild : Bool → Node → (place : ℕ) → ℕ → Option Node → Type 0
IsChild counted n place t None = allows counted (left_at n) t ≡ true → may_step n.busy t ≡ true → (q : State) → StandsFor n.machine q → step (program_run n.machine) q t ≡ None
IsChild counted n place t (Some next) = (allows counted (left_at n) t ≡ true) × (may_step n.busy t ≡ true) × StepsTo n t next × (next.from ≡ place) × (next.steps.items ≡ t ∷ [])

-- a node after a step of a thread from it; the same node where there was none
abbrev pub IsAdvanced : Node → ℕ → Node → Bool → Type 0
IsAdvanced n t next true = StepsTo n t next × (next.from ≡ n.from) × (next.steps.items ≡ n.steps.items ++ t ∷ [])
IsAdvanced n t next false = IsSame next.machine n.machine × (next.busy ≡ n.busy) × (next.left.items ≡ n.left.items) × (next.from ≡ n.from) × (next.steps.items ≡ n.steps.items)

-- two nodes are the same, but for the steps that led there
pub record IsTwin (n m : Node) : Type 0 where
  pub waits : n.busy ≡ m.busy
  pub counts : n.left.items ≡ m.left.items
  pub state : code_state n.machine.state ≡ code_state m.machine.state
