-- Steps that nobody else sees: such a step may come at once, and no order is lost by it.
use Rattle.std.specs.Prelude.{◌≡◌, ℕ, Bool, true, false, List, ◌∷◌, Option, Some, None, IsSome, slice_get}
use Rattle.core_program.specs.Core.{Program, Field}
use Rattle.state.specs.declared.value.Address.{Address}
use Rattle.state.specs.Values.{top, address_of}
use Rattle.state.specs.Memory.{Heap, IsNumbered, value_in}
use Rattle.state.specs.Work as W
use Rattle.state.specs.Work.{Action, Item, unfolded}
use Rattle.state.specs.States.{Frame, ThreadOf, Running, State}
use Rattle.state.specs.Frames.{CellFrame, top_frame, operands_of}
use Rattle.std.specs.Option.{option_map}
use Rattle.compile.specs.declared.stack.Code.{Code}
use Rattle.compile.specs.declared.stack.Instr.{Instr}
use Rattle.compile.specs.declared.stack.Instr.TheVariants as i
use Rattle.semantics.specs.Run.{inside}
use Rattle.semantics.specs.Step.{step}
use Rattle.witness.specs.declared.unseen.Reach.{Reach}
use Rattle.witness.specs.declared.unseen.Reach.TheVariants as reach
use Rattle.witness.specs.Walks.{may_step, must_step_next, less, allows}

-- How far an action reaches: to its own thread's frames alone; to a field that it reads; or to something else that all threads
-- share, or into a method that it enters.
abbrev pub action_reach : Action → Reach
action_reach (W.Push v) = reach.Own
action_reach (W.Load x) = reach.Own
action_reach (W.Store x) = reach.Own
action_reach W.Drop = reach.Own
action_reach (W.Unary op) = reach.Own
action_reach (W.Binary op) = reach.Own
action_reach (W.AndThen e) = reach.Own
action_reach (W.OrElse e) = reach.Own
action_reach (W.Choose s u) = reach.Own
action_reach (W.Loop c s) = reach.Own
action_reach (W.Get x) = reach.Field x
action_reach (W.Put x) = reach.Shared
action_reach (W.New c) = reach.Shared
action_reach (W.Call m) = reach.Shared
action_reach (W.Acquire s) = reach.Shared
action_reach (W.Release a) = reach.Shared
action_reach W.Ret = reach.Own
action_reach W.Print = reach.Shared
action_reach W.Start = reach.Shared

-- the same of instructions
abbrev pub instr_reach : Instr → Reach
instr_reach (i.Push v) = reach.Own
instr_reach (i.Load x) = reach.Own
instr_reach (i.Store x) = reach.Own
instr_reach i.Drop = reach.Own
instr_reach (i.Unary op) = reach.Own
instr_reach (i.Binary op) = reach.Own
instr_reach (i.AndThen other) = reach.Own
instr_reach (i.OrElse other) = reach.Own
instr_reach (i.Branch other) = reach.Own
instr_reach (i.Get x) = reach.Field x
instr_reach (i.Put x) = reach.Shared
instr_reach (i.New c) = reach.Shared
instr_reach (i.Call m) = reach.Shared
instr_reach i.Acquire = reach.Shared
instr_reach i.Release = reach.Shared
instr_reach (i.Ret result) = reach.Own
instr_reach i.Print = reach.Shared
instr_reach i.Start = reach.Shared

-- whether a field is final
abbrev pub is_final_field : Option Field → Bool
is_final_field None = false
is_final_field (Some f) = f.is_final

-- what is reached is the same whatever other threads do: nothing that they share, or the value of a final field that has one
abbrev pub IsLasting : Program → Heap → Reach → Option Address → Type 0
IsLasting P heap reach.Own receiver = Unit {0}
IsLasting P heap (reach.Field x) None = ⊥
IsLasting P heap (reach.Field x) (Some a) = (is_final_field (slice_get P.fields x) ≡ true) × IsSome (value_in P heap a x)
IsLasting P heap reach.Shared receiver = ⊥

-- what a value refers to has a value of this field
abbrev pub HasValue : Program → Heap → Option Address → ℕ → Type 0
HasValue P heap None x = ⊥
HasValue P heap (Some a) x = IsSome (value_in P heap a x)

-- the next instruction of a running thread reaches what is always the same
abbrev pub IsNextLasting : Program → List Code → Heap → ThreadOf CellFrame → Type 0
IsNextLasting P code heap cell = (place : ℕ) × (line : Code) × (option_map (λ f. f.place) (top_frame cell) ≡ Some place) × (slice_get code place ≡ Some line)
    × IsLasting P heap (instr_reach line.instr) (address_of (top (operands_of (top_frame cell))))

-- The thread has a step that nobody else sees. It runs and stands inside no atomic call; and its next action reaches nothing that
-- others change. So this step changes nothing but the thread's own frames, and enters no method.
pub record HasUnseenStep (P : Program) (q : State) (t : ℕ) : Type 0 where
  pub numbered : IsNumbered q.heap
  pub frame : Frame
  pub below : List Frame
  pub runs : slice_get q.threads t ≡ Some (Running (frame ∷ below))
  pub outside : inside P q t ≡ false
  pub action : Action
  pub rest : List Item
  pub next : unfolded frame.work ≡ Some (action, rest)
  pub lasting : IsLasting P q.heap (action_reach action) (address_of (top frame.operands))

-- Where the search goes on with one thread alone up to a node. Either the node is there; or one thread has to go on inside its atomic call, and no
-- schedule ends here; or nobody has to, and a step that nobody else sees comes at once. `Bad` are the ends that are looked for.
module _ (P : Program) (counted : Bool) (Bad : State → Type 0) (Node : State → Option ℕ → (ℕ → ℕ) → Type 0) where
  pub data GoesAlone : State → Option ℕ → (ℕ → ℕ) → Type 0 where
    is_there : (q : State) (busy : Option ℕ) (left : ℕ → ℕ) → Node q busy left → GoesAlone q busy left
    goes_on : (q : State) (t : ℕ) (left : ℕ → ℕ) (next : State) → allows counted left t ≡ true → (((u : ℕ) → left u ≡ 0) → Bad q → ⊥) → step P q t ≡ Some next
        → GoesAlone next (must_step_next P next t) (less left t) → GoesAlone q (Some t) left
    comes_at_once : (q : State) (t : ℕ) (left : ℕ → ℕ) (next : State) → allows counted left t ≡ true → HasUnseenStep P q t → step P q t ≡ Some next
        → GoesAlone next None (less left t) → GoesAlone q None left

-- A set of nodes: each step from one that interrupts nobody goes on to a node; and no node without entries left is bad.
pub record IsClosedUpTo (P : Program) (counted : Bool) (Bad : State → Type 0) (Node : State → Option ℕ → (ℕ → ℕ) → Type 0) : Type 0 where
  pub goes : (q : State) (busy : Option ℕ) (left : ℕ → ℕ) (t : ℕ) (next : State) → Node q busy left → allows counted left t ≡ true → may_step busy t ≡ true → step P q t ≡ Some next
      → GoesAlone P counted Bad Node next (must_step_next P next t) (less left t)
  pub good : (q : State) (busy : Option ℕ) (left : ℕ → ℕ) → Node q busy left → ((t : ℕ) → left t ≡ 0) → Bad q → ⊥

-- whether a state is bad doesn't depend on what threads have still to do
abbrev pub IsOfShared : (State → Type 0) → Type 0
IsOfShared Bad = (q e : State) → q.heap ≡ e.heap → q.output ≡ e.output → Bad q → Bad e
