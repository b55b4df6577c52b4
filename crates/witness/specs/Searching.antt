-- The search: what it knows of its nodes, and what it finds.
use Rattle.std.specs.Prelude.{◌≡◌, ℕ, ◌+◌, ◌<◌, Bool, true, false, List, [], ◌++◌, length, Option, Some, None, slice_get}
use Rattle.core_program.specs.Core.{Program}
use Rattle.core_program.specs.Views.{program_of}
use Rattle.state.specs.States.{State, initial}
use Rattle.semantics.specs.Step.{step}
use Rattle.machine.specs.Standing.{StandsFor}
use Rattle.witness.specs.Tables.{count_at}
use Rattle.witness.specs.Walks.{walk, may_step, must_step_next, entry_counts, less, allows, none_left}
use Rattle.witness.specs.Witness.{IsKeptAs, IsReachedAs}
use Rattle.witness.specs.declared.node.Node.{Node}
use Rattle.witness.specs.declared.search.Search.{Search}
use Rattle.witness.specs.declared.judge.Judged.{Judged}
use Rattle.witness.specs.declared.judge.Judged.TheVariants as answer
use Rattle.witness.specs.Judging.{AreLike, IsGoal}
use Rattle.witness.specs.Nodes.{left_at, Covers}
use Rattle.witness.specs.Unseen.{HasUnseenStep, GoesAlone}

-- the program whose schedules are searched
abbrev pub searched : Search → Program
searched s = program_of s.program.now

-- the entries that are left at the start
abbrev pub start_left : Search → ℕ → ℕ
start_left s = count_at s.left.now

-- the state is like an end that is looked for
abbrev pub IsEndSought : Search → State → Type 0
IsEndSought s e = (q : State) × IsGoal s.goal q × AreLike s.goal.by q e

-- the search goes on alone from here to such a node
abbrev pub Comes : Search → (State → Option ℕ → (ℕ → ℕ) → Type 0) → State → Option ℕ → (ℕ → ℕ) → Type 0
Comes s Node = GoesAlone (searched s) s.counted (IsEndSought s) Node

-- a node's machine runs the program
pub record IsNode (s : Search) (n : Node) : Type 0 where
  pub runs : n.machine.program ≡ s.program.now
  pub coded : n.machine.code ≡ s.code.now

-- A schedule walks to a node: to a state that the machine stands for, and what was left at the start is what the schedule has and
-- what is left.
pub record WalksTo (s : Search) (r : List ℕ) (n : Node) : Type 0 where
  pub last : State
  pub stands : StandsFor n.machine last
  pub walks : (more : List ℕ) → walk (searched s) (initial (searched s)) None (r ++ more) ≡ walk (searched s) last n.busy more
  pub total : s.counted ≡ true → (t : ℕ) → entry_counts r t + left_at n t ≡ start_left s t

-- the steps of a node walk to it from the start
pub record IsWalked (s : Search) (n : Node) : Type 0 where
  pub node : IsNode s n
  pub comes : WalksTo s n.steps.items n

-- The schedule to the node at a place. That to the first one is empty. That to another one is the schedule to the node from which it
-- was reached, which stands before it, and then its steps.
pub data IsScheduleTo (nodes : List Node) : ℕ → List ℕ → Type 0 where
  at_start : IsScheduleTo nodes 0 []
  on_from : (place : ℕ) (n : Node) (before : List ℕ) → slice_get nodes place ≡ Some n → n.from < place → IsScheduleTo nodes n.from before → IsScheduleTo nodes place (before ++ n.steps.items)

-- each is such a node, its machine can count one step more, and the schedule to its place walks to it
pub record AreNodes (s : Search) (nodes : List Node) : Type 0 where
  pub each : (k : ℕ) (n : Node) → slice_get nodes k ≡ Some n → IsNode s n
  pub few : (k : ℕ) (n : Node) → slice_get nodes k ≡ Some n → n.machine.made < 4294967295
  pub come : (k : ℕ) (n : Node) → slice_get nodes k ≡ Some n → (r : List ℕ) × IsScheduleTo nodes k r × WalksTo s r n

-- such a node that may be added: the schedule to the node from which it was reached, and then its steps, walk to it
pub record IsNextNode (s : Search) (nodes : List Node) (n : Node) : Type 0 where
  pub node : IsNode s n
  pub earlier : n.from < length nodes
  pub before : List ℕ
  pub leads : IsScheduleTo nodes n.from before
  pub comes : WalksTo s (before ++ n.steps.items) n

-- some node is the one for this
abbrev pub InSet : List Node → State → Option ℕ → (ℕ → ℕ) → Type 0
InSet nodes q busy left = (k : ℕ) × (n : Node) × (slice_get nodes k ≡ Some n) × Covers n q busy left

-- the nodes that were there still are
abbrev pub Extends : List Node → List Node → Type 0
Extends old new = (k : ℕ) (n : Node) → slice_get old k ≡ Some n → slice_get new k ≡ Some n

-- a step of this thread that interrupts nobody leads from a node to one from which the search comes into the set
abbrev pub LeadsIn : Search → List Node → Node → ℕ → Type 0
LeadsIn s nodes n t = (q : State) (busy : Option ℕ) (left : ℕ → ℕ) (next : State) → Covers n q busy left → allows s.counted left t ≡ true → may_step busy t ≡ true
    → step (searched s) q t ≡ Some next → Comes s (InSet nodes) next (must_step_next (searched s) next t) (less left t)

-- a node was added, where it wasn't there already; without room nothing was
pub record IsNodeAdded (s : Search) (old new : List Node) (n : Node) (room : Bool) : Type 0 where
  pub nodes : AreNodes s new
  pub extends : Extends old new
  pub within : room ≡ true → (q : State) (busy : Option ℕ) (left : ℕ → ℕ) → Covers n q busy left → InSet new q busy left

-- the search came from a node into the set, where there was room
pub record IsNodeReached (s : Search) (old new : List Node) (n : Node) (room : Bool) : Type 0 where
  pub nodes : AreNodes s new
  pub extends : Extends old new
  pub within : room ≡ true → (q : State) (busy : Option ℕ) (left : ℕ → ℕ) → Covers n q busy left → Comes s (InSet new) q busy left

-- the thread goes on alone from a node where this one has to go on, or none
abbrev pub IsAlone : Search → Node → ℕ → Option ℕ → Type 0
IsAlone s n t None = (q : State) → StandsFor n.machine q → HasUnseenStep (searched s) q t
IsAlone s n t (Some u) = (u ≡ t) × ((e : State) → StandsFor n.machine e → ((v : ℕ) → left_at n v ≡ 0) → IsEndSought s e → ⊥)

-- the thread goes on alone from a node
pub record IsLone (s : Search) (n : Node) (t : ℕ) : Type 0 where
  pub allowed : allows s.counted (left_at n) t ≡ true
  pub few : n.machine.made < 4294967295
  pub alone : IsAlone s n t n.busy

-- The search went on alone from one node to another. A schedule before both that walks with the steps of the first one to it
-- walks with those of the second one to that.
pub record IsPassed (s : Search) (n m : Node) : Type 0 where
  pub node : IsNode s m
  pub from : m.from ≡ n.from
  pub steps : (before : List ℕ) → WalksTo s (before ++ n.steps.items) n → WalksTo s (before ++ m.steps.items) m
  pub comes : (q : State) (busy : Option ℕ) (left : ℕ → ℕ) → Covers n q busy left → Comes s (Covers m) q busy left

-- each step of a thread behind a node leads into the set, where there was room
pub record IsFollowed (s : Search) (old new : List Node) (place t : ℕ) (room : Bool) : Type 0 where
  pub nodes : AreNodes s new
  pub extends : Extends old new
  pub leads : room ≡ true → (n : Node) → slice_get old place ≡ Some n → LeadsIn s new n t

-- and so of every thread
pub record IsExpanded (s : Search) (old new : List Node) (place : ℕ) (room : Bool) : Type 0 where
  pub nodes : AreNodes s new
  pub extends : Extends old new
  pub leads : room ≡ true → (n : Node) → slice_get old place ≡ Some n → (t : ℕ) → LeadsIn s new n t

-- What is found for an end: a schedule that walks to one like it, of the entries that were left at the start where they are
-- counted; or that there is none; or neither, where as many states were seen as may be.
abbrev pub IsFound : Search → State → Judged → Type 0
IsFound s q (answer.Kept r) = (e : State) × (walk (searched s) (initial (searched s)) None r.items ≡ Some e) × AreLike s.goal.by q e
    × (s.counted ≡ true → (t : ℕ) → entry_counts r.items t ≡ start_left s t)
IsFound s q answer.Broken =
    (s.counted ≡ true → (r : List ℕ) → entry_counts r ≡ start_left s → IsKeptAs (searched s) (AreLike s.goal.by) r q → ⊥)
    × (s.counted ≡ false → start_left s ≡ none_left → IsReachedAs (searched s) (AreLike s.goal.by) q → ⊥)
IsFound s q (answer.Undecided seen) = seen ≡ s.most
