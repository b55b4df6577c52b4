-- A program in which two buffers append to each other, walks through its methods, and two threads that wait for each other.
--     class Buf {
--       int n guarded_by this;
--       atomic int length() { synchronized (this) { return this.n; } }
--       atomic void append(final Buf other) { synchronized (this) { synchronized (other) { this.n = this.n + other.length(); } } } }
--     class Appender implements Runnable { final Buf to; final Buf from; Appender(Buf to, Buf from) { .. } public void run() { this.to.append(this.from); } }
--     class Main { void main() { } }
use Rattle.std.specs.Prelude.{ℕ, zero, suc, Bool, true, false, List, [], ◌∷◌, ◌++◌, map, Some, None}
use Rattle.std.specs.FinMap as M
use Rattle.paths.specs.Paths.{PathData}
use Rattle.algebra.specs.HeldPaths.{Held}
use Rattle.core_program.specs.declared.types.CoreOp.TheVariants.{Add}
use Rattle.core_program.specs.declared.types.CoreType.{CoreType}
use Rattle.core_program.specs.declared.types.CoreType.TheVariants as type
use Rattle.core_program.specs.Core.{Program, Expr, ThisE, VarE, BinaryE, GetE, CallE, no_exprs, and_expr, Stmt, EmptyS, DoS, SetFieldS, SyncS, ReturnS}
use Rattle.core_program.specs.Examples.{this_path, plain_class, plain_method, block_of}
use Rattle.state.specs.declared.value.Address.{Address}
use Rattle.state.specs.declared.value.Value.TheVariants.{Ref}
use Rattle.state.specs.Memory.{Hold}
use Rattle.state.specs.States.{Thread, Running, State}
use Rattle.state.specs.Work.{Act, Acquire}
use Rattle.rules.specs.Effect.{held_under}
use Rattle.core_examples.specs.Bodies.{one_path}
use Rattle.core_examples.specs.Fields.{path}
use Rattle.core_examples.specs.Seen.{here, there}
use Rattle.levels.specs.Walks.{LevelVisit, Comes, Bad}

-- the type `Buf`
abbrev pub buf : CoreType
buf = type.Class 0

-- the parameter `other` of `append`
abbrev pub other : Expr
other = VarE 1 true buf

-- `this.n = this.n + other.length();`
abbrev pub add_length : Stmt
add_length = SetFieldS ThisE 0 (BinaryE Add (GetE ThisE 0) (CallE other 0 no_exprs))

-- this program: its methods are `length`, `append`, `run` and `main`, in this order
abbrev pub buffers : Program
buffers = record {
  classes =
      record (plain_class (0 ∷ []) [] None 0) { targets = (0, 0) ∷ (1, 1) ∷ [] }
      ∷ plain_class (1 ∷ 2 ∷ []) (1 ∷ 2 ∷ []) (Some 2) 2
      ∷ plain_class [] [] None 3 ∷ [];
  fields =
      record { class = 0; index = 0; is_final = false; ty = type.Int; guard = Some this_path; writes_only = false }
      ∷ record { class = 1; index = 0; is_final = true; ty = buf; guard = None; writes_only = false }
      ∷ record { class = 1; index = 1; is_final = true; ty = buf; guard = None; writes_only = false } ∷ [];
  methods =
      record (plain_method 0 0 true (block_of (SyncS this_path (block_of (ReturnS (Some (GetE ThisE 0))))))) { result = Some type.Int }
      ∷ record (plain_method 0 0 true (block_of (SyncS this_path (block_of (SyncS one_path (block_of add_length)))))) { params = (true, buf) ∷ []; slots = 2 }
      ∷ plain_method 1 0 false (block_of (DoS (CallE (GetE ThisE 1) 1 (and_expr (GetE ThisE 2) no_exprs)) false))
      ∷ plain_method 2 0 false EmptyS ∷ [];
  main_class = 2;
  main = 3;
}

-- `this.to` and `this.from`
abbrev pub to_path : PathData
to_path = path 0 (1 ∷ [])

-- the path of `this.from`
abbrev pub from_path : PathData
from_path = path 0 (2 ∷ [])

-- its relevant paths
abbrev pub of_buffers : ℕ → List PathData
of_buffers zero = this_path ∷ []
of_buffers (suc zero) = this_path ∷ one_path ∷ []
of_buffers (suc (suc zero)) = to_path ∷ from_path ∷ []
of_buffers (suc (suc (suc m))) = []

-- each class has the level 1, or none has any
abbrev pub all_one : ℕ → ℕ
all_one c = 1

-- each class has the level 0, so that each lock that isn't held already is bad to take
abbrev pub no_levels : ℕ → ℕ
no_levels c = 0

-- what a walk comes to; of a call it is seen whether the methods 0 and 1 would find the locks of `this` and of their parameter held
pub data Seen : Type 0 where
  Calls : (method under : ℕ) → List Bool → Seen
  Takes : (place class under : ℕ) → Seen

-- what is seen of a visit
abbrev pub seen_of_visit : LevelVisit → Seen
seen_of_visit (Comes m known under) = Calls m under (map (known 0) (this_path ∷ one_path ∷ []) ++ map (known 1) (this_path ∷ one_path ∷ []))
seen_of_visit (Bad place class under) = Takes place class under

-- `this.length()` and `this.run()`, and what a walk sees of them where the lock of `this` is held
abbrev pub length_call : Expr
length_call = CallE ThisE 0 no_exprs

-- `this.run()`
abbrev pub run_call : Expr
run_call = CallE ThisE 2 no_exprs

-- the method 0 under the level 5; it and the method 1 would find the lock of `this` held, and not that of a parameter
abbrev pub sees_length : Seen
sees_length = Calls 0 5 (true ∷ false ∷ true ∷ false ∷ [])

-- the method 2 under the level 5, with the same paths known
abbrev pub sees_run : Seen
sees_run = Calls 2 5 (true ∷ false ∷ true ∷ false ∷ [])

-- `synchronized (this) { }`
abbrev pub take_this : Stmt
take_this = SyncS this_path EmptyS

-- what is held in `append` where `run` calls it, and in `length` where that calls it
abbrev pub held_in_append : Held
held_in_append = held_under (of_buffers 1) (Some to_path) (Some from_path ∷ []) (λ q. false)

-- the thread holds the lock
abbrev pub held_once : ℕ → Hold
held_once t = record { holder = t; count = 1 }

-- a thread that takes the lock of this address next
abbrev pub takes_lock_next : Address → Thread
takes_lock_next a = Running (record { method = 1; slots = []; operands = Ref a ∷ []; work = Act (Acquire EmptyS) ∷ [] } ∷ [])

-- the thread 0 holds the lock of the first object and takes that of the second one, and the thread 1 the other way round
abbrev pub crossed : List (Address × Hold)
crossed = (here, held_once 0) ∷ (there, held_once 1) ∷ []

-- a state in which each of these two threads waits for the lock that the other one holds
abbrev pub each_waits : State
each_waits = record { heap = M.empty; locks = M.from_sorted crossed; threads = takes_lock_next there ∷ takes_lock_next here ∷ []; output = [] }
