-- Parts of bodies over the program with four fields, and sets of held paths.
use Rattle.std.specs.Prelude.{ℕ, zero, suc, pos, true, false, List, [], ◌∷◌, if◌then◌else◌}
use Rattle.paths.specs.Paths.{PathData}
use Rattle.algebra.specs.declared.basic.Basic.{Basic}
use Rattle.algebra.specs.declared.basic.Basic.TheVariants.{Const, Mover, Atomic, Cmpd, Error}
use Rattle.algebra.specs.HeldPaths.{Held, has_path}
use Rattle.core_program.specs.declared.types.CoreType.TheVariants as type
use Rattle.core_program.specs.Core.{Program, Expr, IntE, ThisE, VarE, GetE, CallE, no_exprs, Stmt, SetFieldS, EmptyS}
use Rattle.core_program.specs.Examples.{plain_method, this_path}
use Rattle.rules.specs.Effect.{Assignment}
use Rattle.core_examples.specs.Seen.{four_fields}

-- no path is held, or that of `this`, or that of the slot 1
abbrev pub nothing_held : Held
nothing_held = has_path []

-- the lock of `this` is held, and no other
abbrev pub this_held : Held
this_held = has_path (this_path ∷ [])

-- the path of the slot 1, which is that of the first parameter or local
abbrev pub one_path : PathData
one_path = record { root = 1; fields = [] }

-- the lock of the slot 1 is held, and no other
abbrev pub one_held : Held
one_held = has_path (one_path ∷ [])

-- the basics in ascending order
abbrev pub all_basics : List Basic
all_basics = Const ∷ Mover ∷ Atomic ∷ Cmpd ∷ Error ∷ []

-- a mover where this path is held, else an error
abbrev pub mover_under : PathData → Held → Basic
mover_under p H = if H p then Mover else Error

-- the program with a method that requires the lock of `this`
abbrev pub with_required : Program
with_required = record four_fields { methods = record (plain_method 0 0 false EmptyS) { requires_ = this_path ∷ [] } ∷ [] }

-- the lock of `this` is relevant to each method, and each is assigned mover
abbrev pub this_relevant : ℕ → List PathData
this_relevant m = this_path ∷ []

-- an assignment in which each method is a mover, whatever is held
abbrev pub all_movers : Assignment
all_movers m H = Mover

-- `this.f` and `this.f = 1;` for a field
abbrev pub read_of : ℕ → Expr
read_of f = GetE ThisE f

-- `this.f = 1;` for the field of this number
abbrev pub write_of : ℕ → Stmt
write_of f = SetFieldS ThisE f (IntE (pos 1))

-- a local that is no lock, and one that is final
abbrev pub plain_local : Expr
plain_local = VarE 1 false (type.Class 0)

-- a final local of the slot 1, which is a lock
abbrev pub final_local : Expr
final_local = VarE 1 true (type.Class 0)

-- a call of the method 0 on a receiver
abbrev pub call_first_on : Expr → Expr
call_first_on e = CallE e 0 no_exprs

-- the locks of `this` and of the slot 1 are relevant to each method
abbrev pub both_relevant : ℕ → List PathData
both_relevant m = this_path ∷ one_path ∷ []

-- an assignment by which of these two the method 0 finds held; each other method is an error
abbrev pub by_locks : Assignment
by_locks zero H = if H this_path then (if H one_path then Const else Mover) else (if H one_path then Atomic else Cmpd)
by_locks (suc m) H = Error

-- the program with a method that requires the lock of its parameter
abbrev pub with_required_parameter : Program
with_required_parameter = record four_fields { methods = record (plain_method 0 0 false EmptyS) { requires_ = one_path ∷ [] } ∷ [] }
