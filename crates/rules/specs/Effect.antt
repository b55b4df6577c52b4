-- The effect of a part of a body at a set of held paths.
use Rattle.std.specs.Prelude.{ℕ, Bool, true, false, ◌&&◌, ◌==◌, List, [], Option, Some, None, slice_get, if◌then◌else◌}
use Rattle.std.specs.List.{list_all}
use Rattle.paths.specs.Paths.{PathData, extended}
use Rattle.paths.specs.Renamings.{under_call}
use Rattle.algebra.specs.declared.basic.Basic.{Basic}
use Rattle.algebra.specs.declared.basic.Basic.TheVariants.{Const, Mover, Atomic, Error}
use Rattle.algebra.specs.Basics.{seq_of, join_of, star_of, lift_of}
use Rattle.algebra.specs.HeldPaths.{Held, has_path, with_path, without_root, holds_at}
use Rattle.core_program.specs.Core.{Program, Method, Expr, Exprs, IntE, TruthE, NullE, ThisE, VarE, NotE, NegE, BinaryE, AndE, OrE, GetE, CallE, NewE, no_exprs, and_expr}
use Rattle.core_program.specs.Core.{Stmt, Stmts, EmptyS, BlockS, LocalS, SetVarS, SetFieldS, DoS, IfS, WhileS, SyncS, ReturnS, PrintS, StartS, no_stmts, and_stmt}
use Rattle.core_program.specs.Locks.{path_of}
use Rattle.rules.specs.declared.guard.Guard.{Guard}
use Rattle.rules.specs.declared.guard.Guard.TheVariants.{Final, Free, Named, Unnamed, WriteNamed, WriteUnnamed}
use Rattle.rules.specs.Guards.{guard_of}
use Rattle.rules.specs.Mentions.{paths_of}

-- a basic for each method and each set of held paths; of these sets only the parts of the method's relevant paths count
abbrev pub Assignment : Type 0
Assignment = ℕ → Held → Basic

-- the required paths of a method; none where it isn't there
abbrev pub required_paths : Option Method → List PathData
required_paths None = []
required_paths (Some m) = m.requires_

-- reading a variable
abbrev pub variable_effect : (is_final : Bool) → Basic
variable_effect true = Const
variable_effect false = Mover

-- reading or writing a field whose guard guards writes only, by whether the guard is held: others may read where it is not
abbrev pub write_guarded : (writes held : Bool) → Basic
write_guarded false held = if held then Mover else Atomic
write_guarded true held = if held then Atomic else Error

-- reading or writing a field: under a guard of both a mover where it is held, else an error
abbrev pub access_effect : (writes : Bool) → Guard → Held → Basic
access_effect writes Final H = Const
access_effect writes Free H = Atomic
access_effect writes (Named p) H = if H p then Mover else Error
access_effect writes Unnamed H = Error
access_effect writes (WriteNamed p) H = write_guarded writes (H p)
access_effect writes WriteUnnamed H = write_guarded writes false

-- reading or writing this field of a receiver that has this path or none
abbrev pub access_of : Program → (writes : Bool) → ℕ → Option PathData → Held → Basic
access_of P writes f receiver H = access_effect writes (guard_of P f receiver) H

-- the set that a callee begins with: those of its relevant paths whose names here are defined and held
abbrev pub held_under : List PathData → Option PathData → List (Option PathData) → Held → Held
held_under rel receiver args H = λ q. has_path rel q && holds_at (under_call receiver args q) H

-- a synchronized part, by whether its lock is held already: the body's effect there, or the lift of its effect with the lock
abbrev pub sync_effect : Bool → Basic → Basic → Basic
sync_effect true held taken = held
sync_effect false held taken = lift_of taken

-- the set after the declaration of a final local: no path rooted at it, and x.w for each p.w of the set where its value has the path p
abbrev pub after_local : Held → ℕ → Option PathData → Held
after_local H x None = without_root x H
after_local H x (Some p) = λ q. if q.root == x then holds_at (extended p q.fields) H else H q

-- the set after a statement of a block
abbrev pub after_stmt : Program → Stmt → Held → Held
after_stmt P (LocalS x true ty e) H = after_local H x (path_of P e)
after_stmt P _ H = H

module _ (P : Program) (rel : ℕ → List PathData) (A : Assignment) where
  -- the last part of a call: what is assigned to the method at the set that it begins with, an error where that lacks a required path
  abbrev pub call_of : ℕ → Option PathData → List (Option PathData) → Held → Basic
  call_of m receiver args H =
      if list_all (held_under (rel m) receiver args H) (required_paths (slice_get P.methods m))
      then A m (held_under (rel m) receiver args H)
      else Error

  abbrev mutual
    -- the effect of an expression
    pub expr_effect : Expr → Held → Basic
    expr_effect (IntE n) H = Const
    expr_effect (TruthE b) H = Const
    expr_effect NullE H = Const
    expr_effect ThisE H = Const
    expr_effect (VarE x is_final ty) H = variable_effect is_final
    expr_effect (NotE e) H = expr_effect e H
    expr_effect (NegE e) H = expr_effect e H
    expr_effect (BinaryE op a b) H = seq_of (expr_effect a H) (expr_effect b H)
    expr_effect (AndE a b) H = seq_of (expr_effect a H) (expr_effect b H)
    expr_effect (OrE a b) H = seq_of (expr_effect a H) (expr_effect b H)
    expr_effect (GetE e f) H = seq_of (expr_effect e H) (access_of P false f (path_of P e) H)
    expr_effect (CallE e m args) H = seq_of (expr_effect e H) (seq_of (exprs_effect args H) (call_of m (path_of P e) (paths_of P args) H))
    expr_effect (NewE c args) H = seq_of (exprs_effect args H) Mover

    -- the arguments, in sequence
    pub exprs_effect : Exprs → Held → Basic
    exprs_effect no_exprs H = Const
    exprs_effect (and_expr e es) H = seq_of (expr_effect e H) (exprs_effect es H)

  abbrev mutual
    -- the effect of a statement
    pub effect : Stmt → Held → Basic
    effect EmptyS H = Const
    effect (BlockS ss) H = block_effect ss H
    effect (LocalS x is_final ty e) H = seq_of (expr_effect e H) Mover
    effect (SetVarS x e) H = seq_of (expr_effect e H) Mover
    effect (SetFieldS e f g) H = seq_of (expr_effect e H) (seq_of (expr_effect g H) (access_of P true f (path_of P e) H))
    effect (DoS e drops) H = expr_effect e H
    effect (IfS c s t) H = seq_of (expr_effect c H) (join_of (effect s H) (effect t H))
    effect (WhileS c s) H = seq_of (expr_effect c H) (star_of (seq_of (effect s H) (expr_effect c H)))
    effect (SyncS p s) H = sync_effect (H p) (effect s H) (effect s (with_path p H))
    effect (ReturnS None) H = Const
    effect (ReturnS (Some e)) H = expr_effect e H
    effect (PrintS e) H = seq_of (expr_effect e H) Atomic
    effect (StartS e) H = seq_of (expr_effect e H) Atomic

    -- the statements of a block in sequence, each at the set that the ones before it leave
    pub block_effect : Stmts → Held → Basic
    block_effect no_stmts H = Const
    block_effect (and_stmt s ss) H = seq_of (effect s H) (block_effect ss (after_stmt P s H))
