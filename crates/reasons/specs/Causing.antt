-- What is wrong with a part that is an error by itself: the cause that is told is so, at this part.
use Rattle.std.specs.Prelude.{◌≡◌, ℕ, Bool, true, false, List, Option, Some, None, slice_get}
use Rattle.std.specs.List.{list_all}
use Rattle.paths.specs.Paths.{PathData}
use Rattle.paths.specs.Renamings.{under_call}
use Rattle.algebra.specs.declared.basic.Basic.TheVariants.{Error}
use Rattle.algebra.specs.HeldPaths.{Held, has_path}
use Rattle.core_program.specs.Core.{Program, Expr, Exprs, GetE, CallE, SetFieldS}
use Rattle.core_program.specs.Locks.{path_of}
use Rattle.effects.specs.Parts.{Part, ExprP, StmtP}
use Rattle.rules.specs.Effect.{Assignment, held_under, required_paths}
use Rattle.rules.specs.Guards.{guard_by, guard_of}
use Rattle.rules.specs.Mentions.{paths_of}
use Rattle.explain.specs.declared.causes.Cause.{Cause}
use Rattle.explain.specs.declared.causes.Cause.TheVariants as cause
use Rattle.explain.specs.declared.names.Lack.{Lack}
use Rattle.explain.specs.Causes.{slot_lack}
use Rattle.explain.specs.Names.{lack_of, passed_expr}

module _ (P : Program) (rel : ℕ → List PathData) (A : Assignment) (H : Held) where
  -- the access is of this field of a receiver that has this path or none; its guard is this path, which isn't held
  pub record IsBare (e : Expr) (f : ℕ) (receiver : Option PathData) (field : ℕ) (writes_only : Bool) (p : PathData) : Type 0 where
    pub on : receiver ≡ path_of P e
    pub of : field ≡ f
    pub guard : guard_of P f (path_of P e) ≡ guard_by writes_only (Some p)
    pub free : H p ≡ false

  -- the access is of this field; its guard has no name here, for this reason
  pub record IsNameless (e : Expr) (f field : ℕ) (writes_only : Bool) (lack : Lack) : Type 0 where
    pub of : field ≡ f
    pub guard : guard_of P f (path_of P e) ≡ guard_by writes_only None
    pub since : lack ≡ lack_of P e

  -- the call is of this callee, which requires this path; that is this one here, which isn't held
  pub record IsLacking (e : Expr) (m : ℕ) (args : Exprs) (callee : ℕ) (q p : PathData) : Type 0 where
    pub of : callee ≡ m
    pub required : has_path (required_paths (slice_get P.methods m)) q ≡ true
    pub name : under_call (path_of P e) (paths_of P args) q ≡ Some p
    pub free : H p ≡ false

  -- the call is of this callee, which requires this path; that has no name here, for this reason
  pub record IsUnnamed (e : Expr) (m : ℕ) (args : Exprs) (callee : ℕ) (q : PathData) (lack : Lack) : Type 0 where
    pub of : callee ≡ m
    pub required : has_path (required_paths (slice_get P.methods m)) q ≡ true
    pub name : under_call (path_of P e) (paths_of P args) q ≡ None
    pub since : lack ≡ slot_lack P (passed_expr e args q.root)

  -- the call is of this callee, which begins with all that it requires, and is an error there
  pub record IsRefusedCall (e : Expr) (m : ℕ) (args : Exprs) (callee : ℕ) : Type 0 where
    pub of : callee ≡ m
    pub all : list_all (held_under (rel m) (path_of P e) (paths_of P args) H) (required_paths (slice_get P.methods m)) ≡ true
    pub wrong : A m (held_under (rel m) (path_of P e) (paths_of P args) H) ≡ Error

  -- what is wrong with an access to a field of this receiver
  abbrev pub IsAccessCause : Expr → ℕ → Cause → Type 0
  IsAccessCause e f (cause.Bare receiver field writes_only p second) = IsBare e f receiver field writes_only p
  IsAccessCause e f (cause.Nameless field writes_only lack) = IsNameless e f field writes_only lack
  IsAccessCause e f _ = ⊥

  -- what is wrong with a call of a method on this receiver with these arguments
  abbrev pub IsCallCause : Expr → ℕ → Exprs → Cause → Type 0
  IsCallCause e m args (cause.Lacking callee q p second) = IsLacking e m args callee q p
  IsCallCause e m args (cause.LackingName callee q lack) = IsUnnamed e m args callee q lack
  IsCallCause e m args (cause.Refused callee) = IsRefusedCall e m args callee
  IsCallCause e m args _ = ⊥

  -- what is wrong with a part; only accesses and calls are errors by themselves
  abbrev pub IsCause : Part → Cause → Type 0
  IsCause (ExprP (GetE e f)) told = IsAccessCause e f told
  IsCause (ExprP (CallE e m args)) told = IsCallCause e m args told
  IsCause (StmtP (SetFieldS e f g)) told = IsAccessCause e f told
  IsCause _ told = ⊥
