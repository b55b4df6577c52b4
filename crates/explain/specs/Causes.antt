-- What is wrong with a part that is an error by itself.
use Rattle.std.specs.Prelude.{◌≡◌, ℕ, true, false, not, List, Option, Some, None, find, slice_get}
use Rattle.std.specs.List.Sorted.{IsStrictlySortedBy}
use Rattle.paths.specs.Paths.{PathData, path_order}
use Rattle.paths.specs.Renamings.{under_call}
use Rattle.algebra.specs.HeldPaths.{Held, has_path}
use Rattle.core_program.specs.Core.{Program, Expr, Exprs, GetE, CallE, SetFieldS}
use Rattle.core_program.specs.Locks.{path_of}
use Rattle.effects.specs.Parts.{Part, ExprP, StmtP}
use Rattle.rules.specs.declared.guard.Guard.{Guard}
use Rattle.rules.specs.declared.guard.Guard.TheVariants as guard
use Rattle.rules.specs.Guards.{guard_of}
use Rattle.rules.specs.Effect.{held_under, required_paths}
use Rattle.rules.specs.Mentions.{paths_of}
use Rattle.explain.specs.declared.causes.Cause.{Cause}
use Rattle.explain.specs.declared.causes.Cause.TheVariants as cause
use Rattle.explain.specs.declared.names.Alias.{Alias}
use Rattle.explain.specs.declared.names.Lack.{Lack}
use Rattle.explain.specs.declared.names.Lack.TheVariants as lack
use Rattle.explain.specs.Names.{lack_of, passed_expr, second_name}

-- the paths of a set, ascending
pub record ArePaths (H : Held) (held : List PathData) : Type 0 where
  pub ascends : IsStrictlySortedBy path_order held
  pub same : has_path held ≡ H

-- why what stands for a slot has no path
abbrev pub slot_lack : Program → Option Expr → Lack
slot_lack P None = lack.Value
slot_lack P (Some e) = lack_of P e

module _ (P : Program) (aliases : List Alias) (H : Held) where
  -- an access whose field is guarded so
  abbrev pub access_cause : Expr → ℕ → Guard → Cause
  access_cause e f guard.Final = cause.Other
  access_cause e f guard.Free = cause.Other
  access_cause e f (guard.Named p) = cause.Bare (path_of P e) f false p (second_name aliases H p)
  access_cause e f guard.Unnamed = cause.Nameless f false (lack_of P e)
  access_cause e f (guard.WriteNamed p) = cause.Bare (path_of P e) f true p (second_name aliases H p)
  access_cause e f guard.WriteUnnamed = cause.Nameless f true (lack_of P e)

  -- a call that begins its callee without this path, whose name here is this, or none
  abbrev pub lacking : Expr → ℕ → Exprs → PathData → Option PathData → Cause
  lacking e m args q None = cause.LackingName m q (slot_lack P (passed_expr e args q.root))
  lacking e m args q (Some p) = cause.Lacking m q p (second_name aliases H p)

  -- a call that begins its callee without this path, or with all that are required
  abbrev pub call_cause : Expr → ℕ → Exprs → Option PathData → Cause
  call_cause e m args None = cause.Refused m
  call_cause e m args (Some q) = lacking e m args q (under_call (path_of P e) (paths_of P args) q)

-- the first of the paths that a callee requires which isn't held at its beginning
abbrev pub first_lacking : Program → (rel : ℕ → List PathData) → Held → Expr → ℕ → Exprs → Option PathData
first_lacking P rel H e m args = find (λ q. not (held_under (rel m) (path_of P e) (paths_of P args) H q)) (required_paths (slice_get P.methods m))

-- what is wrong with a part
abbrev pub cause_of : Program → (rel : ℕ → List PathData) → List Alias → Held → Part → Cause
cause_of P rel aliases H (ExprP (GetE e f)) = access_cause P aliases H e f (guard_of P f (path_of P e))
cause_of P rel aliases H (ExprP (CallE e m args)) = call_cause P aliases H e m args (first_lacking P rel H e m args)
cause_of P rel aliases H (StmtP (SetFieldS e f g)) = access_cause P aliases H e f (guard_of P f (path_of P e))
cause_of P rel aliases H part = cause.Other
