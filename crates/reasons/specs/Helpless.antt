-- What is told of a step that can't be moved is so: the lock that is told makes it a mover, and where none is told no lock does.
use Rattle.std.specs.Prelude.{◌≡◌, ◌⊎◌, ℕ, false, List, Option, Some, None}
use Rattle.paths.specs.Paths.{PathData}
use Rattle.algebra.specs.declared.basic.Basic.TheVariants.{Mover}
use Rattle.algebra.specs.Basics.{below_of}
use Rattle.algebra.specs.HeldPaths.{Held, with_path}
use Rattle.core_program.specs.Core.{Program, Expr, GetE, CallE, SetFieldS}
use Rattle.core_program.specs.Locks.{path_of}
use Rattle.effects.specs.Parts.{Part, ExprP, StmtP}
use Rattle.rules.specs.declared.guard.Guard.{Guard}
use Rattle.rules.specs.declared.guard.Guard.TheVariants as guard
use Rattle.rules.specs.Effect.{Assignment}
use Rattle.rules.specs.Guards.{guard_of}
use Rattle.rules.specs.Rules.{AtMost}
use Rattle.explain.specs.PartEffects.{own_of}
use Rattle.explain.specs.declared.deeds.Help.{Help}
use Rattle.explain.specs.declared.deeds.Help.TheVariants as helps
use Rattle.explain.specs.Names.{lack_of}

-- the receiver of an access with the guard of its field; none of another part
abbrev pub access_at : Program → Part → Option (Expr × Guard)
access_at P (ExprP (GetE e f)) = Some (e, guard_of P f (path_of P e))
access_at P (StmtP (SetFieldS e f g)) = Some (e, guard_of P f (path_of P e))
access_at P _ = None

-- the receiver of a call
abbrev pub called_on : Part → Option Expr
called_on (ExprP (CallE e m args)) = Some e
called_on _ = None

module _ (P : Program) (rel : ℕ → List PathData) (A : Assignment) (x : Part) (H : Held) where
  -- whichever path is held besides, the part can't be moved
  abbrev pub IsHelpless : Type 0
  IsHelpless = (p : PathData) → below_of (own_of P rel A x (with_path p H)) Mover ≡ false

  -- with this path held, which isn't, the part can be moved
  pub record IsHeld (p : PathData) : Type 0 where
    pub free : H p ≡ false
    pub moves : AtMost (own_of P rel A x (with_path p H)) Mover

  -- no path helps an access to a field that is guarded so
  pub record IsBeyond (e : Expr) (g : Guard) : Type 0 where
    pub access : access_at P x ≡ Some (e, g)
    pub helpless : IsHelpless

  -- no path helps a call on this receiver
  pub record IsStuck (e : Expr) : Type 0 where
    pub call : called_on x ≡ Some e
    pub helpless : IsHelpless

  -- what is told of a lock
  abbrev pub IsHelp : Help → Type 0
  IsHelp (helps.Hold p second) = IsHeld p
  IsHelp helps.Unguarded = (e : Expr) × IsBeyond e guard.Free
  IsHelp helps.WritesOnly = (e : Expr) × (p : PathData) × IsBeyond e (guard.WriteNamed p)
  IsHelp (helps.Unnamed lack) = (e : Expr) × (lack ≡ lack_of P e) × (IsBeyond e guard.Unnamed ⊎ IsBeyond e guard.WriteUnnamed)
  IsHelp helps.NoneNamed = (e : Expr) × (r : PathData) × (path_of P e ≡ Some r) × IsStuck e
  IsHelp (helps.ReceiverUnnamed lack) = (e : Expr) × (lack ≡ lack_of P e) × (path_of P e ≡ None) × IsStuck e
  IsHelp helps.Seen = IsHelpless
