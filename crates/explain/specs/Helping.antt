-- Which lock would help: with its path held, the part can be moved.
use Rattle.std.specs.Prelude.{ℕ, Bool, true, false, List, [], ◌∷◌, Option, Some, None, if◌then◌else◌}
use Rattle.paths.specs.Paths.{PathData}
use Rattle.paths.specs.Renamings.{under_call}
use Rattle.algebra.specs.declared.basic.Basic.TheVariants.{Mover}
use Rattle.algebra.specs.Basics.{below_of}
use Rattle.algebra.specs.HeldPaths.{Held, with_path}
use Rattle.core_program.specs.Core.{Program, IntE, TruthE, NullE, ThisE, VarE, NotE, NegE, BinaryE, AndE, OrE, GetE, CallE, NewE}
use Rattle.core_program.specs.Core.{EmptyS, BlockS, LocalS, SetVarS, SetFieldS, DoS, IfS, WhileS, SyncS, ReturnS, PrintS, StartS}
use Rattle.core_program.specs.Locks.{path_of}
use Rattle.rules.specs.declared.guard.Guard.{Guard}
use Rattle.rules.specs.declared.guard.Guard.TheVariants.{Final, Free, Named, Unnamed, WriteNamed, WriteUnnamed}
use Rattle.rules.specs.Guards.{guard_of}
use Rattle.rules.specs.Mentions.{paths_of}
use Rattle.rules.specs.Effect.{Assignment, call_of}
use Rattle.effects.specs.Parts.{Part, ExprP, StmtP}

-- the path of the guard with which an access can be moved; none where nothing guards the field or the guard has no path, and none
-- for a write of a field that is guarded for writing only
abbrev pub guard_help : (writes : Bool) → Guard → Option PathData
guard_help writes (Named p) = Some p
guard_help false (WriteNamed p) = Some p
guard_help true (WriteNamed p) = None
guard_help writes Final = None
guard_help writes Free = None
guard_help writes Unnamed = None
guard_help writes WriteUnnamed = None

-- the first path that passes the test
abbrev pub first_path : (PathData → Bool) → List PathData → Option PathData
first_path test [] = None
first_path test (p ∷ ps) = if test p then Some p else first_path test ps

-- a path before others, where there is one
abbrev pub path_before : Option PathData → List PathData → List PathData
path_before None ps = ps
path_before (Some p) ps = p ∷ ps

-- the names that the paths of a callee have at its call, those that have one
abbrev pub names_here : Option PathData → List (Option PathData) → List PathData → List PathData
names_here receiver args [] = []
names_here receiver args (p ∷ ps) = path_before (under_call receiver args p) (names_here receiver args ps)

module _ (P : Program) (rel : ℕ → List PathData) (A : Assignment) where
  -- the path of a lock that would help: the guard's of an access, the first name of a callee's relevant path with which the call can
  -- be moved, the lock's own
  abbrev pub help : Part → Held → Option PathData
  help (ExprP (IntE v)) H = None
  help (ExprP (TruthE b)) H = None
  help (ExprP NullE) H = None
  help (ExprP ThisE) H = None
  help (ExprP (VarE x is_final ty)) H = None
  help (ExprP (NotE e)) H = None
  help (ExprP (NegE e)) H = None
  help (ExprP (BinaryE op a b)) H = None
  help (ExprP (AndE a b)) H = None
  help (ExprP (OrE a b)) H = None
  help (ExprP (GetE e f)) H = guard_help false (guard_of P f (path_of P e))
  help (ExprP (CallE e m args)) H =
      first_path (λ p. below_of (call_of P rel A m (path_of P e) (paths_of P args) (with_path p H)) Mover) (names_here (path_of P e) (paths_of P args) (rel m))
  help (ExprP (NewE c args)) H = None
  help (StmtP EmptyS) H = None
  help (StmtP (BlockS ss)) H = None
  help (StmtP (LocalS x is_final ty e)) H = None
  help (StmtP (SetVarS x e)) H = None
  help (StmtP (SetFieldS e f g)) H = guard_help true (guard_of P f (path_of P e))
  help (StmtP (DoS e drops)) H = None
  help (StmtP (IfS c s t)) H = None
  help (StmtP (WhileS c s)) H = None
  help (StmtP (SyncS p s)) H = Some p
  help (StmtP (ReturnS e)) H = None
  help (StmtP (PrintS e)) H = None
  help (StmtP (StartS e)) H = None
