-- What a body mentions that bears on locks: accesses to fields, calls, locks, and final locals.
use Rattle.std.specs.Prelude.{ℕ, true, List, [], ◌∷◌, ◌++◌, Option, Some, None}
use Rattle.paths.specs.Paths.{PathData}
use Rattle.core_program.specs.Core.{Program, Expr, Exprs, NotE, NegE, BinaryE, AndE, OrE, GetE, CallE, NewE, no_exprs, and_expr}
use Rattle.core_program.specs.Core.{Stmt, Stmts, EmptyS, BlockS, LocalS, SetVarS, SetFieldS, DoS, IfS, WhileS, SyncS, ReturnS, PrintS, StartS, no_stmts, and_stmt}
use Rattle.core_program.specs.Locks.{path_of}

-- an access to a field of a receiver; a call; the lock of a `synchronized`; a final local with its value
pub data Mention : Type 0 where
  Accesses : Expr → ℕ → Mention
  Calls : Expr → ℕ → Exprs → Mention
  Locks : PathData → Mention
  Names : ℕ → Expr → Mention

-- What expressions and arguments mention.
abbrev mutual
  -- the accesses and calls of an expression, each before those in its own parts
  pub expr_mentions : Expr → List Mention
  expr_mentions (NotE e) = expr_mentions e
  expr_mentions (NegE e) = expr_mentions e
  expr_mentions (BinaryE op a b) = expr_mentions a ++ expr_mentions b
  expr_mentions (AndE a b) = expr_mentions a ++ expr_mentions b
  expr_mentions (OrE a b) = expr_mentions a ++ expr_mentions b
  expr_mentions (GetE e f) = Accesses e f ∷ expr_mentions e
  expr_mentions (CallE e m args) = Calls e m args ∷ (expr_mentions e ++ exprs_mentions args)
  expr_mentions (NewE c args) = exprs_mentions args
  expr_mentions _ = []

  -- those of some arguments, one argument after the other
  pub exprs_mentions : Exprs → List Mention
  exprs_mentions no_exprs = []
  exprs_mentions (and_expr e es) = expr_mentions e ++ exprs_mentions es

-- What statements and blocks mention.
abbrev mutual
  -- the accesses, calls, locks and final locals of a statement, each before those in its own parts
  pub mentions : Stmt → List Mention
  mentions EmptyS = []
  mentions (BlockS ss) = block_mentions ss
  mentions (LocalS x true ty e) = Names x e ∷ expr_mentions e
  mentions (LocalS x _ ty e) = expr_mentions e
  mentions (SetVarS x e) = expr_mentions e
  mentions (SetFieldS e f g) = Accesses e f ∷ (expr_mentions e ++ expr_mentions g)
  mentions (DoS e drops) = expr_mentions e
  mentions (IfS c s t) = expr_mentions c ++ (mentions s ++ mentions t)
  mentions (WhileS c s) = expr_mentions c ++ mentions s
  mentions (SyncS p s) = Locks p ∷ mentions s
  mentions (ReturnS None) = []
  mentions (ReturnS (Some e)) = expr_mentions e
  mentions (PrintS e) = expr_mentions e
  mentions (StartS e) = expr_mentions e

  -- those of the statements of a block, one statement after the other
  pub block_mentions : Stmts → List Mention
  block_mentions no_stmts = []
  block_mentions (and_stmt s ss) = mentions s ++ block_mentions ss

-- the paths of arguments, in order; none for one that is no lock expression
abbrev pub paths_of : Program → Exprs → List (Option PathData)
paths_of P no_exprs = []
paths_of P (and_expr e es) = path_of P e ∷ paths_of P es
