-- Which methods a body calls, by a test of them and as a list; and the callers of each method. A method counts as a caller of those that override it.
-- So a method's callers are the methods whose demands look at its table.
use Rattle.std.specs.Prelude.{◌≡◌, ℕ, ◌<◌, ◌==◌, Bool, true, false, ◌||◌, List, [], ◌∷◌, ◌++◌, length, Contains, Option, Some, None, slice_get}
use Rattle.core_program.specs.Core.{Program, Method, Expr, Exprs, NotE, NegE, BinaryE, AndE, OrE, GetE, CallE, NewE, no_exprs, and_expr}
use Rattle.core_program.specs.Core.{Stmt, Stmts, EmptyS, BlockS, LocalS, SetVarS, SetFieldS, DoS, IfS, WhileS, SyncS, ReturnS, PrintS, StartS, no_stmts, and_stmt}

module _ (test : ℕ → Bool) where
  abbrev mutual
    -- whether an expression calls a method that passes the test
    pub expr_calls : Expr → Bool
    expr_calls (NotE e) = expr_calls e
    expr_calls (NegE e) = expr_calls e
    expr_calls (BinaryE op a b) = expr_calls a || expr_calls b
    expr_calls (AndE a b) = expr_calls a || expr_calls b
    expr_calls (OrE a b) = expr_calls a || expr_calls b
    expr_calls (GetE e f) = expr_calls e
    expr_calls (CallE e m args) = test m || (expr_calls e || exprs_call args)
    expr_calls (NewE c args) = exprs_call args
    expr_calls _ = false

    -- whether one of some arguments does
    pub exprs_call : Exprs → Bool
    exprs_call no_exprs = false
    exprs_call (and_expr e es) = expr_calls e || exprs_call es

  abbrev mutual
    -- whether a statement does
    pub stmt_calls : Stmt → Bool
    stmt_calls EmptyS = false
    stmt_calls (BlockS ss) = block_calls ss
    stmt_calls (LocalS x is_final ty e) = expr_calls e
    stmt_calls (SetVarS x e) = expr_calls e
    stmt_calls (SetFieldS e f g) = expr_calls e || expr_calls g
    stmt_calls (DoS e drops) = expr_calls e
    stmt_calls (IfS c s t) = expr_calls c || (stmt_calls s || stmt_calls t)
    stmt_calls (WhileS c s) = expr_calls c || stmt_calls s
    stmt_calls (SyncS p s) = stmt_calls s
    stmt_calls (ReturnS None) = false
    stmt_calls (ReturnS (Some e)) = expr_calls e
    stmt_calls (PrintS e) = expr_calls e
    stmt_calls (StartS e) = expr_calls e

    -- whether one of the statements of a block does
    pub block_calls : Stmts → Bool
    block_calls no_stmts = false
    block_calls (and_stmt s ss) = stmt_calls s || block_calls ss

-- The called methods of expressions and of lists of arguments; one that is called twice stands twice.
abbrev mutual
  -- the methods that an expression calls
  pub expr_callees : Expr → List ℕ
  expr_callees (NotE e) = expr_callees e
  expr_callees (NegE e) = expr_callees e
  expr_callees (BinaryE op a b) = expr_callees a ++ expr_callees b
  expr_callees (AndE a b) = expr_callees a ++ expr_callees b
  expr_callees (OrE a b) = expr_callees a ++ expr_callees b
  expr_callees (GetE e f) = expr_callees e
  expr_callees (CallE e m args) = m ∷ (expr_callees e ++ exprs_callees args)
  expr_callees (NewE c args) = exprs_callees args
  expr_callees _ = []

  -- the methods that a list of arguments calls
  pub exprs_callees : Exprs → List ℕ
  exprs_callees no_exprs = []
  exprs_callees (and_expr e es) = expr_callees e ++ exprs_callees es

-- The called methods of statements and of blocks.
abbrev mutual
  -- those that a statement calls
  pub stmt_callees : Stmt → List ℕ
  stmt_callees EmptyS = []
  stmt_callees (BlockS ss) = block_callees ss
  stmt_callees (LocalS x is_final ty e) = expr_callees e
  stmt_callees (SetVarS x e) = expr_callees e
  stmt_callees (SetFieldS e f g) = expr_callees e ++ expr_callees g
  stmt_callees (DoS e drops) = expr_callees e
  stmt_callees (IfS c s t) = expr_callees c ++ (stmt_callees s ++ stmt_callees t)
  stmt_callees (WhileS c s) = expr_callees c ++ stmt_callees s
  stmt_callees (SyncS p s) = stmt_callees s
  stmt_callees (ReturnS None) = []
  stmt_callees (ReturnS (Some e)) = expr_callees e
  stmt_callees (PrintS e) = expr_callees e
  stmt_callees (StartS e) = expr_callees e

  -- those that the statements of a block call
  pub block_callees : Stmts → List ℕ
  block_callees no_stmts = []
  block_callees (and_stmt s ss) = stmt_callees s ++ block_callees ss

-- a row that may be missing
abbrev pub callers_or_none : Option (List ℕ) → List ℕ
callers_or_none None = []
callers_or_none (Some row) = row

-- the row of method m; an empty one where there is none
abbrev pub callers_of_method : List (List ℕ) → ℕ → List ℕ
callers_of_method rows m = callers_or_none (slice_get rows m)

-- what the rows had they have still
abbrev pub HaveStill : List (List ℕ) → List (List ℕ) → Type 0
HaveStill rows now = (m caller : ℕ) → Contains (callers_of_method rows m) caller → Contains (callers_of_method now m) caller

-- a method's row has this caller, if it has a row, and what the rows had they have still
pub record HasCaller (rows now : List (List ℕ)) (callee caller : ℕ) : Type 0 where
  pub size : length now ≡ length rows
  pub has : callee < length rows → Contains (callers_of_method now callee) caller
  pub still : HaveStill rows now

-- the same of the row of each of these methods
pub record HasCallers (rows now : List (List ℕ)) (callees : List ℕ) (caller : ℕ) : Type 0 where
  pub size : length now ≡ length rows
  pub each : (callee : ℕ) → Contains callees callee → callee < length rows → Contains (callers_of_method now callee) caller
  pub still : HaveStill rows now

-- whether a row has a method
abbrev pub has_method : List ℕ → ℕ → Bool
has_method [] m = false
has_method (n ∷ row) m = n == m || has_method row m

-- whether a method's body calls a method, or that is one of those that override it
abbrev pub method_calls : Option Method → (overs : List ℕ) → ℕ → Bool
method_calls None overs callee = false
method_calls (Some method) overs callee = stmt_calls (λ m. m == callee) method.body || has_method overs callee

-- whether the first method counts as a caller of the second: it calls it in its body, or is overridden by it
abbrev pub counts_as_caller : Program → (overs : ℕ → List ℕ) → (caller callee : ℕ) → Bool
counts_as_caller P overs caller callee = method_calls (slice_get P.methods caller) (overs caller) callee

-- the row of each method has all its callers
abbrev pub AreCallers : Program → (overs : ℕ → List ℕ) → List (List ℕ) → Type 0
AreCallers P overs rows = (callee caller : ℕ) → callee < length rows → counts_as_caller P overs caller callee ≡ true → has_method (callers_of_method rows callee) caller ≡ true
