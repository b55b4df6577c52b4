-- Which statements can complete, and how many locals a statement declares.
use Rattle.std.specs.Prelude.{ℕ, ◌+◌, Bool, true, false, not, ◌&&◌, ◌||◌}
use Rattle.syntax.specs.Trees.{ExprTree, TruthE, ParenE, StmtTree, StmtTrees, BlockS, LocalS, IfS, IfElseS, WhileS, SyncS, ReturnS, no_stmts, more_stmts}

-- whether a condition is the literal `true`, in any parentheses
abbrev pub is_true_tree : ExprTree → Bool
is_true_tree (TruthE b at) = b
is_true_tree (ParenE e at) = is_true_tree e
is_true_tree _ = false

-- Whether a statement can complete, and whether the statements of a block can.
abbrev mutual
  -- whether a statement can complete
  pub completes : StmtTree → Bool
  completes (BlockS ss at) = completes_each ss
  completes (IfElseS c s u at) = completes s || completes u
  completes (WhileS c s at) = not (is_true_tree c)
  completes (SyncS l ss at) = completes_each ss
  completes (ReturnS e at) = false
  completes _ = true

  -- whether all statements of a block can complete
  pub completes_each : StmtTrees → Bool
  completes_each no_stmts = true
  completes_each (more_stmts s ss) = completes s && completes_each ss

-- The locals of a statement, and of the statements of a block.
abbrev mutual
  -- how many locals a statement declares
  pub locals_in : StmtTree → ℕ
  locals_in (BlockS ss at) = locals_in_each ss
  locals_in (LocalS fin ty n e at) = 1
  locals_in (IfS c s at) = locals_in s
  locals_in (IfElseS c s u at) = locals_in s + locals_in u
  locals_in (WhileS c s at) = locals_in s
  locals_in (SyncS l ss at) = locals_in_each ss
  locals_in _ = 0

  -- how many locals the statements of a block declare together
  pub locals_in_each : StmtTrees → ℕ
  locals_in_each no_stmts = 0
  locals_in_each (more_stmts s ss) = locals_in s + locals_in_each ss
