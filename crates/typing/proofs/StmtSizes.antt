-- How many nodes the core node of a statement has at most, and how high its tree is at least.
use Rattle.std.proofs.Common.{ℕ, ◌+◌, ◌≤◌, max, Some, None, arith}
use Rattle.syntax.specs.Trees.{StmtTree, StmtTrees, IfElseS, more_stmts}
use Rattle.syntax.specs.Trees as tree
use Rattle.syntax.specs.Heights as tree_height
use Rattle.typing.proofs.Shapes.{size}

abbrev mutual
  -- how many nodes a statement's core node has at most
  pub stmt_size : StmtTree → ℕ
  stmt_size (tree.EmptyS at) = 1
  stmt_size (tree.BlockS ss at) = 1 + stmt_sizes ss
  stmt_size (tree.LocalS fin ty n e at) = 1 + size e
  stmt_size (tree.SetVarS n e at) = 1 + size e
  stmt_size (tree.SetFieldS e n value at) = 1 + (size e + size value)
  stmt_size (tree.DoS e at) = 1 + size e
  stmt_size (tree.IfS c s at) = 1 + (size c + (stmt_size s + 1))
  stmt_size (IfElseS c s u at) = 1 + (size c + (stmt_size s + stmt_size u))
  stmt_size (tree.WhileS c s at) = 1 + (size c + stmt_size s)
  stmt_size (tree.SyncS l ss at) = 1 + (1 + stmt_sizes ss)
  stmt_size (tree.ReturnS None at) = 1
  stmt_size (tree.ReturnS (Some e) at) = 1 + size e
  stmt_size (tree.PrintS e at) = 1 + size e
  stmt_size (tree.StartS e at) = 1 + size e

  pub stmt_sizes : StmtTrees → ℕ
  stmt_sizes tree.no_stmts = 0
  stmt_sizes (more_stmts s ss) = stmt_size s + stmt_sizes ss

pub max_if : (a b c d : ℕ) → a ≤ c → b ≤ d → 1 ≤ d → max a (max b 1) ≤ max c d
max_if a b c d h k one = grind arith

pub at_least_one : (s : StmtTree) → 1 ≤ tree_height.stmt_height s
at_least_one (tree.EmptyS at) = omega arith
at_least_one (tree.BlockS ss at) = omega arith
at_least_one (tree.LocalS fin ty n e at) = omega arith
at_least_one (tree.SetVarS n e at) = omega arith
at_least_one (tree.SetFieldS e n value at) = omega arith
at_least_one (tree.DoS e at) = omega arith
at_least_one (tree.IfS c s at) = omega arith
at_least_one (IfElseS c s u at) = omega arith
at_least_one (tree.WhileS c s at) = omega arith
at_least_one (tree.SyncS l ss at) = omega arith
at_least_one (tree.ReturnS None at) = omega arith
at_least_one (tree.ReturnS (Some e) at) = omega arith
at_least_one (tree.PrintS e at) = omega arith
at_least_one (tree.StartS e at) = omega arith
