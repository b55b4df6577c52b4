-- What the program's trees are as plain data.
use Rattle.std.specs.Prelude.{List, [], ◌∷◌, map}
use Rattle.std.specs.Option.{option_map}
use Rattle.syntax.specs.declared.tree.Class.{Class}
use Rattle.syntax.specs.declared.tree.Expr.{Expr, Row_of-Expr, end_of-Expr, more_of-Expr}
use Rattle.syntax.specs.declared.tree.Expr as E
use Rattle.syntax.specs.declared.tree.Lock.{Lock}
use Rattle.syntax.specs.declared.tree.Member.{Member}
use Rattle.syntax.specs.declared.tree.Member.TheVariants as M
use Rattle.syntax.specs.declared.tree.Program.{Program}
use Rattle.syntax.specs.declared.tree.Stmt.{Stmt, Row_of-Stmt, end_of-Stmt, more_of-Stmt, None', Some'}
use Rattle.syntax.specs.declared.tree.Stmt as S
use Rattle.syntax.specs.Trees.{LockTree, ExprTree, ExprTrees, NumberE, LeastE, TruthE, NullE, ThisE, VarE, ParenE, NotE, NegE, BinaryE, GetE, CallE, NewE, no_exprs, more_exprs, StmtTree, StmtTrees, EmptyS, BlockS, LocalS, SetVarS, SetFieldS, DoS, IfS, IfElseS, WhileS, SyncS, ReturnS, PrintS, StartS, no_stmts, more_stmts, MemberTree, FieldM, CtorM, MethodM, ClassTree, ProgramTree}

-- a lock expression as plain data: its fields as a list, without the memory that holds them
abbrev pub lock_of : Lock → LockTree
lock_of l = record { root = l.root; fields = l.fields.items; at = l.at }

-- Expressions and rows of arguments as plain data.
abbrev mutual
  -- an expression as plain data
  pub expr_tree : Expr → ExprTree
  expr_tree (E.Number n at) = NumberE n at
  expr_tree (E.Least at) = LeastE at
  expr_tree (E.Truth b at) = TruthE b at
  expr_tree (E.Null at) = NullE at
  expr_tree (E.This at) = ThisE at
  expr_tree (E.Var n) = VarE n
  expr_tree (E.Paren' p e at) = ParenE (expr_tree e) at
  expr_tree (E.Not' p e at) = NotE (expr_tree e) at
  expr_tree (E.Neg' p e at) = NegE (expr_tree e) at
  expr_tree (E.Binary' op p e q f at) = BinaryE op (expr_tree e) (expr_tree f) at
  expr_tree (E.Get' p e n) = GetE (expr_tree e) n
  expr_tree (E.Call' p e n shape args) = CallE (expr_tree e) n (exprs_of args)
  expr_tree (E.New' n shape args at) = NewE n (exprs_of args) at

  -- a row of arguments as plain data
  pub exprs_of : {n : _} → Row_of-Expr n → ExprTrees
  exprs_of end_of-Expr = no_exprs
  exprs_of (more_of-Expr e rest) = more_exprs (expr_tree e) (exprs_of rest)

-- a list of expressions as arguments
abbrev pub exprs_from : List ExprTree → ExprTrees
exprs_from [] = no_exprs
exprs_from (e ∷ es) = more_exprs e (exprs_from es)

-- Statements and rows of them as plain data.
abbrev mutual
  -- a statement as plain data
  pub stmt_of : Stmt → StmtTree
  stmt_of (S.Empty at) = EmptyS at
  stmt_of (S.Block' shape stmts at) = BlockS (stmts_of stmts) at
  stmt_of (S.Local fin ty n e at) = LocalS fin ty n (expr_tree e.value) at
  stmt_of (S.SetVar n e at) = SetVarS n (expr_tree e.value) at
  stmt_of (S.SetField e n f at) = SetFieldS (expr_tree e.value) n (expr_tree f.value) at
  stmt_of (S.Do e at) = DoS (expr_tree e.value) at
  stmt_of (S.If' e p s None' at) = IfS (expr_tree e.value) (stmt_of s) at
  stmt_of (S.If' e p s (Some' q t) at) = IfElseS (expr_tree e.value) (stmt_of s) (stmt_of t) at
  stmt_of (S.While' e p s at) = WhileS (expr_tree e.value) (stmt_of s) at
  stmt_of (S.Sync' l shape stmts at) = SyncS (lock_of l) (stmts_of stmts) at
  stmt_of (S.Return e at) = ReturnS (option_map (λ b. expr_tree b.value) e) at
  stmt_of (S.Print e at) = PrintS (expr_tree e.value) at
  stmt_of (S.Start e at) = StartS (expr_tree e.value) at

  -- a row of statements as plain data
  pub stmts_of : {n : _} → Row_of-Stmt n → StmtTrees
  stmts_of end_of-Stmt = no_stmts
  stmts_of (more_of-Stmt s rest) = more_stmts (stmt_of s) (stmts_of rest)

-- a list of statements as those of a block
abbrev pub stmts_from : List StmtTree → StmtTrees
stmts_from [] = no_stmts
stmts_from (s ∷ ss) = more_stmts s (stmts_from ss)

-- a member of a class as plain data
abbrev pub member_of : Member → MemberTree
member_of (M.Field fin ty n guard writes_only) =
    FieldM record { is_final = fin; ty = ty; name = n; guard = option_map lock_of guard; writes_only = writes_only }
member_of (M.Ctor n params sets) = CtorM n params.items sets.items
member_of (M.Method atomic returns n params locks body end) =
    MethodM record {
      atomic = atomic;
      returns = returns;
      name = n;
      params = params.items;
      locks = map lock_of locks.items;
      body = stmts_from (map stmt_of body.items);
      end = end;
    }

-- a class as plain data
abbrev pub class_of : Class → ClassTree
class_of c = record { name = c.name; above = c.above; runnable = c.runnable; members = map member_of c.members.items }

-- a program as plain data: its classes, in order
abbrev pub program_tree : Program → ProgramTree
program_tree p = map class_of p.classes.items
