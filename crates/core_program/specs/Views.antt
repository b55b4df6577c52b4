-- What a program, a method, a statement or an expression in memory is as plain data.
use Rattle.std.specs.Prelude.{List, [], ◌∷◌, map, Some, None}
use Rattle.core_program.specs.declared.tree.CoreExpr.{CoreExpr, Row_of-CoreExpr, end_of-CoreExpr, more_of-CoreExpr}
use Rattle.core_program.specs.declared.tree.CoreExpr.TheVariants as e
use Rattle.core_program.specs.declared.tree.CoreStmt.{CoreStmt, Row_of-CoreStmt, end_of-CoreStmt, more_of-CoreStmt}
use Rattle.core_program.specs.declared.tree.CoreStmt.TheVariants as s
use Rattle.core_program.specs.declared.program.CoreClass.{CoreClass}
use Rattle.core_program.specs.declared.program.CoreField.{CoreField}
use Rattle.core_program.specs.declared.program.CoreMethod.{CoreMethod}
use Rattle.core_program.specs.declared.program.CoreProgram.{CoreProgram}
use Rattle.core_program.specs.Core.{Expr, IntE, TruthE, NullE, ThisE, VarE, NotE, NegE, BinaryE, AndE, OrE, GetE, CallE, NewE, Exprs, no_exprs, and_expr}
use Rattle.core_program.specs.Core.{Stmt, EmptyS, BlockS, LocalS, SetVarS, SetFieldS, DoS, IfS, WhileS, SyncS, ReturnS, PrintS, StartS, Stmts, no_stmts, and_stmt}
use Rattle.core_program.specs.Core.{Class, Field, Method, Program}
use Rattle.core_program.specs.Kept.{kept_class}
use Rattle.core_program.specs.Pairs.{KeptClass, class_with_pairs}

-- Expressions and rows of arguments as plain data.
abbrev mutual
  -- an expression as plain data
  pub expr_of : CoreExpr → Expr
  expr_of (e.Int n) = IntE n
  expr_of (e.Truth b) = TruthE b
  expr_of e.Null = NullE
  expr_of e.This = ThisE
  expr_of (e.Var slot is_final ty) = VarE slot is_final ty
  expr_of (e.Not' p a) = NotE (expr_of a)
  expr_of (e.Neg' p a) = NegE (expr_of a)
  expr_of (e.Binary' op p a q b) = BinaryE op (expr_of a) (expr_of b)
  expr_of (e.And' p a q b) = AndE (expr_of a) (expr_of b)
  expr_of (e.Or' p a q b) = OrE (expr_of a) (expr_of b)
  expr_of (e.Get' p a field) = GetE (expr_of a) field
  expr_of (e.Call' p a method shape args) = CallE (expr_of a) method (exprs_of args)
  expr_of (e.New' class shape args) = NewE class (exprs_of args)

  -- arguments as plain data
  pub exprs_of : {n : _} → Row_of-CoreExpr n → Exprs
  exprs_of end_of-CoreExpr = no_exprs
  exprs_of (more_of-CoreExpr a rest) = and_expr (expr_of a) (exprs_of rest)

-- Statements and rows of them as plain data.
abbrev mutual
  -- a statement as plain data
  pub stmt_of : CoreStmt → Stmt
  stmt_of s.Empty = EmptyS
  stmt_of (s.Block' shape body) = BlockS (stmts_of body)
  stmt_of (s.Local slot is_final ty value) = LocalS slot is_final ty (expr_of value.value)
  stmt_of (s.SetVar slot value) = SetVarS slot (expr_of value.value)
  stmt_of (s.SetField receiver field value) = SetFieldS (expr_of receiver.value) field (expr_of value.value)
  stmt_of (s.Do a drops) = DoS (expr_of a.value) drops
  stmt_of (s.If' c p a q b) = IfS (expr_of c.value) (stmt_of a) (stmt_of b)
  stmt_of (s.While' c p a) = WhileS (expr_of c.value) (stmt_of a)
  stmt_of (s.Sync' path p a) = SyncS path (stmt_of a)
  stmt_of (s.Return None) = ReturnS None
  stmt_of (s.Return (Some a)) = ReturnS (Some (expr_of a.value))
  stmt_of (s.Print a) = PrintS (expr_of a.value)
  stmt_of (s.Start a) = StartS (expr_of a.value)

  -- the statements of a block as plain data
  pub stmts_of : {n : _} → Row_of-CoreStmt n → Stmts
  stmts_of end_of-CoreStmt = no_stmts
  stmts_of (more_of-CoreStmt a rest) = and_stmt (stmt_of a) (stmts_of rest)

-- what a program keeps of its classes
abbrev pub kept_classes : CoreProgram → List KeptClass
kept_classes p = map kept_class p.classes.items

-- a class of a program as plain data, with the pairs that the program tells
abbrev pub core_class_of : CoreProgram → CoreClass → Class
core_class_of p c = class_with_pairs (kept_classes p) p.names.items (kept_class c)

-- a field as plain data
abbrev pub field_of : CoreField → Field
field_of f = record { class = f.class; index = f.index; is_final = f.is_final; ty = f.ty; guard = f.guard; writes_only = f.writes_only }

-- a method as plain data
abbrev pub method_of : CoreMethod → Method
method_of m = record {
  class = m.class;
  place_at = m.place_at;
  annotated = m.annotated;
  requires_ = m.requires_.items;
  params = m.params.items;
  result = m.result;
  slots = m.slots;
  body = stmt_of m.body;
}

-- a program as plain data
abbrev pub program_of : CoreProgram → Program
program_of p = record {
  classes = map (class_with_pairs (kept_classes p) p.names.items) (kept_classes p);
  fields = map field_of p.fields.items;
  methods = map method_of p.methods.items;
  main_class = p.main_class;
  main = p.main;
}

-- arguments as plain data, from a list of them
abbrev pub exprs_from : List CoreExpr → Exprs
exprs_from [] = no_exprs
exprs_from (a ∷ rest) = and_expr (expr_of a) (exprs_from rest)

-- the statements of a block as plain data, from a list of them
abbrev pub stmts_from : List CoreStmt → Stmts
stmts_from [] = no_stmts
stmts_from (a ∷ rest) = and_stmt (stmt_of a) (stmts_from rest)
