-- Trees without their offsets.
use Rattle.std.specs.Prelude.{map, Some, None}
use Rattle.std.specs.Option.{option_map}
use Rattle.syntax.specs.declared.tree.Name.{Name}
use Rattle.syntax.specs.declared.tree.Param.{Param}
use Rattle.syntax.specs.declared.tree.TypeName.{TypeName}
use Rattle.syntax.specs.declared.tree.TypeName.TheVariants as Y
use Rattle.syntax.specs.Trees.{LockTree, ExprTree, ExprTrees, NumberE, LeastE, TruthE, NullE, ThisE, VarE, ParenE, NotE, NegE, BinaryE, GetE, CallE, NewE, no_exprs, more_exprs, StmtTree, StmtTrees, EmptyS, BlockS, LocalS, SetVarS, SetFieldS, DoS, IfS, IfElseS, WhileS, SyncS, ReturnS, PrintS, StartS, no_stmts, more_stmts, MemberTree, FieldM, CtorM, MethodM, ClassTree, ProgramTree}

-- each part with 0 in place of its offset
abbrev pub bare_name : Name → Name
bare_name n = record { text = n.text; at = 0 }

-- a type whose class name, if it has one, stands at offset 0
abbrev pub bare_type : TypeName → TypeName
bare_type Y.Int = Y.Int
bare_type Y.Boolean = Y.Boolean
bare_type (Y.Class n) = Y.Class (bare_name n)

-- a lock of which all names stand at offset 0
abbrev pub bare_lock : LockTree → LockTree
bare_lock l = record { root = option_map bare_name l.root; fields = map bare_name l.fields; at = 0 }

-- Expressions and arguments, each offset replaced by 0.
abbrev mutual
  -- the same expression with all offsets 0, which is equal for two expressions that differ in their places alone
  pub bare_expr : ExprTree → ExprTree
  bare_expr (NumberE n at) = NumberE n 0
  bare_expr (LeastE at) = LeastE 0
  bare_expr (TruthE b at) = TruthE b 0
  bare_expr (NullE at) = NullE 0
  bare_expr (ThisE at) = ThisE 0
  bare_expr (VarE n) = VarE (bare_name n)
  bare_expr (ParenE e at) = ParenE (bare_expr e) 0
  bare_expr (NotE e at) = NotE (bare_expr e) 0
  bare_expr (NegE e at) = NegE (bare_expr e) 0
  bare_expr (BinaryE op e f at) = BinaryE op (bare_expr e) (bare_expr f) 0
  bare_expr (GetE e n) = GetE (bare_expr e) (bare_name n)
  bare_expr (CallE e n args) = CallE (bare_expr e) (bare_name n) (bare_exprs args)
  bare_expr (NewE n args at) = NewE (bare_name n) (bare_exprs args) 0

  -- the same arguments with all offsets 0
  pub bare_exprs : ExprTrees → ExprTrees
  bare_exprs no_exprs = no_exprs
  bare_exprs (more_exprs e es) = more_exprs (bare_expr e) (bare_exprs es)

-- Statements and blocks, each offset replaced by 0.
abbrev mutual
  -- the same statement with all offsets 0
  pub bare_stmt : StmtTree → StmtTree
  bare_stmt (EmptyS at) = EmptyS 0
  bare_stmt (BlockS ss at) = BlockS (bare_stmts ss) 0
  bare_stmt (LocalS fin ty n e at) = LocalS fin (bare_type ty) (bare_name n) (bare_expr e) 0
  bare_stmt (SetVarS n e at) = SetVarS (bare_name n) (bare_expr e) 0
  bare_stmt (SetFieldS e n f at) = SetFieldS (bare_expr e) (bare_name n) (bare_expr f) 0
  bare_stmt (DoS e at) = DoS (bare_expr e) 0
  bare_stmt (IfS e s at) = IfS (bare_expr e) (bare_stmt s) 0
  bare_stmt (IfElseS e s t at) = IfElseS (bare_expr e) (bare_stmt s) (bare_stmt t) 0
  bare_stmt (WhileS e s at) = WhileS (bare_expr e) (bare_stmt s) 0
  bare_stmt (SyncS l ss at) = SyncS (bare_lock l) (bare_stmts ss) 0
  bare_stmt (ReturnS None at) = ReturnS None 0
  bare_stmt (ReturnS (Some e) at) = ReturnS (Some (bare_expr e)) 0
  bare_stmt (PrintS e at) = PrintS (bare_expr e) 0
  bare_stmt (StartS e at) = StartS (bare_expr e) 0

  -- the same statements with all offsets 0
  pub bare_stmts : StmtTrees → StmtTrees
  bare_stmts no_stmts = no_stmts
  bare_stmts (more_stmts s ss) = more_stmts (bare_stmt s) (bare_stmts ss)

-- the same parameter with all offsets 0
abbrev pub bare_param : Param → Param
bare_param p = record { is_final = p.is_final; ty = bare_type p.ty; name = bare_name p.name }

-- the same line of a constructor, a field and a parameter, with both names at offset 0
abbrev pub bare_set : (Name × Name) → (Name × Name)
bare_set p = (bare_name p.0, bare_name p.1)

-- the same member with all offsets 0
abbrev pub bare_member : MemberTree → MemberTree
bare_member (FieldM f) =
    FieldM record {
      is_final = f.is_final;
      ty = bare_type f.ty;
      name = bare_name f.name;
      guard = option_map bare_lock f.guard;
      writes_only = f.writes_only;
    }
bare_member (CtorM n params sets) = CtorM (bare_name n) (map bare_param params) (map bare_set sets)
bare_member (MethodM m) =
    MethodM record {
      atomic = m.atomic;
      returns = option_map bare_type m.returns;
      name = bare_name m.name;
      params = map bare_param m.params;
      locks = map bare_lock m.locks;
      body = bare_stmts m.body;
      end = 0;
    }

-- the same class with all offsets 0
abbrev pub bare_class : ClassTree → ClassTree
bare_class c = record { name = bare_name c.name; above = option_map bare_name c.above; runnable = c.runnable; members = map bare_member c.members }

-- a program without its offsets
abbrev pub without_offsets : ProgramTree → ProgramTree
without_offsets t = map bare_class t
