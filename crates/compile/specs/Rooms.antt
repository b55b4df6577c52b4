-- How many operands stand in a frame at each place of the code, and how many at most.
use Rattle.std.specs.Prelude.{◌≡◌, ℕ, ◌+◌, ◌-◌, max, Bool, true, false, ◌&&◌, ◌||◌, List, [], ◌∷◌, length, Option, Some, None, slice_get}
use Rattle.core_program.specs.declared.types.CoreType.{CoreType}
use Rattle.core_program.specs.Core.{Program, Class, Method}
use Rattle.core_program.specs.Core.{Expr, Exprs, NotE, NegE, BinaryE, AndE, OrE, GetE, CallE, NewE, no_exprs, and_expr}
use Rattle.core_program.specs.Core.{Stmt, Stmts, EmptyS, BlockS, LocalS, SetVarS, SetFieldS, DoS, IfS, WhileS, SyncS, ReturnS, PrintS, StartS, no_stmts, and_stmt}
use Rattle.core_program.specs.Typed.{can_complete}
use Rattle.compile.specs.declared.stack.Instr.{Instr}
use Rattle.compile.specs.declared.stack.Instr.TheVariants as i
use Rattle.compile.specs.declared.stack.Code.{Code}

-- The code's side: how an instruction changes the number of operands.

-- how many arguments a `new` of a class takes
abbrev pub arguments_of_new : Option Class → ℕ
arguments_of_new None = 0
arguments_of_new (Some c) = length c.finals

-- how many arguments a call takes
abbrev pub arguments_of_call : Option Method → ℕ
arguments_of_call None = 0
arguments_of_call (Some m) = length m.params

-- one more operand where a method has a result
abbrev pub with_result_of : Option CoreType → ℕ → ℕ
with_result_of None n = n
with_result_of (Some t) n = n + 1

-- how many operands stand when a call is over, where n stood before its arguments and receiver
abbrev pub after_call : Option Method → ℕ → ℕ
after_call None n = n
after_call (Some m) n = with_result_of m.result n

-- how many operands a frame has at the next place after an instruction, where n stood before it; none after a return
abbrev pub at_next : Program → Instr → ℕ → Option ℕ
at_next P (i.Push v) n = Some (n + 1)
at_next P (i.Load x) n = Some (n + 1)
at_next P (i.Store x) n = Some (n - 1)
at_next P i.Drop n = Some (n - 1)
at_next P (i.Unary op) n = Some (n - 1 + 1)
at_next P (i.Binary op) n = Some (n - 2 + 1)
at_next P (i.AndThen other) n = Some (n - 1 + 1)
at_next P (i.OrElse other) n = Some (n - 1 + 1)
at_next P (i.Branch other) n = Some (n - 1)
at_next P (i.Get f) n = Some (n - 1 + 1)
at_next P (i.Put f) n = Some (n - 2)
at_next P (i.New c) n = Some (n - arguments_of_new (slice_get P.classes c) + 1)
at_next P (i.Call m) n = Some (after_call (slice_get P.methods m) (n - arguments_of_call (slice_get P.methods m) - 1))
at_next P i.Acquire n = Some (n - 1)
at_next P i.Release n = Some n
at_next P (i.Ret result) n = None
at_next P i.Print n = Some (n - 1)
at_next P i.Start n = Some (n - 1)

-- the place of the other outcome, where there is one: there stands one operand less
abbrev pub other_place : Instr → Option ℕ
other_place (i.AndThen other) = Some other
other_place (i.OrElse other) = Some other
other_place (i.Branch other) = Some other
other_place _ = None

-- the places that are reached from a place, each with a number of operands with which it is reached
pub data ReachedPlace (P : Program) (code : List Code) (start : ℕ) : ℕ → ℕ → Type 0 where
  at_start : ReachedPlace P code start start 0
  goes_on : (place n m : ℕ) (c : Code) → ReachedPlace P code start place n → slice_get code place ≡ Some c →
      at_next P c.instr n ≡ Some m → ReachedPlace P code start c.next m
  turns : (place n other : ℕ) (c : Code) → ReachedPlace P code start place n → slice_get code place ≡ Some c →
      other_place c.instr ≡ Some other → ReachedPlace P code start other (n - 1)

-- The tree's side: the greatest number of operands that stand while a part is done, besides those that stood before it.
abbrev mutual
  -- of an expression
  pub expr_room : Expr → ℕ
  expr_room (NotE e) = expr_room e
  expr_room (NegE e) = expr_room e
  expr_room (BinaryE op a b) = max (expr_room a) (1 + expr_room b)
  expr_room (AndE a b) = max (expr_room a) (expr_room b)
  expr_room (OrE a b) = max (expr_room a) (expr_room b)
  expr_room (GetE e f) = expr_room e
  expr_room (CallE e m args) = max (expr_room e) (1 + exprs_room args)
  expr_room (NewE c args) = max 1 (exprs_room args)
  expr_room _ = 1

  -- of arguments, the first one deepest
  pub exprs_room : Exprs → ℕ
  exprs_room no_exprs = 0
  exprs_room (and_expr e es) = max (expr_room e) (1 + exprs_room es)

-- The same of statements and blocks.
abbrev mutual
  -- of a statement
  pub stmt_room : Stmt → ℕ
  stmt_room EmptyS = 0
  stmt_room (BlockS ss) = stmts_room ss
  stmt_room (LocalS x is_final ty e) = expr_room e
  stmt_room (SetVarS x e) = expr_room e
  stmt_room (SetFieldS e f g) = max (expr_room e) (1 + expr_room g)
  stmt_room (DoS e drops) = expr_room e
  stmt_room (IfS c s t) = max (expr_room c) (max (stmt_room s) (stmt_room t))
  stmt_room (WhileS c s) = max (expr_room c) (stmt_room s)
  stmt_room (SyncS p s) = max 1 (stmt_room s)
  stmt_room (ReturnS None) = 0
  stmt_room (ReturnS (Some e)) = expr_room e
  stmt_room (PrintS e) = expr_room e
  stmt_room (StartS e) = expr_room e

  -- of the statements of a block
  pub stmts_room : Stmts → ℕ
  stmts_room no_stmts = 0
  stmts_room (and_stmt s ss) = max (stmt_room s) (stmts_room ss)

-- whether no statement follows
abbrev pub none_follow : Stmts → Bool
none_follow no_stmts = true
none_follow (and_stmt s ss) = false

-- Whether control can come to every statement that stands in a part: in a block each but the last one completes.
abbrev mutual
  -- of a statement
  pub is_whole : Stmt → Bool
  is_whole (BlockS ss) = are_whole ss
  is_whole (IfS c s t) = is_whole s && is_whole t
  is_whole (WhileS c s) = is_whole s
  is_whole (SyncS p s) = is_whole s
  is_whole _ = true

  -- of the statements of a block
  pub are_whole : Stmts → Bool
  are_whole no_stmts = true
  are_whole (and_stmt s ss) = is_whole s && ((none_follow ss || can_complete s) && are_whole ss)

-- of methods, one after the other
abbrev pub method_rooms : List Method → List ℕ
method_rooms [] = []
method_rooms (m ∷ ms) = stmt_room m.body ∷ method_rooms ms
