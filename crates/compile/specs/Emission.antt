-- The lines that the compiler puts down for each part, from its last action to its first. Every part is put down from
-- the place `at`, and goes on at the place `next`; in a statement, a return inside it goes on at the place `ret`.
use Rattle.std.specs.Prelude.{◌≡◌, ℕ, ◌+◌, true, false, List, [], ◌∷◌, ◌++◌, length, Some, None, is_some}
use Rattle.core_program.specs.declared.types.UnaryOp.TheVariants as unary
use Rattle.core_program.specs.Core.{Method, Expr, Exprs, IntE, TruthE, NullE, ThisE, VarE, NotE, NegE, BinaryE, AndE, OrE, GetE, CallE, NewE, no_exprs, and_expr}
use Rattle.core_program.specs.Core.{Stmt, Stmts, EmptyS, BlockS, LocalS, SetVarS, SetFieldS, DoS, IfS, WhileS, SyncS, ReturnS, PrintS, StartS, no_stmts, and_stmt}
use Rattle.state.specs.declared.value.Value.TheVariants as value
use Rattle.compile.specs.declared.stack.Instr.{Instr}
use Rattle.compile.specs.declared.stack.Instr.TheVariants as i
use Rattle.compile.specs.declared.stack.Code.{Code}

-- these lines stand at the front, and maybe some behind them
pub record KeepsCode (front lines : List Code) : Type 0 where
  pub behind : List Code
  pub whole : lines ≡ front ++ behind

-- a line of code
abbrev pub code_line : Instr → ℕ → Code
code_line instr next = record { instr = instr; next = next }

-- How many lines.
abbrev mutual
  -- the lines of an expression: one for each value, operator, access, call and `new`
  pub weight : Expr → ℕ
  weight (NotE e) = 1 + weight e
  weight (NegE e) = 1 + weight e
  weight (BinaryE op a b) = 1 + weight b + weight a
  weight (AndE a b) = weight b + 1 + weight a
  weight (OrE a b) = weight b + 1 + weight a
  weight (GetE e f) = 1 + weight e
  weight (CallE e m args) = 1 + weights args + weight e
  weight (NewE c args) = 1 + weights args
  weight _ = 1

  -- the lines of all arguments
  pub weights : Exprs → ℕ
  weights no_exprs = 0
  weights (and_expr e es) = weights es + weight e

-- How many lines statements and blocks have.
abbrev mutual
  -- the lines of a statement; a `return` has none of its own, since it goes on at the one line of its method that returns
  pub stmt_weight : Stmt → ℕ
  stmt_weight EmptyS = 0
  stmt_weight (BlockS ss) = stmts_weight ss
  stmt_weight (LocalS x is_final ty e) = 1 + weight e
  stmt_weight (SetVarS x e) = 1 + weight e
  stmt_weight (SetFieldS a f b) = 1 + weight b + weight a
  stmt_weight (DoS e true) = 1 + weight e
  stmt_weight (DoS e false) = weight e
  stmt_weight (IfS c s t) = stmt_weight t + stmt_weight s + 1 + weight c
  stmt_weight (WhileS c s) = 1 + weight c + stmt_weight s
  stmt_weight (SyncS p s) = 2 + stmt_weight s + 1 + length p.fields + 1
  stmt_weight (ReturnS None) = 0
  stmt_weight (ReturnS (Some e)) = weight e
  stmt_weight (PrintS e) = 1 + weight e
  stmt_weight (StartS e) = 1 + weight e

  -- the lines of the statements of a block
  pub stmts_weight : Stmts → ℕ
  stmts_weight no_stmts = 0
  stmts_weight (and_stmt s ss) = stmts_weight ss + stmt_weight s

-- Where a part begins.
abbrev mutual
  -- the place of the line that an expression begins with, which is that of its first part, or its own where it has none
  pub expr_entry : Expr → (at next : ℕ) → ℕ
  expr_entry (NotE e) at next = expr_entry e (at + 1) at
  expr_entry (NegE e) at next = expr_entry e (at + 1) at
  expr_entry (BinaryE op a b) at next = expr_entry a (at + 1 + weight b) (expr_entry b (at + 1) at)
  expr_entry (AndE a b) at next = expr_entry a (at + weight b + 1) (at + weight b)
  expr_entry (OrE a b) at next = expr_entry a (at + weight b + 1) (at + weight b)
  expr_entry (GetE e f) at next = expr_entry e (at + 1) at
  expr_entry (CallE e m args) at next = expr_entry e (at + 1 + weights args) (exprs_entry args (at + 1) at)
  expr_entry (NewE c args) at next = exprs_entry args (at + 1) at
  expr_entry _ at next = at

  -- the place at which the first argument begins; without arguments it goes on at `next` at once
  pub exprs_entry : Exprs → (at next : ℕ) → ℕ
  exprs_entry no_exprs at next = next
  exprs_entry (and_expr e es) at next = expr_entry e (at + weights es) (exprs_entry es at next)

-- the reads of the fields of a lock
abbrev pub gets_entry : List ℕ → (at next : ℕ) → ℕ
gets_entry [] at next = next
gets_entry (f ∷ fs) at next = at + length fs

-- Where a statement and a block begin.
abbrev mutual
  -- the place at which a statement begins; an empty one begins where it goes on, and a `return` without a value at `ret`
  pub stmt_entry : Stmt → (at next ret : ℕ) → ℕ
  stmt_entry EmptyS at next ret = next
  stmt_entry (BlockS ss) at next ret = stmts_entry ss at next ret
  stmt_entry (LocalS x is_final ty e) at next ret = expr_entry e (at + 1) at
  stmt_entry (SetVarS x e) at next ret = expr_entry e (at + 1) at
  stmt_entry (SetFieldS a f b) at next ret = expr_entry a (at + 1 + weight b) (expr_entry b (at + 1) at)
  stmt_entry (DoS e true) at next ret = expr_entry e (at + 1) at
  stmt_entry (DoS e false) at next ret = expr_entry e at next
  stmt_entry (IfS c s t) at next ret = expr_entry c (at + stmt_weight t + stmt_weight s + 1) (at + stmt_weight t + stmt_weight s)
  stmt_entry (WhileS c s) at next ret = expr_entry c (at + 1) at
  stmt_entry (SyncS p s) at next ret = at + 2 + stmt_weight s + 1 + length p.fields
  stmt_entry (ReturnS None) at next ret = ret
  stmt_entry (ReturnS (Some e)) at next ret = expr_entry e at ret
  stmt_entry (PrintS e) at next ret = expr_entry e (at + 1) at
  stmt_entry (StartS e) at next ret = expr_entry e (at + 1) at

  -- the place at which the first statement of a block begins
  pub stmts_entry : Stmts → (at next ret : ℕ) → ℕ
  stmts_entry no_stmts at next ret = next
  stmts_entry (and_stmt s ss) at next ret = stmt_entry s (at + stmts_weight ss) (stmts_entry ss at next ret) ret

-- The lines.
abbrev mutual
  -- the lines of an expression, from its last action to its first
  pub emitted : Expr → (at next : ℕ) → List Code
  emitted (IntE n) at next = code_line (i.Push (value.Int n)) next ∷ []
  emitted (TruthE b) at next = code_line (i.Push (value.Truth b)) next ∷ []
  emitted NullE at next = code_line (i.Push value.Null) next ∷ []
  emitted ThisE at next = code_line (i.Load 0) next ∷ []
  emitted (VarE x is_final ty) at next = code_line (i.Load x) next ∷ []
  emitted (NotE e) at next = code_line (i.Unary unary.Not) next ∷ emitted e (at + 1) at
  emitted (NegE e) at next = code_line (i.Unary unary.Neg) next ∷ emitted e (at + 1) at
  emitted (BinaryE op a b) at next =
      code_line (i.Binary op) next ∷ (emitted b (at + 1) at ++ emitted a (at + 1 + weight b) (expr_entry b (at + 1) at))
  emitted (AndE a b) at next =
      emitted b at next ++ (code_line (i.AndThen (expr_entry b at next)) next ∷ emitted a (at + weight b + 1) (at + weight b))
  emitted (OrE a b) at next =
      emitted b at next ++ (code_line (i.OrElse (expr_entry b at next)) next ∷ emitted a (at + weight b + 1) (at + weight b))
  emitted (GetE e f) at next = code_line (i.Get f) next ∷ emitted e (at + 1) at
  emitted (CallE e m args) at next =
      code_line (i.Call m) next ∷ (emitted_args args (at + 1) at ++ emitted e (at + 1 + weights args) (exprs_entry args (at + 1) at))
  emitted (NewE c args) at next = code_line (i.New c) next ∷ emitted_args args (at + 1) at

  -- the lines of arguments, those of the last one first
  pub emitted_args : Exprs → (at next : ℕ) → List Code
  emitted_args no_exprs at next = []
  emitted_args (and_expr e es) at next = emitted_args es at next ++ emitted e (at + weights es) (exprs_entry es at next)

-- the reads of the fields of a lock
abbrev pub emitted_gets : List ℕ → (at next : ℕ) → List Code
emitted_gets [] at next = []
emitted_gets (f ∷ fs) at next = emitted_gets fs at next ++ (code_line (i.Get f) (gets_entry fs at next) ∷ [])

-- The lines of a statement and of a block.
abbrev mutual
  -- the lines of a statement
  pub emitted_stmt : Stmt → (at next ret : ℕ) → List Code
  emitted_stmt EmptyS at next ret = []
  emitted_stmt (BlockS ss) at next ret = emitted_stmts ss at next ret
  emitted_stmt (LocalS x is_final ty e) at next ret = code_line (i.Store x) next ∷ emitted e (at + 1) at
  emitted_stmt (SetVarS x e) at next ret = code_line (i.Store x) next ∷ emitted e (at + 1) at
  emitted_stmt (SetFieldS a f b) at next ret =
      code_line (i.Put f) next ∷ (emitted b (at + 1) at ++ emitted a (at + 1 + weight b) (expr_entry b (at + 1) at))
  emitted_stmt (DoS e true) at next ret = code_line i.Drop next ∷ emitted e (at + 1) at
  emitted_stmt (DoS e false) at next ret = emitted e at next
  emitted_stmt (IfS c s t) at next ret =
      emitted_stmt t at next ret
      ++ (emitted_stmt s (at + stmt_weight t) next ret
      ++ (code_line (i.Branch (stmt_entry t at next ret)) (stmt_entry s (at + stmt_weight t) next ret)
      ∷ emitted c (at + stmt_weight t + stmt_weight s + 1) (at + stmt_weight t + stmt_weight s)))
  emitted_stmt (WhileS c s) at next ret =
      code_line (i.Branch next) (stmt_entry s (at + 1 + weight c) (expr_entry c (at + 1) at) ret)
      ∷ (emitted c (at + 1) at ++ emitted_stmt s (at + 1 + weight c) (expr_entry c (at + 1) at) ret)
  emitted_stmt (SyncS p s) at next ret =
      code_line i.Release next
      ∷ (code_line i.Release ret
      ∷ (emitted_stmt s (at + 2) at (at + 1)
      ++ (code_line i.Acquire (stmt_entry s (at + 2) at (at + 1))
      ∷ (emitted_gets p.fields (at + 2 + stmt_weight s + 1) (at + 2 + stmt_weight s)
      ++ (code_line (i.Load p.root) (gets_entry p.fields (at + 2 + stmt_weight s + 1) (at + 2 + stmt_weight s)) ∷ [])))))
  emitted_stmt (ReturnS None) at next ret = []
  emitted_stmt (ReturnS (Some e)) at next ret = emitted e at ret
  emitted_stmt (PrintS e) at next ret = code_line i.Print next ∷ emitted e (at + 1) at
  emitted_stmt (StartS e) at next ret = code_line i.Start next ∷ emitted e (at + 1) at

  -- the lines of the statements of a block, those of the last one first
  pub emitted_stmts : Stmts → (at next ret : ℕ) → List Code
  emitted_stmts no_stmts at next ret = []
  emitted_stmts (and_stmt s ss) at next ret =
      emitted_stmts ss at next ret ++ emitted_stmt s (at + stmts_weight ss) (stmts_entry ss at next ret) ret

-- a method: the return, which the body and each return inside it go on at, and the body
abbrev pub emitted_method : Method → (at : ℕ) → List Code
emitted_method m at = code_line (i.Ret (is_some m.result)) 0 ∷ emitted_stmt m.body (at + 1) at at

-- the lines of a method: its return, and those of its body
abbrev pub method_weight : Method → ℕ
method_weight m = 1 + stmt_weight m.body

-- the place at which a method begins whose lines stand from `at` on
abbrev pub first_line_of_method : Method → (at : ℕ) → ℕ
first_line_of_method m at = stmt_entry m.body (at + 1) at at

-- methods, one after the other
abbrev pub emitted_methods : List Method → (at : ℕ) → List Code
emitted_methods [] at = []
emitted_methods (m ∷ ms) at = emitted_method m at ++ emitted_methods ms (at + method_weight m)

-- the place at which each method begins, where the lines of the first one stand from `at` on
abbrev pub method_entries : List Method → (at : ℕ) → List ℕ
method_entries [] at = []
method_entries (m ∷ ms) at = first_line_of_method m at ∷ method_entries ms (at + method_weight m)
