-- What a frame has still to do, and how its first item is opened until it is an action.
use Rattle.std.specs.Prelude.{ℕ, true, false, List, [], ◌∷◌, Option, Some, None}
use Rattle.core_program.specs.declared.types.CoreOp.{CoreOp}
use Rattle.core_program.specs.declared.types.UnaryOp.{UnaryOp}
use Rattle.core_program.specs.declared.types.UnaryOp.TheVariants.{Not, Neg}
use Rattle.core_program.specs.Core.{Expr, Exprs, IntE, TruthE, NullE, ThisE, VarE, NotE, NegE, BinaryE, AndE, OrE, GetE, CallE, NewE, no_exprs, and_expr}
use Rattle.core_program.specs.Core.{Stmt, Stmts, EmptyS, BlockS, LocalS, SetVarS, SetFieldS, DoS, IfS, WhileS, SyncS, ReturnS, PrintS, StartS, no_stmts, and_stmt}
use Rattle.state.specs.declared.value.Address.{Address}
use Rattle.state.specs.declared.value.Value.{Value}
use Rattle.state.specs.declared.value.Value.TheVariants as value

-- an action: what one step does
pub data Action : Type 0 where
  Push : Value → Action
  Load : ℕ → Action
  Store : ℕ → Action
  Drop : Action
  Unary : UnaryOp → Action
  Binary : CoreOp → Action
  AndThen : Expr → Action
  OrElse : Expr → Action
  Choose : Stmt → Stmt → Action
  Loop : Expr → Stmt → Action
  Get : ℕ → Action
  Put : ℕ → Action
  New : ℕ → Action
  Call : ℕ → Action
  Acquire : Stmt → Action
  Release : Address → Action
  Ret : Action
  Print : Action
  Start : Action

-- an item of a work list: an expression, a statement or an action
pub data Item : Type 0 where
  Ex : Expr → Item
  St : Stmt → Item
  Act : Action → Item

-- the next action, with what stands after it
abbrev pub Next : Type 0
Next = Action × List Item

-- arguments in order, before more
abbrev pub exprs_items : Exprs → List Item → List Item
exprs_items no_exprs more = more
exprs_items (and_expr e es) more = Ex e ∷ exprs_items es more

-- statements in order, before more
abbrev pub stmts_items : Stmts → List Item → List Item
stmts_items no_stmts more = more
stmts_items (and_stmt s ss) more = St s ∷ stmts_items ss more

-- the reads of these fields, before more
abbrev pub gets : List ℕ → List Item → List Item
gets [] more = more
gets (f ∷ fs) more = Act (Get f) ∷ gets fs more

-- What expressions open into.
abbrev mutual
  -- what an expression opens into, before more: its parts in order, then its own action
  pub open_expr : Expr → List Item → Next
  open_expr (IntE n) more = (Push (value.Int n), more)
  open_expr (TruthE b) more = (Push (value.Truth b), more)
  open_expr NullE more = (Push value.Null, more)
  open_expr ThisE more = (Load 0, more)
  open_expr (VarE x is_final ty) more = (Load x, more)
  open_expr (NotE e) more = open_expr e (Act (Unary Not) ∷ more)
  open_expr (NegE e) more = open_expr e (Act (Unary Neg) ∷ more)
  open_expr (BinaryE op a b) more = open_expr a (Ex b ∷ Act (Binary op) ∷ more)
  open_expr (AndE a b) more = open_expr a (Act (AndThen b) ∷ more)
  open_expr (OrE a b) more = open_expr a (Act (OrElse b) ∷ more)
  open_expr (GetE e f) more = open_expr e (Act (Get f) ∷ more)
  open_expr (CallE e m args) more = open_expr e (exprs_items args (Act (Call m) ∷ more))
  open_expr (NewE c args) more = open_new c args more

  -- what `new` opens into, before more: its first argument, then the others and the making of the object
  pub open_new : ℕ → Exprs → List Item → Next
  open_new c no_exprs more = (New c, more)
  open_new c (and_expr e es) more = open_expr e (exprs_items es (Act (New c) ∷ more))

-- What statements and blocks open into.
abbrev mutual
  -- what a statement opens into, before more; `next` is what more opens into, which is all that is left of an empty statement
  pub open_stmt : Stmt → List Item → Option Next → Option Next
  open_stmt EmptyS more next = next
  open_stmt (BlockS ss) more next = open_block ss more next
  open_stmt (LocalS x is_final ty e) more next = Some (open_expr e (Act (Store x) ∷ more))
  open_stmt (SetVarS x e) more next = Some (open_expr e (Act (Store x) ∷ more))
  open_stmt (SetFieldS e f g) more next = Some (open_expr e (Ex g ∷ Act (Put f) ∷ more))
  open_stmt (DoS e true) more next = Some (open_expr e (Act Drop ∷ more))
  open_stmt (DoS e false) more next = Some (open_expr e more)
  open_stmt (IfS c s t) more next = Some (open_expr c (Act (Choose s t) ∷ more))
  open_stmt (WhileS c s) more next = Some (open_expr c (Act (Loop c s) ∷ more))
  open_stmt (SyncS p s) more next = Some (Load p.root, gets p.fields (Act (Acquire s) ∷ more))
  open_stmt (ReturnS None) more next = Some (Ret, more)
  open_stmt (ReturnS (Some e)) more next = Some (open_expr e (Act Ret ∷ more))
  open_stmt (PrintS e) more next = Some (open_expr e (Act Print ∷ more))
  open_stmt (StartS e) more next = Some (open_expr e (Act Start ∷ more))

  -- what a block opens into, before more: its first statement, then the others
  pub open_block : Stmts → List Item → Option Next → Option Next
  open_block no_stmts more next = next
  open_block (and_stmt s ss) more next = open_stmt s (stmts_items ss more) (open_block ss more next)

-- the first item opened until it is an action; none where nothing is left to do
abbrev pub opened : List Item → Option Next
opened [] = None
opened (Ex e ∷ more) = Some (open_expr e more)
opened (St s ∷ more) = open_stmt s more (opened more)
opened (Act a ∷ more) = Some (a, more)

-- the first release of a list, with what stands after it
abbrev pub first_release : List Item → Option (Address × List Item)
first_release [] = None
first_release (Act (Release a) ∷ more) = Some (a, more)
first_release (_ ∷ more) = first_release more

-- a return, before more: a release that stands later comes first, and the return after it; what stood between is dropped
abbrev pub open_return : Option (Address × List Item) → List Item → Next
open_return None more = (Ret, more)
open_return (Some later) more = (Release later.0, Act Ret ∷ later.1)

-- a return goes by its later releases; each other action stays
abbrev pub settled : Next → Next
settled (Ret, more) = open_return (first_release more) more
settled (a, more) = (a, more)

-- the same where there is an action
abbrev pub settled_some : Option Next → Option Next
settled_some None = None
settled_some (Some next) = Some (settled next)

-- unfolding: the next action of a work list, with what stands after it
abbrev pub unfolded : List Item → Option Next
unfolded work = settled_some (opened work)
