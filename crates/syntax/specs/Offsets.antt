-- Where expressions and statements begin.
use Rattle.std.specs.Prelude.{ℕ}
use Rattle.syntax.specs.Trees.{ExprTree, NumberE, LeastE, TruthE, NullE, ThisE, VarE, ParenE, NotE, NegE, BinaryE, GetE, CallE, NewE, StmtTree, EmptyS, BlockS, LocalS, SetVarS, SetFieldS, DoS, IfS, IfElseS, WhileS, SyncS, ReturnS, PrintS, StartS}

-- the offset of an expression's first token
abbrev pub first_at : ExprTree → ℕ
first_at (NumberE n at) = at
first_at (LeastE at) = at
first_at (TruthE b at) = at
first_at (NullE at) = at
first_at (ThisE at) = at
first_at (VarE n) = n.at
first_at (ParenE e at) = at
first_at (NotE e at) = at
first_at (NegE e at) = at
first_at (BinaryE op a b at) = first_at a
first_at (GetE e n) = first_at e
first_at (CallE e n args) = first_at e
first_at (NewE n args at) = at

-- the offset of a statement's first token
abbrev pub begins_at : StmtTree → ℕ
begins_at (EmptyS at) = at
begins_at (BlockS ss at) = at
begins_at (LocalS fin ty n e at) = at
begins_at (SetVarS n e at) = n.at
begins_at (SetFieldS e n value at) = first_at e
begins_at (DoS e at) = at
begins_at (IfS c s at) = at
begins_at (IfElseS c s u at) = at
begins_at (WhileS c s at) = at
begins_at (SyncS l ss at) = at
begins_at (ReturnS e at) = at
begins_at (PrintS e at) = at
begins_at (StartS e at) = at
