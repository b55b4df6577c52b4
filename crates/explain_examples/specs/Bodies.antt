-- An expression and a statement with parts of every kind, and steps in every place.
use Rattle.std.specs.Prelude.{true, false, List, [], ◌∷◌, Some, None}
use Rattle.core_program.specs.declared.types.CoreOp.TheVariants.{Add}
use Rattle.core_program.specs.Core.{Expr, NullE, TruthE, ThisE, NotE, NegE, BinaryE, AndE, OrE, GetE, CallE, NewE, no_exprs, and_expr}
use Rattle.core_program.specs.Core.{Stmt, Stmts, EmptyS, BlockS, LocalS, SetVarS, SetFieldS, DoS, IfS, WhileS, SyncS, ReturnS, PrintS, StartS, no_stmts, and_stmt}
use Rattle.core_program.specs.Examples.{this_path}
use Rattle.effects.specs.Parts.{Part, ExprP, StmtP}
use Rattle.core_examples.specs.Small.{one}
use Rattle.explain_examples.specs.Shelf.{shelf_type, plain, fixed, made, put_in, both_of}

-- `-1 .a`, a call of which with `!x + this` and `null && (true || new A(y))`
abbrev pub negative : Expr
negative = GetE (NegE one) 0

abbrev pub sum_of : Expr
sum_of = BinaryE Add (NotE plain) ThisE

abbrev pub made_with : Expr
made_with = NewE 0 (and_expr fixed no_exprs)

abbrev pub either : Expr
either = OrE (TruthE true) made_with

abbrev pub both_parts : Expr
both_parts = AndE NullE either

abbrev pub whole_expression : Expr
whole_expression = CallE negative 2 (and_expr sum_of (and_expr both_parts no_exprs))

abbrev pub whole_expression_parts : List Part
whole_expression_parts =
    ExprP whole_expression ∷ ExprP negative ∷ ExprP (NegE one) ∷ ExprP one ∷ ExprP sum_of ∷ ExprP (NotE plain) ∷ ExprP plain ∷ ExprP ThisE ∷ ExprP both_parts ∷ ExprP NullE ∷ ExprP either
    ∷ ExprP (TruthE true) ∷ ExprP made_with ∷ ExprP fixed ∷ []

-- reads `this.a`, which is a step
abbrev pub read : Expr
read = GetE ThisE 0

abbrev pub not_read : Expr
not_read = NotE read

-- a step in each place of each expression
abbrev pub stepping : List Expr
stepping =
    one ∷ TruthE true ∷ NullE ∷ ThisE ∷ plain ∷ fixed ∷ NotE read ∷ NegE read ∷ BinaryE Add read not_read ∷ AndE read not_read ∷ OrE read not_read ∷ GetE read 0 ∷ CallE read 2 (and_expr read (and_expr read no_exprs))
    ∷ NewE 0 (and_expr read (and_expr read no_exprs)) ∷ []

-- statements of every kind
abbrev pub prints_one : Stmt
prints_one = PrintS one

abbrev pub choice : Stmt
choice = IfS plain prints_one (SetVarS 1 plain)

abbrev pub turns : Stmt
turns = WhileS plain prints_one

abbrev pub locked_print : Stmt
locked_print = SyncS this_path prints_one

abbrev pub local : Stmt
local = LocalS 1 false shelf_type made

abbrev pub write : Stmt
write = SetFieldS plain 0 one

abbrev pub last : Stmts
last = and_stmt (ReturnS (Some plain)) (and_stmt (ReturnS None) (and_stmt (PrintS plain) (and_stmt (StartS made) (and_stmt EmptyS no_stmts))))

abbrev pub whole_statement : Stmt
whole_statement = BlockS (and_stmt local (and_stmt (SetVarS 1 plain) (and_stmt write (and_stmt (DoS fixed true) (and_stmt choice (and_stmt turns (and_stmt locked_print last)))))))

abbrev pub statement_parts : List Part
statement_parts =
    StmtP whole_statement ∷ StmtP local ∷ ExprP made ∷ StmtP (SetVarS 1 plain) ∷ ExprP plain ∷ StmtP write ∷ ExprP plain ∷ ExprP one ∷ StmtP (DoS fixed true) ∷ ExprP fixed
    ∷ StmtP choice ∷ ExprP plain ∷ StmtP prints_one ∷ ExprP one ∷ StmtP (SetVarS 1 plain) ∷ ExprP plain ∷ StmtP turns ∷ ExprP plain ∷ StmtP prints_one ∷ ExprP one
    ∷ StmtP locked_print ∷ StmtP prints_one ∷ ExprP one ∷ StmtP (ReturnS (Some plain)) ∷ ExprP plain ∷ StmtP (ReturnS None) ∷ StmtP (PrintS plain) ∷ ExprP plain ∷ StmtP (StartS made) ∷ ExprP made
    ∷ StmtP EmptyS ∷ []

-- a step in each place of each statement
abbrev pub stepping_statements : List Stmt
stepping_statements =
    LocalS 1 false shelf_type read ∷ SetVarS 1 read ∷ SetFieldS read 0 not_read ∷ DoS read true ∷ WhileS read (put_in 0) ∷ ReturnS (Some read) ∷ ReturnS None ∷ PrintS read ∷ StartS read ∷ EmptyS ∷ []

-- branches of which the first, the second, both are steps; the second is more; and a condition that is one
abbrev pub stepping_branches : List Stmt
stepping_branches =
    IfS plain (put_in 0) EmptyS ∷ IfS plain EmptyS (put_in 0) ∷ IfS plain (put_in 0) (put_in 0) ∷ IfS plain (put_in 0) (both_of (put_in 0) (put_in 0)) ∷ IfS read (put_in 0) EmptyS ∷ []

-- a call and a `new` with steps in their arguments
abbrev pub read_all : Stmt
read_all = DoS (CallE read 2 (and_expr (NewE 0 (and_expr read no_exprs)) no_exprs)) true

-- statements whose parts differ in size
abbrev pub all_statements : List Stmt
all_statements = whole_statement ∷ IfS (NotE plain) (PrintS one) (both_of (put_in 0) (put_in 1)) ∷ WhileS not_read (put_in 0) ∷ SetFieldS read 0 not_read ∷ SyncS this_path (put_in 1) ∷ read_all ∷ stepping_statements
