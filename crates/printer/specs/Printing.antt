-- The tokens of a tree in canonical text, and its canonical text.
use Rattle.std.specs.Prelude.{ℕ, Bool, true, false, ◌&&◌, List, [], ◌∷◌, ◌++◌, Option, Some, None}
use Rattle.lexer.specs.Limits.{greatest_literal}
use Rattle.syntax.specs.declared.terminal.Terminal.{Terminal}
use Rattle.syntax.specs.declared.terminal.Terminal.TheVariants as T
use Rattle.syntax.specs.declared.tree.Name.{Name}
use Rattle.syntax.specs.declared.tree.Param.{Param}
use Rattle.syntax.specs.declared.tree.TypeName.{TypeName}
use Rattle.syntax.specs.declared.tree.TypeName.TheVariants as Y
use Rattle.syntax.specs.Grammar.{sign_of}
use Rattle.printer.specs.Layout.{PlainToken, Fixed, Named, Numeral, laid_out}
use Rattle.syntax.specs.Tokens.{guard_word}
use Rattle.syntax.specs.Trees.{LockTree, ExprTree, ExprTrees, NumberE, LeastE, TruthE, NullE, ThisE, VarE, ParenE, NotE, NegE, BinaryE, GetE, CallE, NewE, no_exprs, more_exprs, StmtTree, StmtTrees, EmptyS, BlockS, LocalS, SetVarS, SetFieldS, DoS, IfS, IfElseS, WhileS, SyncS, ReturnS, PrintS, StartS, no_stmts, more_stmts, FieldTree, MemberTree, FieldM, CtorM, MethodM, ClassTree, ProgramTree}

-- several parts, one after another
abbrev pub all_lexemes : {A : Type 0} → (A → List PlainToken) → List A → List PlainToken
all_lexemes f [] = []
all_lexemes f (a ∷ rest) = f a ++ all_lexemes f rest

-- further parts, each with its comma before it
abbrev pub further_lexemes : {A : Type 0} → (A → List PlainToken) → List A → List PlainToken
further_lexemes f [] = []
further_lexemes f (a ∷ rest) = Fixed T.Comma ∷ f a ++ further_lexemes f rest

-- parts with commas between them
abbrev pub listed_lexemes : {A : Type 0} → (A → List PlainToken) → List A → List PlainToken
listed_lexemes f [] = []
listed_lexemes f (a ∷ rest) = f a ++ further_lexemes f rest

-- a terminal that stands where the flag is true
abbrev pub flag_lexemes : Terminal → Bool → List PlainToken
flag_lexemes t true = Fixed t ∷ []
flag_lexemes t false = []

-- a name, as the source has it
abbrev pub name_lexeme : Name → PlainToken
name_lexeme n = Named n.text

-- the word of a basic type, or the name of a class
abbrev pub type_lexeme : TypeName → PlainToken
type_lexeme Y.Int = Fixed T.Int
type_lexeme Y.Boolean = Fixed T.Boolean
type_lexeme (Y.Class n) = name_lexeme n

-- the type of a method's result, or `void`
abbrev pub result_lexeme : Option TypeName → PlainToken
result_lexeme None = Fixed T.Void
result_lexeme (Some ty) = type_lexeme ty

-- a field behind a lock: `.f`
abbrev pub dotted_lexemes : Name → List PlainToken
dotted_lexemes n = Fixed T.Dot ∷ name_lexeme n ∷ []

-- what a lock begins with: a local's name, or `this`
abbrev pub root_lexeme : Option Name → PlainToken
root_lexeme None = Fixed T.This
root_lexeme (Some n) = name_lexeme n

-- a lock: its root, then each field with its dot
abbrev pub lock_lexemes : LockTree → List PlainToken
lock_lexemes l = root_lexeme l.root ∷ all_lexemes dotted_lexemes l.fields

-- The tokens of an expression, and of a list of arguments in it.
abbrev mutual
  -- an expression without the offsets of its tokens, from left to right; parentheses stand just where the tree has them
  pub expr_lexemes : ExprTree → List PlainToken
  expr_lexemes (NumberE n at) = Numeral n ∷ []
  expr_lexemes (LeastE at) = Fixed T.Minus ∷ Numeral greatest_literal ∷ []
  expr_lexemes (TruthE true at) = Fixed T.True ∷ []
  expr_lexemes (TruthE false at) = Fixed T.False ∷ []
  expr_lexemes (NullE at) = Fixed T.Null ∷ []
  expr_lexemes (ThisE at) = Fixed T.This ∷ []
  expr_lexemes (VarE n) = name_lexeme n ∷ []
  expr_lexemes (ParenE e at) = Fixed T.OpenParen ∷ expr_lexemes e ++ (Fixed T.CloseParen ∷ [])
  expr_lexemes (NotE e at) = Fixed T.Bang ∷ expr_lexemes e
  expr_lexemes (NegE e at) = Fixed T.Minus ∷ expr_lexemes e
  expr_lexemes (BinaryE op e f at) = expr_lexemes e ++ (Fixed (sign_of op) ∷ expr_lexemes f)
  expr_lexemes (GetE e n) = expr_lexemes e ++ (Fixed T.Dot ∷ name_lexeme n ∷ [])
  expr_lexemes (CallE e n args) =
      expr_lexemes e ++ (Fixed T.Dot ∷ name_lexeme n ∷ Fixed T.OpenParen ∷ args_lexemes args ++ (Fixed T.CloseParen ∷ []))
  expr_lexemes (NewE n args at) = Fixed T.New ∷ name_lexeme n ∷ Fixed T.OpenParen ∷ args_lexemes args ++ (Fixed T.CloseParen ∷ [])

  -- the arguments of a call or of `new`, with commas between them
  pub args_lexemes : ExprTrees → List PlainToken
  args_lexemes no_exprs = []
  args_lexemes (more_exprs e es) = expr_lexemes e ++ more_args_lexemes es

  -- further arguments, each with its comma before it
  pub more_args_lexemes : ExprTrees → List PlainToken
  more_args_lexemes no_exprs = []
  more_args_lexemes (more_exprs e es) = Fixed T.Comma ∷ expr_lexemes e ++ more_args_lexemes es

-- The tokens of a statement, and of the statements of a block.
abbrev mutual
  -- a statement with its semicolon or braces; `else` stands only where the tree has an else part
  pub stmt_lexemes : StmtTree → List PlainToken
  stmt_lexemes (EmptyS at) = Fixed T.Semicolon ∷ []
  stmt_lexemes (BlockS ss at) = Fixed T.OpenBrace ∷ stmts_lexemes ss ++ (Fixed T.CloseBrace ∷ [])
  stmt_lexemes (LocalS fin ty n e at) =
      flag_lexemes T.Final fin ++ (type_lexeme ty ∷ name_lexeme n ∷ Fixed T.Assign ∷ expr_lexemes e ++ (Fixed T.Semicolon ∷ []))
  stmt_lexemes (SetVarS n e at) = name_lexeme n ∷ Fixed T.Assign ∷ expr_lexemes e ++ (Fixed T.Semicolon ∷ [])
  stmt_lexemes (SetFieldS e n f at) =
      expr_lexemes e ++ (Fixed T.Dot ∷ name_lexeme n ∷ Fixed T.Assign ∷ expr_lexemes f ++ (Fixed T.Semicolon ∷ []))
  stmt_lexemes (DoS e at) = expr_lexemes e ++ (Fixed T.Semicolon ∷ [])
  stmt_lexemes (IfS e s at) = Fixed T.If ∷ Fixed T.OpenParen ∷ expr_lexemes e ++ (Fixed T.CloseParen ∷ stmt_lexemes s)
  stmt_lexemes (IfElseS e s t at) =
      Fixed T.If ∷ Fixed T.OpenParen ∷ expr_lexemes e ++ (Fixed T.CloseParen ∷ stmt_lexemes s ++ (Fixed T.Else ∷ stmt_lexemes t))
  stmt_lexemes (WhileS e s at) = Fixed T.While ∷ Fixed T.OpenParen ∷ expr_lexemes e ++ (Fixed T.CloseParen ∷ stmt_lexemes s)
  stmt_lexemes (SyncS l ss at) =
      Fixed T.Synchronized ∷ Fixed T.OpenParen ∷ lock_lexemes l
      ++ (Fixed T.CloseParen ∷ Fixed T.OpenBrace ∷ stmts_lexemes ss ++ (Fixed T.CloseBrace ∷ []))
  stmt_lexemes (ReturnS None at) = Fixed T.Return ∷ Fixed T.Semicolon ∷ []
  stmt_lexemes (ReturnS (Some e) at) = Fixed T.Return ∷ expr_lexemes e ++ (Fixed T.Semicolon ∷ [])
  stmt_lexemes (PrintS e at) =
      Fixed T.System ∷ Fixed T.Dot ∷ Fixed T.Out ∷ Fixed T.Dot ∷ Fixed T.Println ∷ Fixed T.OpenParen
      ∷ expr_lexemes e ++ (Fixed T.CloseParen ∷ Fixed T.Semicolon ∷ [])
  stmt_lexemes (StartS e at) =
      Fixed T.New ∷ Fixed T.Thread ∷ Fixed T.OpenParen
      ∷ expr_lexemes e ++ (Fixed T.CloseParen ∷ Fixed T.Dot ∷ Fixed T.Start ∷ Fixed T.OpenParen ∷ Fixed T.CloseParen ∷ Fixed T.Semicolon ∷ [])

  -- statements, one after another
  pub stmts_lexemes : StmtTrees → List PlainToken
  stmts_lexemes no_stmts = []
  stmts_lexemes (more_stmts s ss) = stmt_lexemes s ++ stmts_lexemes ss

-- a parameter, with its `final` where that is kept
abbrev pub param_lexemes : Bool → Param → List PlainToken
param_lexemes keeps p = flag_lexemes T.Final (keeps && p.is_final) ++ (type_lexeme p.ty ∷ name_lexeme p.name ∷ [])

-- a line of a constructor: `this.f = p;`
abbrev pub set_lexemes : (Name × Name) → List PlainToken
set_lexemes p = Fixed T.This ∷ Fixed T.Dot ∷ name_lexeme p.0 ∷ Fixed T.Assign ∷ name_lexeme p.1 ∷ Fixed T.Semicolon ∷ []

-- the lock that guards a field, after the word for guarding all accesses or writes alone; nothing for an unguarded field
abbrev pub guard_lexemes : Bool → Option LockTree → List PlainToken
guard_lexemes writes_only None = []
guard_lexemes writes_only (Some l) = Fixed (guard_word writes_only) ∷ lock_lexemes l

-- the locks that a method's caller must hold, after `requires`; nothing where there are none
abbrev pub requires_lexemes : List LockTree → List PlainToken
requires_lexemes [] = []
requires_lexemes (l ∷ ls) = Fixed T.Requires ∷ listed_lexemes lock_lexemes (l ∷ ls)

-- a method: its annotation, result, name, parameters, required locks and body
abbrev pub method_lexemes : Bool → Option TypeName → Name → List Param → List LockTree → StmtTrees → List PlainToken
method_lexemes atomic returns n params locks body =
    flag_lexemes T.Atomic atomic ++ (result_lexeme returns ∷ name_lexeme n ∷ Fixed T.OpenParen
    ∷ listed_lexemes (param_lexemes true) params
    ++ (Fixed T.CloseParen ∷ requires_lexemes locks ++ (Fixed T.OpenBrace ∷ stmts_lexemes body ++ (Fixed T.CloseBrace ∷ []))))

-- a field: `final` where it is, its type, its name and its guard
abbrev pub field_lexemes : FieldTree → List PlainToken
field_lexemes f =
    flag_lexemes T.Final f.is_final
    ++ (type_lexeme f.ty ∷ name_lexeme f.name ∷ guard_lexemes f.writes_only f.guard ++ (Fixed T.Semicolon ∷ []))

-- a field, constructor or method, without `public`; a constructor's parameters without `final`
abbrev pub member_lexemes : MemberTree → List PlainToken
member_lexemes (FieldM f) = field_lexemes f
member_lexemes (CtorM n params sets) =
    name_lexeme n ∷ Fixed T.OpenParen ∷ listed_lexemes (param_lexemes false) params
    ++ (Fixed T.CloseParen ∷ Fixed T.OpenBrace ∷ all_lexemes set_lexemes sets ++ (Fixed T.CloseBrace ∷ []))
member_lexemes (MethodM m) = method_lexemes m.atomic m.returns m.name m.params m.locks m.body

-- `implements Runnable`, where a class says it
abbrev pub runnable_lexemes : Bool → List PlainToken
runnable_lexemes true = Fixed T.Implements ∷ Fixed T.Runnable ∷ []
runnable_lexemes false = []

-- `extends` and the class above, where there is one
abbrev pub extends_lexemes : Option Name → List PlainToken
extends_lexemes None = []
extends_lexemes (Some n) = Fixed T.Extends ∷ name_lexeme n ∷ []

-- a class, without `public`
abbrev pub class_lexemes : ClassTree → List PlainToken
class_lexemes c =
    Fixed T.Class ∷ name_lexeme c.name ∷ extends_lexemes c.above
    ++ (runnable_lexemes c.runnable ++ (Fixed T.OpenBrace ∷ all_lexemes member_lexemes c.members ++ (Fixed T.CloseBrace ∷ [])))

-- all classes of a program, in its order
abbrev pub program_lexemes : ProgramTree → List PlainToken
program_lexemes t = all_lexemes class_lexemes t

-- the canonical text of a program
abbrev pub canonical : ProgramTree → List ℕ
canonical t = laid_out (program_lexemes t)
