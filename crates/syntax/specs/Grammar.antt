-- The grammar: which lists of tokens a tree stands for, by cases on the tree and its productions.
use Rattle.std.specs.Prelude.{◌≡◌, ℕ, ◌<◌, ◌≤◌, Bool, true, false, List, [], ◌∷◌, ◌++◌, Option, Some, None, ◌⊎◌}
use Rattle.lexer.specs.declared.tokens.Token.{Token}
use Rattle.lexer.specs.Limits.{greatest_literal}
use Rattle.syntax.specs.declared.terminal.Terminal.{Terminal}
use Rattle.syntax.specs.declared.terminal.Terminal.TheVariants as T
use Rattle.syntax.specs.declared.tree.Name.{Name}
use Rattle.syntax.specs.declared.tree.Op.{Op}
use Rattle.syntax.specs.declared.tree.Op.TheVariants as O
use Rattle.syntax.specs.declared.tree.Param.{Param}
use Rattle.syntax.specs.declared.tree.TypeName.{TypeName}
use Rattle.syntax.specs.declared.tree.TypeName.TheVariants as Y
use Rattle.syntax.specs.Heights.{highest_body}
use Rattle.syntax.specs.Limits.{most_height}
use Rattle.syntax.specs.Tokens.{token, name_token, number_token, guard_word}
use Rattle.syntax.specs.Trees.{LockTree, ExprTree, ExprTrees, NumberE, LeastE, TruthE, NullE, ThisE, VarE, ParenE, NotE, NegE, BinaryE, GetE, CallE, NewE, no_exprs, more_exprs, StmtTree, StmtTrees, EmptyS, BlockS, LocalS, SetVarS, SetFieldS, DoS, IfS, IfElseS, WhileS, SyncS, ReturnS, PrintS, StartS, no_stmts, more_stmts, FieldTree, MemberTree, FieldM, CtorM, MethodM, ClassTree, ProgramTree}

-- the offset of the first token, or 0
abbrev pub offset : List Token → ℕ
offset [] = 0
offset (x ∷ ts) = x.at

-- a terminal that may stand or not, and means nothing
abbrev pub IsOptional : Terminal → List Token → Type 0
IsOptional t ts = (ts ≡ []) ⊎ ((d : ℕ) × (ts ≡ token t d ∷ []))

-- a terminal that stands exactly where the flag is true
abbrev pub IsFlag : Terminal → Bool → List Token → Type 0
IsFlag t true ts = (d : ℕ) × (ts ≡ token t d ∷ [])
IsFlag t false ts = ts ≡ []

-- type: `int`, `boolean` or a name
abbrev pub IsType : TypeName → Token → Type 0
IsType Y.Int x = x ≡ token T.Int x.at
IsType Y.Boolean x = x ≡ token T.Boolean x.at
IsType (Y.Class n) x = x ≡ name_token n

-- a type, or `void`
abbrev pub IsResultType : Option TypeName → Token → Type 0
IsResultType None x = x ≡ token T.Void x.at
IsResultType (Some ty) x = IsType ty x

-- { "." Name }
abbrev pub SpellsFields : List Name → List Token → Type 0
SpellsFields [] ts = ts ≡ []
SpellsFields (n ∷ ns) ts = (rest : List Token) × (d : ℕ) × SpellsFields ns rest × (ts ≡ token T.Dot d ∷ name_token n ∷ rest)

-- lock = ( "this" | Name ) { "." Name }
abbrev pub SpellsRoot : Option Name → ℕ → Token → Type 0
SpellsRoot None at x = x ≡ token T.This at
SpellsRoot (Some n) at x = (x ≡ name_token n) × (at ≡ n.at)

-- lock: `this` or a name, then fields, each after a dot
abbrev pub SpellsLock : LockTree → List Token → Type 0
SpellsLock l ts = (x : Token) × (fs : List Token) × SpellsRoot l.root l.at x × SpellsFields l.fields fs × (ts ≡ x ∷ fs)

-- how loosely an operator binds: `* / %` least, `||` most
abbrev pub level : Op → ℕ
level O.Mul = 1
level O.Div = 1
level O.Rem = 1
level O.Add = 2
level O.Sub = 2
level O.Lt = 3
level O.Le = 3
level O.Gt = 3
level O.Ge = 3
level O.Eq = 4
level O.Ne = 4
level O.And = 5
level O.Or = 6

-- the terminal by which a binary operator is written
abbrev pub sign_of : Op → Terminal
sign_of O.Mul = T.Star
sign_of O.Div = T.Slash
sign_of O.Rem = T.Percent
sign_of O.Add = T.Plus
sign_of O.Sub = T.Minus
sign_of O.Lt = T.Less
sign_of O.Le = T.LessEqual
sign_of O.Gt = T.Greater
sign_of O.Ge = T.GreaterEqual
sign_of O.Eq = T.EqualTo
sign_of O.Ne = T.NotEqual
sign_of O.And = T.AndAnd
sign_of O.Or = T.OrOr

-- the level of an expression's outermost operator; 0 for a unary, which binds tightest
abbrev pub loose : ExprTree → ℕ
loose (BinaryE op e f at) = level op
loose (NumberE n at) = 0
loose (LeastE at) = 0
loose (TruthE b at) = 0
loose (NullE at) = 0
loose (ThisE at) = 0
loose (VarE n) = 0
loose (ParenE e at) = 0
loose (NotE e at) = 0
loose (NegE e at) = 0
loose (GetE e n) = 0
loose (CallE e n args) = 0
loose (NewE n args at) = 0

-- whether an expression is a postfix, which a `.` may follow
abbrev pub is_postfix : ExprTree → Bool
is_postfix (NumberE n at) = true
is_postfix (LeastE at) = false
is_postfix (TruthE b at) = true
is_postfix (NullE at) = true
is_postfix (ThisE at) = true
is_postfix (VarE n) = true
is_postfix (ParenE e at) = true
is_postfix (NotE e at) = false
is_postfix (NegE e at) = false
is_postfix (BinaryE op e f at) = false
is_postfix (GetE e n) = true
is_postfix (CallE e n args) = true
is_postfix (NewE n args at) = true

-- Expressions and their arguments, which the grammar tells through each other.
abbrev mutual
  -- expr: a binary operator takes on its left what binds as tightly as itself or more, on its right what binds more tightly
  pub Spells : ExprTree → List Token → Type 0
  -- Number up to 2147483647
  Spells (NumberE n at) ts = (text : List ℕ) × (n < greatest_literal) × (ts ≡ number_token n text at ∷ [])
  -- "-" and the number that stands only behind it
  Spells (LeastE at) ts = (text : List ℕ) × (d : ℕ) × (ts ≡ token T.Minus at ∷ number_token greatest_literal text d ∷ [])
  -- "true" | "false" | "null" | "this" | Name
  Spells (TruthE true at) ts = ts ≡ token T.True at ∷ []
  Spells (TruthE false at) ts = ts ≡ token T.False at ∷ []
  Spells (NullE at) ts = ts ≡ token T.Null at ∷ []
  Spells (ThisE at) ts = ts ≡ token T.This at ∷ []
  Spells (VarE n) ts = ts ≡ name_token n ∷ []
  -- "(" expr ")"
  Spells (ParenE e at) ts = (xs : List Token) × (c : ℕ) × Spells e xs × (ts ≡ token T.OpenParen at ∷ xs ++ (token T.CloseParen c ∷ []))
  -- "!" unary | "-" unary
  Spells (NotE e at) ts = (xs : List Token) × Spells e xs × (loose e ≡ 0) × (ts ≡ token T.Bang at ∷ xs)
  Spells (NegE e at) ts = (xs : List Token) × Spells e xs × (loose e ≡ 0) × (ts ≡ token T.Minus at ∷ xs)
  -- or, and, eq, rel, sum and term: an operand, and an operator with its right operand
  Spells (BinaryE op e f at) ts =
      (xs ys : List Token) × Spells e xs × Spells f ys × (loose e ≤ level op) × (loose f < level op) × (ts ≡ xs ++ (token (sign_of op) at ∷ ys))
  -- postfix "." Name
  Spells (GetE e n) ts = (xs : List Token) × (d : ℕ) × Spells e xs × (is_postfix e ≡ true) × (ts ≡ xs ++ (token T.Dot d ∷ name_token n ∷ []))
  -- postfix "." Name "(" [ args ] ")"
  Spells (CallE e n args) ts =
      (xs ys : List Token) × (d o c : ℕ) × Spells e xs × (is_postfix e ≡ true) × SpellsArgs args ys
      × (ts ≡ xs ++ (token T.Dot d ∷ name_token n ∷ token T.OpenParen o ∷ ys ++ (token T.CloseParen c ∷ [])))
  -- "new" Name "(" [ args ] ")"
  Spells (NewE n args at) ts =
      (ys : List Token) × (o c : ℕ) × SpellsArgs args ys × (ts ≡ token T.New at ∷ name_token n ∷ token T.OpenParen o ∷ ys ++ (token T.CloseParen c ∷ []))

  -- [ args ]
  pub SpellsArgs : ExprTrees → List Token → Type 0
  SpellsArgs no_exprs ts = ts ≡ []
  SpellsArgs (more_exprs e es) ts = (xs ys : List Token) × Spells e xs × SpellsMoreArgs es ys × (ts ≡ xs ++ ys)

  -- { "," expr }
  pub SpellsMoreArgs : ExprTrees → List Token → Type 0
  SpellsMoreArgs no_exprs ts = ts ≡ []
  SpellsMoreArgs (more_exprs e es) ts =
      (xs ys : List Token) × (d : ℕ) × Spells e xs × SpellsMoreArgs es ys × (ts ≡ token T.Comma d ∷ xs ++ ys)

-- whether a statement is a declaration, which stands only in a block
abbrev pub is_local : StmtTree → Bool
is_local (EmptyS at) = false
is_local (BlockS ss at) = false
is_local (LocalS fin ty n e at) = true
is_local (SetVarS n e at) = false
is_local (SetFieldS e n f at) = false
is_local (DoS e at) = false
is_local (IfS e s at) = false
is_local (IfElseS e s t at) = false
is_local (WhileS e s at) = false
is_local (SyncS l ss at) = false
is_local (ReturnS e at) = false
is_local (PrintS e at) = false
is_local (StartS e at) = false

-- whether a statement ends in an `if` without `else`, so that it can't stand before an `else`
abbrev pub open_if : StmtTree → Bool
open_if (EmptyS at) = false
open_if (BlockS ss at) = false
open_if (LocalS fin ty n e at) = false
open_if (SetVarS n e at) = false
open_if (SetFieldS e n f at) = false
open_if (DoS e at) = false
open_if (IfS e s at) = true
open_if (IfElseS e s t at) = open_if t
open_if (WhileS e s at) = open_if s
open_if (SyncS l ss at) = false
open_if (ReturnS e at) = false
open_if (PrintS e at) = false
open_if (StartS e at) = false

-- whether an expression may stand as a statement
abbrev pub may_be_statement : ExprTree → Bool
may_be_statement (NumberE n at) = false
may_be_statement (LeastE at) = false
may_be_statement (TruthE b at) = false
may_be_statement (NullE at) = false
may_be_statement (ThisE at) = false
may_be_statement (VarE n) = false
may_be_statement (ParenE e at) = false
may_be_statement (NotE e at) = false
may_be_statement (NegE e at) = false
may_be_statement (BinaryE op e f at) = false
may_be_statement (GetE e n) = false
may_be_statement (CallE e n args) = true
may_be_statement (NewE n args at) = true

-- Statements and blocks, which the grammar tells through each other.
abbrev mutual
  -- stmt, and the declaration of a local
  pub SpellsStmt : StmtTree → List Token → Type 0
  -- ";"
  SpellsStmt (EmptyS at) ts = ts ≡ token T.Semicolon at ∷ []
  -- block = "{" { stmt | declaration } "}"
  SpellsStmt (BlockS ss at) ts =
      (xs : List Token) × (c : ℕ) × SpellsStmts ss xs × (ts ≡ token T.OpenBrace at ∷ xs ++ (token T.CloseBrace c ∷ []))
  -- [ "final" ] type Name "=" expr ";", only in a block
  SpellsStmt (LocalS fin ty n e at) ts =
      (fs ys : List Token) × (x : Token) × (d c : ℕ) × IsFlag T.Final fin fs × IsType ty x × Spells e ys × (at ≡ offset ts)
      × (ts ≡ fs ++ (x ∷ name_token n ∷ token T.Assign d ∷ ys ++ (token T.Semicolon c ∷ [])))
  -- Name "=" expr ";"
  SpellsStmt (SetVarS n e at) ts =
      (ys : List Token) × (c : ℕ) × Spells e ys × (ts ≡ name_token n ∷ token T.Assign at ∷ ys ++ (token T.Semicolon c ∷ []))
  -- postfix "." Name "=" expr ";"
  SpellsStmt (SetFieldS e n f at) ts =
      (xs ys : List Token) × (d c : ℕ) × Spells e xs × (is_postfix e ≡ true) × Spells f ys
      × (ts ≡ xs ++ (token T.Dot d ∷ name_token n ∷ token T.Assign at ∷ ys ++ (token T.Semicolon c ∷ [])))
  -- postfix "." Name "(" [ args ] ")" ";" | "new" Name "(" [ args ] ")" ";"
  SpellsStmt (DoS e at) ts =
      (xs : List Token) × (c : ℕ) × Spells e xs × (may_be_statement e ≡ true) × (at ≡ offset ts) × (ts ≡ xs ++ (token T.Semicolon c ∷ []))
  -- "if" "(" expr ")" stmt
  SpellsStmt (IfS e s at) ts =
      (xs ys : List Token) × (o c : ℕ) × Spells e xs × SpellsStmt s ys × (is_local s ≡ false)
      × (ts ≡ token T.If at ∷ token T.OpenParen o ∷ xs ++ (token T.CloseParen c ∷ ys))
  -- "if" "(" expr ")" stmt "else" stmt, where the `else` belongs to the nearest `if`
  SpellsStmt (IfElseS e s t at) ts =
      (xs ys zs : List Token) × (o c d : ℕ) × Spells e xs × SpellsStmt s ys × SpellsStmt t zs
      × (is_local s ≡ false) × (is_local t ≡ false) × (open_if s ≡ false)
      × (ts ≡ token T.If at ∷ token T.OpenParen o ∷ xs ++ (token T.CloseParen c ∷ ys ++ (token T.Else d ∷ zs)))
  -- "while" "(" expr ")" stmt
  SpellsStmt (WhileS e s at) ts =
      (xs ys : List Token) × (o c : ℕ) × Spells e xs × SpellsStmt s ys × (is_local s ≡ false)
      × (ts ≡ token T.While at ∷ token T.OpenParen o ∷ xs ++ (token T.CloseParen c ∷ ys))
  -- "synchronized" "(" lock ")" block
  SpellsStmt (SyncS l ss at) ts =
      (xs ys : List Token) × (o c b d : ℕ) × SpellsLock l xs × SpellsStmts ss ys
      × (ts ≡ token T.Synchronized at ∷ token T.OpenParen o ∷ xs ++ (token T.CloseParen c ∷ token T.OpenBrace b ∷ ys ++ (token T.CloseBrace d ∷ [])))
  -- "return" [ expr ] ";"
  SpellsStmt (ReturnS None at) ts = (c : ℕ) × (ts ≡ token T.Return at ∷ token T.Semicolon c ∷ [])
  SpellsStmt (ReturnS (Some e) at) ts =
      (xs : List Token) × (c : ℕ) × Spells e xs × (ts ≡ token T.Return at ∷ xs ++ (token T.Semicolon c ∷ []))
  -- "System" "." "out" "." "println" "(" expr ")" ";"
  SpellsStmt (PrintS e at) ts =
      (xs : List Token) × (d n f p o c g : ℕ) × Spells e xs
      × (ts ≡ token T.System at ∷ token T.Dot d ∷ token T.Out n ∷ token T.Dot f ∷ token T.Println p ∷ token T.OpenParen o
      ∷ xs ++ (token T.CloseParen c ∷ token T.Semicolon g ∷ []))
  -- "new" "Thread" "(" expr ")" "." "start" "(" ")" ";"
  SpellsStmt (StartS e at) ts =
      (xs : List Token) × (t o c d s p q g : ℕ) × Spells e xs
      × (ts ≡ token T.New at ∷ token T.Thread t ∷ token T.OpenParen o
      ∷ xs ++ (token T.CloseParen c ∷ token T.Dot d ∷ token T.Start s ∷ token T.OpenParen p ∷ token T.CloseParen q ∷ token T.Semicolon g ∷ []))

  -- the statements of a block, one after another
  pub SpellsStmts : StmtTrees → List Token → Type 0
  SpellsStmts no_stmts ts = ts ≡ []
  SpellsStmts (more_stmts s ss) ts = (xs ys : List Token) × SpellsStmt s xs × SpellsStmts ss ys × (ts ≡ xs ++ ys)

-- several parts, one after another
abbrev pub Repeats : {A : Type 0} → (A → List Token → Type 0) → List A → List Token → Type 0
Repeats P [] ts = ts ≡ []
Repeats P (a ∷ rest) ts = (xs ys : List Token) × P a xs × Repeats P rest ys × (ts ≡ xs ++ ys)

-- further parts, each with its comma before it
abbrev pub Follows : {A : Type 0} → (A → List Token → Type 0) → List A → List Token → Type 0
Follows P [] ts = ts ≡ []
Follows P (a ∷ rest) ts = (xs ys : List Token) × (d : ℕ) × P a xs × Follows P rest ys × (ts ≡ token T.Comma d ∷ xs ++ ys)

-- parts with commas between them, or none
abbrev pub Separates : {A : Type 0} → (A → List Token → Type 0) → List A → List Token → Type 0
Separates P [] ts = ts ≡ []
Separates P (a ∷ rest) ts = (xs ys : List Token) × P a xs × Follows P rest ys × (ts ≡ xs ++ ys)

-- param = [ "final" ] type Name
abbrev pub SpellsParam : Param → List Token → Type 0
SpellsParam p ts = (fs : List Token) × (x : Token) × IsFlag T.Final p.is_final fs × IsType p.ty x × (ts ≡ fs ++ (x ∷ name_token p.name ∷ []))

-- a parameter of a constructor, whose `final` means nothing
abbrev pub SpellsCtorParam : Param → List Token → Type 0
SpellsCtorParam p ts =
    (fs : List Token) × (x : Token) × (p.is_final ≡ false) × IsOptional T.Final fs × IsType p.ty x × (ts ≡ fs ++ (x ∷ name_token p.name ∷ []))

-- "this" "." Name "=" Name ";"
abbrev pub SpellsSet : (Name × Name) → List Token → Type 0
SpellsSet p ts =
    (t d e c : ℕ) × (ts ≡ token T.This t ∷ token T.Dot d ∷ name_token p.0 ∷ token T.Assign e ∷ name_token p.1 ∷ token T.Semicolon c ∷ [])

-- [ ( "guarded_by" | "write_guarded_by" ) lock ]
abbrev pub SpellsGuard : Bool → Option LockTree → List Token → Type 0
SpellsGuard writes_only None ts = (writes_only ≡ false) × (ts ≡ [])
SpellsGuard writes_only (Some l) ts = (xs : List Token) × (d : ℕ) × SpellsLock l xs × (ts ≡ token (guard_word writes_only) d ∷ xs)

-- [ "requires" lock { "," lock } ]
abbrev pub SpellsRequires : List LockTree → List Token → Type 0
SpellsRequires [] ts = ts ≡ []
SpellsRequires (l ∷ ls) ts = (xs : List Token) × (d : ℕ) × Separates SpellsLock (l ∷ ls) xs × (ts ≡ token T.Requires d ∷ xs)

-- "final" type Name ";". A final field has no guard
abbrev pub SpellsFinalField : FieldTree → List Token → Type 0
SpellsFinalField f ts =
    (x : Token) × (d c : ℕ) × IsType f.ty x × (f.guard ≡ None) × (f.writes_only ≡ false)
    × (ts ≡ token T.Final d ∷ x ∷ name_token f.name ∷ token T.Semicolon c ∷ [])

-- type Name [ ( "guarded_by" | "write_guarded_by" ) lock ] ";"
abbrev pub SpellsMutableField : FieldTree → List Token → Type 0
SpellsMutableField f ts =
    (x : Token) × (gs : List Token) × (c : ℕ) × IsType f.ty x × SpellsGuard f.writes_only f.guard gs
    × (ts ≡ x ∷ name_token f.name ∷ gs ++ (token T.Semicolon c ∷ []))

-- field: final or not
abbrev pub SpellsField : Bool → FieldTree → List Token → Type 0
SpellsField true f ts = SpellsFinalField f ts
SpellsField false f ts = SpellsMutableField f ts

-- field, ctor or method
abbrev pub SpellsBare : MemberTree → List Token → Type 0
SpellsBare (FieldM f) ts = SpellsField f.is_final f ts
-- Name "(" [ params ] ")" "{" { "this" "." Name "=" Name ";" } "}"
SpellsBare (CtorM n params sets) ts =
    (xs ys : List Token) × (o c b d : ℕ) × Separates SpellsCtorParam params xs × Repeats SpellsSet sets ys
    × (ts ≡ name_token n ∷ token T.OpenParen o ∷ xs ++ (token T.CloseParen c ∷ token T.OpenBrace b ∷ ys ++ (token T.CloseBrace d ∷ [])))
-- [ "atomic" ] ( type | "void" ) Name "(" [ params ] ")" [ "requires" lock { "," lock } ] block
SpellsBare (MethodM m) ts =
    (fs xs rs ys : List Token) × (x : Token) × (o c b : ℕ) × IsFlag T.Atomic m.atomic fs × IsResultType m.returns x
    × Separates SpellsParam m.params xs × SpellsRequires m.locks rs × SpellsStmts m.body ys
    × (ts ≡ fs ++ (x ∷ name_token m.name ∷ token T.OpenParen o
    ∷ xs ++ (token T.CloseParen c ∷ rs ++ (token T.OpenBrace b ∷ ys ++ (token T.CloseBrace m.end ∷ [])))))

-- member = [ "public" ] ( field | ctor | method )
abbrev pub SpellsMember : MemberTree → List Token → Type 0
SpellsMember m ts = (ps xs : List Token) × IsOptional T.Public ps × SpellsBare m xs × (ts ≡ ps ++ xs)

-- [ "implements" "Runnable" ]
abbrev pub SpellsRunnable : Bool → List Token → Type 0
SpellsRunnable true ts = (d e : ℕ) × (ts ≡ token T.Implements d ∷ token T.Runnable e ∷ [])
SpellsRunnable false ts = ts ≡ []

-- [ "extends" Name ]
abbrev pub SpellsExtends : Option Name → List Token → Type 0
SpellsExtends None ts = ts ≡ []
SpellsExtends (Some n) ts = (d : ℕ) × (ts ≡ token T.Extends d ∷ name_token n ∷ [])

-- class = [ "public" ] "class" Name [ "extends" Name ] [ "implements" "Runnable" ] "{" { member } "}"
abbrev pub SpellsClass : ClassTree → List Token → Type 0
SpellsClass c ts =
    (ps es rs xs : List Token) × (d b e : ℕ) × IsOptional T.Public ps × SpellsExtends c.above es × SpellsRunnable c.runnable rs
    × Repeats SpellsMember c.members xs
    × (ts ≡ ps ++ (token T.Class d ∷ name_token c.name ∷ es ++ (rs ++ (token T.OpenBrace b ∷ xs ++ (token T.CloseBrace e ∷ [])))))

-- the grammar without the limit of height: program = { class }
abbrev pub Wide : List Token → ProgramTree → Type 0
Wide ts t = Repeats SpellsClass t ts

-- the grammar: no method body is too high
abbrev pub Grammar : List Token → ProgramTree → Type 0
Grammar ts t = Wide ts t × (highest_body t ≤ most_height)
