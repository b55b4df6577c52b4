-- A tree's core nodes are no more than its tokens.
use Rattle.std.proofs.Common.{◌≡◌, ℕ, ◌+◌, ◌≤◌, Bool, true, false, List, [], ◌∷◌, ◌++◌, length, Some, None, sym, subst, arith, length-append}
use Rattle.lexer.specs.declared.tokens.Token.{Token}
use Rattle.lexer.specs.Limits.{greatest_literal}
use Rattle.syntax.specs.declared.terminal.Terminal.TheVariants as T
use Rattle.syntax.specs.Tokens.{token, name_token, number_token}
use Rattle.syntax.specs.Grammar.{Spells, SpellsArgs, SpellsMoreArgs, SpellsStmt, SpellsStmts, SpellsField, SpellsBare, SpellsMember, SpellsClass, Repeats, sign_of}
use Rattle.syntax.specs.Trees.{ExprTree, ExprTrees, NumberE, LeastE, TruthE, NullE, ThisE, VarE, ParenE, NotE, NegE, BinaryE, GetE, CallE, NewE, no_exprs, more_exprs, StmtTree, StmtTrees, EmptyS, BlockS, LocalS, SetVarS, SetFieldS, DoS, IfS, IfElseS, WhileS, SyncS, ReturnS, PrintS, StartS, no_stmts, more_stmts, FieldTree, MemberTree, FieldM, CtorM, MethodM, ProgramTree}
use Rattle.typing.proofs.Shapes.{size, sizes}
use Rattle.typing.proofs.StmtSizes.{stmt_size, stmt_sizes}

-- the length of two lists of tokens
both_long : (xs ys : List Token) → length (xs ++ ys) ≡ length xs + length ys
both_long xs ys = length-append xs ys

-- what is at most the length of a list is at most that of an equal one
long : (n : ℕ) (ts us : List Token) → ts ≡ us → n ≤ length us → n ≤ length ts
long n ts us same h = subst (λ z. n ≤ length z) (sym same) h

mutual
  pub expr_long : (e : ExprTree) (ts : List Token) → Spells e ts → size e ≤ length ts
  expr_long (NumberE n at) ts (text, below, is) = long 1 ts (number_token n text at ∷ []) is (omega arith)
  expr_long (LeastE at) ts (text, d, is) = long 1 ts (token T.Minus at ∷ number_token greatest_literal text d ∷ []) is (omega arith)
  expr_long (TruthE true at) ts is = long 1 ts (token T.True at ∷ []) is (omega arith)
  expr_long (TruthE false at) ts is = long 1 ts (token T.False at ∷ []) is (omega arith)
  expr_long (NullE at) ts is = long 1 ts (token T.Null at ∷ []) is (omega arith)
  expr_long (ThisE at) ts is = long 1 ts (token T.This at ∷ []) is (omega arith)
  expr_long (VarE n) ts is = long 1 ts (name_token n ∷ []) is (omega arith)
  expr_long (ParenE e at) ts (xs, c, part, is) =
      long (size e) ts (token T.OpenParen at ∷ xs ++ (token T.CloseParen c ∷ [])) is
      (omega (arith, both_long xs (token T.CloseParen c ∷ []), expr_long e xs part))
  expr_long (NotE e at) ts (xs, part, low, is) = long (1 + size e) ts (token T.Bang at ∷ xs) is (omega (arith, expr_long e xs part))
  expr_long (NegE e at) ts (xs, part, low, is) = long (1 + size e) ts (token T.Minus at ∷ xs) is (omega (arith, expr_long e xs part))
  expr_long (BinaryE op e f at) ts (xs, ys, one, other, low, high, is) =
      long (1 + (size e + size f)) ts (xs ++ (token (sign_of op) at ∷ ys)) is (omega (arith, both_long xs (token (sign_of op) at ∷ ys), expr_long e xs one, expr_long f ys other))
  expr_long (GetE e n) ts (xs, d, part, low, is) =
      long (1 + size e) ts (xs ++ (token T.Dot d ∷ name_token n ∷ [])) is
      (omega (arith, both_long xs (token T.Dot d ∷ name_token n ∷ []), expr_long e xs part))
  expr_long (CallE e n args) ts (xs, ys, d, o, c, part, low, others, is) =
      long (1 + (size e + sizes args)) ts (xs ++ (token T.Dot d ∷ name_token n ∷ token T.OpenParen o ∷ ys ++ (token T.CloseParen c ∷ []))) is
      (omega (
        arith,
        both_long xs (token T.Dot d ∷ name_token n ∷ token T.OpenParen o ∷ ys ++ (token T.CloseParen c ∷ [])),
        both_long ys (token T.CloseParen c ∷ []),
        expr_long e xs part,
        args_long args ys others,
      ))
  expr_long (NewE n args at) ts (ys, o, c, others, is) =
      long (1 + sizes args) ts (token T.New at ∷ name_token n ∷ token T.OpenParen o ∷ ys ++ (token T.CloseParen c ∷ [])) is
      (omega (arith, both_long ys (token T.CloseParen c ∷ []), args_long args ys others))

  pub args_long : (es : ExprTrees) (ts : List Token) → SpellsArgs es ts → sizes es ≤ length ts
  args_long no_exprs ts is = omega arith
  args_long (more_exprs e es) ts (xs, ys, one, rest, is) =
      long (size e + sizes es) ts (xs ++ ys) is (omega (arith, both_long xs ys, expr_long e xs one, more_args_long es ys rest))

  pub more_args_long : (es : ExprTrees) (ts : List Token) → SpellsMoreArgs es ts → sizes es ≤ length ts
  more_args_long no_exprs ts is = omega arith
  more_args_long (more_exprs e es) ts (xs, ys, d, one, rest, is) =
      long (size e + sizes es) ts (token T.Comma d ∷ xs ++ ys) is (omega (arith, both_long xs ys, expr_long e xs one, more_args_long es ys rest))

mutual
  pub stmt_long : (s : StmtTree) (ts : List Token) → SpellsStmt s ts → stmt_size s ≤ length ts
  stmt_long (EmptyS at) ts is = long 1 ts (token T.Semicolon at ∷ []) is (omega arith)
  stmt_long (BlockS ss at) ts (xs, c, part, is) =
      long (1 + stmt_sizes ss) ts (token T.OpenBrace at ∷ xs ++ (token T.CloseBrace c ∷ [])) is
      (omega (arith, both_long xs (token T.CloseBrace c ∷ []), stmts_long ss xs part))
  stmt_long (LocalS fin ty n e at) ts (fs, ys, x, d, c, flag, type_is, part, at_is, is) =
      long (1 + size e) ts (fs ++ (x ∷ name_token n ∷ token T.Assign d ∷ ys ++ (token T.Semicolon c ∷ []))) is
      (omega (arith, both_long fs (x ∷ name_token n ∷ token T.Assign d ∷ ys ++ (token T.Semicolon c ∷ [])), both_long ys (token T.Semicolon c ∷ []), expr_long e ys part))
  stmt_long (SetVarS n e at) ts (ys, c, part, is) =
      long (1 + size e) ts (name_token n ∷ token T.Assign at ∷ ys ++ (token T.Semicolon c ∷ [])) is
      (omega (arith, both_long ys (token T.Semicolon c ∷ []), expr_long e ys part))
  stmt_long (SetFieldS e n f at) ts (xs, ys, d, c, one, low, other, is) =
      long (1 + (size e + size f)) ts (xs ++ (token T.Dot d ∷ name_token n ∷ token T.Assign at ∷ ys ++ (token T.Semicolon c ∷ []))) is
      (omega (
        arith,
        both_long xs (token T.Dot d ∷ name_token n ∷ token T.Assign at ∷ ys ++ (token T.Semicolon c ∷ [])),
        both_long ys (token T.Semicolon c ∷ []),
        expr_long e xs one,
        expr_long f ys other,
      ))
  stmt_long (DoS e at) ts (xs, c, part, call, at_is, is) =
      long (1 + size e) ts (xs ++ (token T.Semicolon c ∷ [])) is (omega (arith, both_long xs (token T.Semicolon c ∷ []), expr_long e xs part))
  stmt_long (IfS e s at) ts (xs, ys, o, c, one, other, low, is) =
      long (1 + (size e + (stmt_size s + 1))) ts (token T.If at ∷ token T.OpenParen o ∷ xs ++ (token T.CloseParen c ∷ ys)) is
      (omega (arith, both_long xs (token T.CloseParen c ∷ ys), expr_long e xs one, stmt_long s ys other))
  stmt_long (IfElseS e s t at) ts (xs, ys, zs, o, c, d, one, other, last, low, lower, closed, is) =
      long (1 + (size e + (stmt_size s + stmt_size t))) ts (token T.If at ∷ token T.OpenParen o ∷ xs ++ (token T.CloseParen c ∷ ys ++ (token T.Else d ∷ zs))) is
      (omega (
        arith,
        both_long xs (token T.CloseParen c ∷ ys ++ (token T.Else d ∷ zs)),
        both_long ys (token T.Else d ∷ zs),
        expr_long e xs one,
        stmt_long s ys other,
        stmt_long t zs last,
      ))
  stmt_long (WhileS e s at) ts (xs, ys, o, c, one, other, low, is) =
      long (1 + (size e + stmt_size s)) ts (token T.While at ∷ token T.OpenParen o ∷ xs ++ (token T.CloseParen c ∷ ys)) is
      (omega (arith, both_long xs (token T.CloseParen c ∷ ys), expr_long e xs one, stmt_long s ys other))
  stmt_long (SyncS l ss at) ts (xs, ys, o, c, b, d, lock, part, is) =
      long (1 + (1 + stmt_sizes ss)) ts
      (token T.Synchronized at ∷ token T.OpenParen o ∷ xs ++ (token T.CloseParen c ∷ token T.OpenBrace b ∷ ys ++ (token T.CloseBrace d ∷ []))) is
      (omega (
        arith,
        both_long xs (token T.CloseParen c ∷ token T.OpenBrace b ∷ ys ++ (token T.CloseBrace d ∷ [])),
        both_long ys (token T.CloseBrace d ∷ []),
        stmts_long ss ys part,
      ))
  stmt_long (ReturnS None at) ts (c, is) = long 1 ts (token T.Return at ∷ token T.Semicolon c ∷ []) is (omega arith)
  stmt_long (ReturnS (Some e) at) ts (xs, c, part, is) =
      long (1 + size e) ts (token T.Return at ∷ xs ++ (token T.Semicolon c ∷ [])) is
      (omega (arith, both_long xs (token T.Semicolon c ∷ []), expr_long e xs part))
  stmt_long (PrintS e at) ts (xs, d, n, f, p, o, c, g, part, is) =
      long (1 + size e) ts
      (token T.System at ∷ token T.Dot d ∷ token T.Out n ∷ token T.Dot f ∷ token T.Println p ∷ token T.OpenParen o
      ∷ xs ++ (token T.CloseParen c ∷ token T.Semicolon g ∷ [])) is
      (omega (arith, both_long xs (token T.CloseParen c ∷ token T.Semicolon g ∷ []), expr_long e xs part))
  stmt_long (StartS e at) ts (xs, t, o, c, d, s, p, q, g, part, is) =
      long (1 + size e) ts
      (token T.New at ∷ token T.Thread t ∷ token T.OpenParen o
      ∷ xs ++ (token T.CloseParen c ∷ token T.Dot d ∷ token T.Start s ∷ token T.OpenParen p ∷ token T.CloseParen q ∷ token T.Semicolon g ∷ [])) is
      (omega (arith, both_long xs (token T.CloseParen c ∷ token T.Dot d ∷ token T.Start s ∷ token T.OpenParen p ∷ token T.CloseParen q ∷ token T.Semicolon g ∷ []), expr_long e xs part))

  pub stmts_long : (ss : StmtTrees) (ts : List Token) → SpellsStmts ss ts → stmt_sizes ss ≤ length ts
  stmts_long no_stmts ts is = omega arith
  stmts_long (more_stmts s ss) ts (xs, ys, one, rest, is) =
      long (stmt_size s + stmt_sizes ss) ts (xs ++ ys) is (omega (arith, both_long xs ys, stmt_long s xs one, stmts_long ss ys rest))

-- ---- members and classes

-- a field, or a method and its nodes
abbrev pub member_size : MemberTree → ℕ
member_size (FieldM f) = 1
member_size (CtorM n params sets) = 0
member_size (MethodM m) = 2 + stmt_sizes m.body

abbrev pub members_size : List MemberTree → ℕ
members_size [] = 0
members_size (m ∷ ms) = member_size m + members_size ms

-- classes, fields, methods and nodes together
abbrev pub program_size : ProgramTree → ℕ
program_size [] = 0
program_size (c ∷ cs) = 1 + (members_size c.members + program_size cs)

field_long : (fin : Bool) (f : FieldTree) (ts : List Token) → SpellsField fin f ts → 1 ≤ length ts
field_long true f ts (x, d, c, type_is, none, plain, is) =
    long 1 ts (token T.Final d ∷ x ∷ name_token f.name ∷ token T.Semicolon c ∷ []) is (omega arith)
field_long false f ts (x, gs, c, type_is, guard_is, is) =
    long 1 ts (x ∷ name_token f.name ∷ gs ++ (token T.Semicolon c ∷ [])) is (omega arith)

bare_long : (m : MemberTree) (ts : List Token) → SpellsBare m ts → member_size m ≤ length ts
bare_long (FieldM f) ts h = field_long f.is_final f ts h
bare_long (CtorM n params sets) ts h = omega arith
bare_long (MethodM m) ts (fs, xs, rs, ys, x, o, c, b, flag, result, params, locks, body, is) =
    let last = token T.OpenBrace b ∷ ys ++ (token T.CloseBrace m.end ∷ []) in
    let inner = token T.CloseParen c ∷ rs ++ last in
    long (2 + stmt_sizes m.body) ts (fs ++ (x ∷ name_token m.name ∷ token T.OpenParen o ∷ xs ++ inner)) is
    (omega (
      arith,
      both_long fs (x ∷ name_token m.name ∷ token T.OpenParen o ∷ xs ++ inner),
      both_long xs inner,
      both_long rs last,
      both_long ys (token T.CloseBrace m.end ∷ []),
      stmts_long m.body ys body,
    ))

members_long : (ms : List MemberTree) (ts : List Token) → Repeats SpellsMember ms ts → members_size ms ≤ length ts
members_long [] ts is = omega arith
members_long (m ∷ ms) ts (xs, ys, (ps, zs, public_is, one, own), rest, is) =
    long (members_size (m ∷ ms)) ts (xs ++ ys) is
    (omega (arith, both_long xs ys, long (member_size m) xs (ps ++ zs) own (omega (arith, both_long ps zs, bare_long m zs one)), members_long ms ys rest))

-- a program has no more classes, fields, methods and nodes than tokens
pub program_long : (cs : ProgramTree) (ts : List Token) → Repeats SpellsClass cs ts → program_size cs ≤ length ts
program_long [] ts is = omega arith
program_long (c ∷ cs) ts (us, vs, (ps, es, rs, xs, d, b, e, public_is, extends_is, runnable_is, members, own), rest, is) =
    let inner = token T.OpenBrace b ∷ xs ++ (token T.CloseBrace e ∷ []) in
    long (program_size (c ∷ cs)) ts (us ++ vs) is
    (omega (
      arith,
      both_long us vs,
      long (1 + members_size c.members) us (ps ++ (token T.Class d ∷ name_token c.name ∷ es ++ (rs ++ inner))) own
          (omega (arith, both_long ps (token T.Class d ∷ name_token c.name ∷ es ++ (rs ++ inner)), both_long es (rs ++ inner), both_long rs inner, both_long xs (token T.CloseBrace e ∷ []), members_long c.members xs members)),
      program_long cs vs rest,
    ))
