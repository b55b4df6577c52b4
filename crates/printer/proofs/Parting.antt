-- In the tokens of a tree nothing that begins with `=` follows a `!`.
use Rattle.std.proofs.Common.{◌≡◌, Bool, true, false, ◌&&◌, List, [], ◌∷◌, ◌++◌, Option, Some, None, refl, sym, subst}
use Rattle.syntax.specs.declared.terminal.Terminal.TheVariants as T
use Rattle.syntax.specs.declared.tree.Name.{Name}
use Rattle.syntax.specs.declared.tree.Param.{Param}
use Rattle.syntax.specs.declared.tree.TypeName.{TypeName}
use Rattle.syntax.specs.declared.tree.TypeName.TheVariants as Y
use Rattle.syntax.specs.Grammar.{sign_of}
use Rattle.printer.specs.Layout.{PlainToken, Fixed}
use Rattle.printer.specs.Printing.{all_lexemes, further_lexemes, listed_lexemes, flag_lexemes, name_lexeme, type_lexeme, result_lexeme, dotted_lexemes, root_lexeme, lock_lexemes, expr_lexemes, args_lexemes, more_args_lexemes, stmt_lexemes, stmts_lexemes, param_lexemes, set_lexemes, guard_lexemes, requires_lexemes, member_lexemes, runnable_lexemes, extends_lexemes, class_lexemes, program_lexemes}
use Rattle.printer.specs.Reprinted.{Parted, is_bang}
use Rattle.syntax.specs.Trees.{LockTree, ExprTree, ExprTrees, NumberE, LeastE, TruthE, NullE, ThisE, VarE, ParenE, NotE, NegE, BinaryE, GetE, CallE, NewE, no_exprs, more_exprs, StmtTree, StmtTrees, EmptyS, BlockS, LocalS, SetVarS, SetFieldS, DoS, IfS, IfElseS, WhileS, SyncS, ReturnS, PrintS, StartS, no_stmts, more_stmts, MemberTree, FieldM, CtorM, MethodM, ClassTree, ProgramTree}

never : {A : Type 0} → false ≡ true → A
never h = absurd (cc)

both : (bang : Bool) (xs ys : List PlainToken) → Parted bang xs → Parted false ys → Parted bang (xs ++ ys)
both bang [] ys p q = subst (λ b. Parted b ys) (sym p) q
both bang (x ∷ xs) ys p q = (p.0, both (is_bang x) xs ys p.1 q)

weak : (bang : Bool) (xs : List PlainToken) → Parted true xs → Parted bang xs
weak bang [] p = absurd (cc)
weak bang (x ∷ xs) p = ((λ e. p.0 refl), p.1)

mutual
  expr_parted : (e : ExprTree) → Parted true (expr_lexemes e)
  expr_parted (NumberE n at) = ((λ e. refl), refl)
  expr_parted (LeastE at) = ((λ e. refl), (never, refl))
  expr_parted (TruthE true at) = ((λ e. refl), refl)
  expr_parted (TruthE false at) = ((λ e. refl), refl)
  expr_parted (NullE at) = ((λ e. refl), refl)
  expr_parted (ThisE at) = ((λ e. refl), refl)
  expr_parted (VarE n) = ((λ e. refl), refl)
  expr_parted (ParenE e at) = ((λ e. refl), both false (expr_lexemes e) (Fixed T.CloseParen ∷ []) (weak false (expr_lexemes e) (expr_parted e)) (never, refl))
  expr_parted (NotE e at) = ((λ e. refl), expr_parted e)
  expr_parted (NegE e at) = ((λ e. refl), weak false (expr_lexemes e) (expr_parted e))
  expr_parted (BinaryE op e f at) = both true (expr_lexemes e) (Fixed (sign_of op) ∷ expr_lexemes f) (expr_parted e) (never, weak (is_bang (Fixed (sign_of op))) (expr_lexemes f) (expr_parted f))
  expr_parted (GetE e n) = both true (expr_lexemes e) (Fixed T.Dot ∷ name_lexeme n ∷ []) (expr_parted e) (never, (never, refl))
  expr_parted (CallE e n args) =
      both true (expr_lexemes e) (Fixed T.Dot ∷ name_lexeme n ∷ Fixed T.OpenParen ∷ args_lexemes args ++ (Fixed T.CloseParen ∷ [])) (expr_parted e)
      (never, (never, (never, both false (args_lexemes args) (Fixed T.CloseParen ∷ []) (args_parted args) (never, refl))))
  expr_parted (NewE n args at) = ((λ e. refl), (never, (never, both false (args_lexemes args) (Fixed T.CloseParen ∷ []) (args_parted args) (never, refl))))

  args_parted : (es : ExprTrees) → Parted false (args_lexemes es)
  args_parted no_exprs = refl
  args_parted (more_exprs e es) = both false (expr_lexemes e) (more_args_lexemes es) (weak false (expr_lexemes e) (expr_parted e)) (more_parted es)

  more_parted : (es : ExprTrees) → Parted false (more_args_lexemes es)
  more_parted no_exprs = refl
  more_parted (more_exprs e es) = (never, both false (expr_lexemes e) (more_args_lexemes es) (weak false (expr_lexemes e) (expr_parted e)) (more_parted es))

-- an expression and what comes after it
expr_then : (e : ExprTree) (xs : List PlainToken) → Parted false xs → Parted false (expr_lexemes e ++ xs)
expr_then e xs p = both false (expr_lexemes e) xs (weak false (expr_lexemes e) (expr_parted e)) p

flag_parted : (fin : Bool) (xs : List PlainToken) → Parted false xs → Parted false (flag_lexemes T.Final fin ++ xs)
flag_parted true xs p = (never, p)
flag_parted false xs p = p

atomic_parted : (atomic : Bool) (xs : List PlainToken) → Parted false xs → Parted false (flag_lexemes T.Atomic atomic ++ xs)
atomic_parted true xs p = (never, p)
atomic_parted false xs p = p

type_parted : (ty : TypeName) (xs : List PlainToken) → Parted false xs → Parted false (type_lexeme ty ∷ xs)
type_parted Y.Int xs p = (never, p)
type_parted Y.Boolean xs p = (never, p)
type_parted (Y.Class n) xs p = (never, p)

result_parted : (ty : Option TypeName) (xs : List PlainToken) → Parted false xs → Parted false (result_lexeme ty ∷ xs)
result_parted None xs p = (never, p)
result_parted (Some ty) xs p = type_parted ty xs p

all_parted : {A : Type 0} (f : A → List PlainToken) → ((a : A) → Parted false (f a)) → (xs : List A) → Parted false (all_lexemes f xs)
all_parted f h [] = refl
all_parted f h (x ∷ xs) = both false (f x) (all_lexemes f xs) (h x) (all_parted f h xs)

further_parted : {A : Type 0} (f : A → List PlainToken) → ((a : A) → Parted false (f a)) → (xs : List A) → Parted false (further_lexemes f xs)
further_parted f h [] = refl
further_parted f h (x ∷ xs) = (never, both false (f x) (further_lexemes f xs) (h x) (further_parted f h xs))

listed_parted : {A : Type 0} (f : A → List PlainToken) → ((a : A) → Parted false (f a)) → (xs : List A) → Parted false (listed_lexemes f xs)
listed_parted f h [] = refl
listed_parted f h (x ∷ xs) = both false (f x) (further_lexemes f xs) (h x) (further_parted f h xs)

root_parted : (root : Option Name) (xs : List PlainToken) → Parted false xs → Parted false (root_lexeme root ∷ xs)
root_parted None xs p = (never, p)
root_parted (Some n) xs p = (never, p)

lock_parted : (l : LockTree) → Parted false (lock_lexemes l)
lock_parted l = root_parted l.root (all_lexemes dotted_lexemes l.fields) (all_parted dotted_lexemes (λ n. (never, (never, refl))) l.fields)

mutual
  stmt_parted : (s : StmtTree) → Parted false (stmt_lexemes s)
  stmt_parted (EmptyS at) = (never, refl)
  stmt_parted (BlockS ss at) = (never, both false (stmts_lexemes ss) (Fixed T.CloseBrace ∷ []) (stmts_parted ss) (never, refl))
  stmt_parted (LocalS fin ty n e at) =
      flag_parted fin (type_lexeme ty ∷ name_lexeme n ∷ Fixed T.Assign ∷ expr_lexemes e ++ (Fixed T.Semicolon ∷ []))
      (type_parted ty (name_lexeme n ∷ Fixed T.Assign ∷ expr_lexemes e ++ (Fixed T.Semicolon ∷ [])) (never, (never, expr_then e (Fixed T.Semicolon ∷ []) (never, refl))))
  stmt_parted (SetVarS n e at) = (never, (never, expr_then e (Fixed T.Semicolon ∷ []) (never, refl)))
  stmt_parted (SetFieldS e n f at) =
      expr_then e (Fixed T.Dot ∷ name_lexeme n ∷ Fixed T.Assign ∷ expr_lexemes f ++ (Fixed T.Semicolon ∷ [])) (never, (never, (never, expr_then f (Fixed T.Semicolon ∷ []) (never, refl))))
  stmt_parted (DoS e at) = expr_then e (Fixed T.Semicolon ∷ []) (never, refl)
  stmt_parted (IfS e s at) = (never, (never, expr_then e (Fixed T.CloseParen ∷ stmt_lexemes s) (never, stmt_parted s)))
  stmt_parted (IfElseS e s t at) =
      (never, (never, expr_then e (Fixed T.CloseParen ∷ stmt_lexemes s ++ (Fixed T.Else ∷ stmt_lexemes t)) (never, both false (stmt_lexemes s) (Fixed T.Else ∷ stmt_lexemes t) (stmt_parted s) (never, stmt_parted t))))
  stmt_parted (WhileS e s at) = (never, (never, expr_then e (Fixed T.CloseParen ∷ stmt_lexemes s) (never, stmt_parted s)))
  stmt_parted (SyncS l ss at) = (
    never,
    (
      never,
      both false (lock_lexemes l) (Fixed T.CloseParen ∷ Fixed T.OpenBrace ∷ stmts_lexemes ss ++ (Fixed T.CloseBrace ∷ [])) (lock_parted l)
          (never, (never, both false (stmts_lexemes ss) (Fixed T.CloseBrace ∷ []) (stmts_parted ss) (never, refl))),
    ),
  )
  stmt_parted (ReturnS None at) = (never, (never, refl))
  stmt_parted (ReturnS (Some e) at) = (never, expr_then e (Fixed T.Semicolon ∷ []) (never, refl))
  stmt_parted (PrintS e at) = (never, (never, (never, (never, (never, (never, expr_then e (Fixed T.CloseParen ∷ Fixed T.Semicolon ∷ []) (never, (never, refl))))))))
  stmt_parted (StartS e at) =
      (never, (never, (never, expr_then e (Fixed T.CloseParen ∷ Fixed T.Dot ∷ Fixed T.Start ∷ Fixed T.OpenParen ∷ Fixed T.CloseParen ∷ Fixed T.Semicolon ∷ []) (never, (never, (never, (never, (never, (never, refl)))))))))

  stmts_parted : (ss : StmtTrees) → Parted false (stmts_lexemes ss)
  stmts_parted no_stmts = refl
  stmts_parted (more_stmts s ss) = both false (stmt_lexemes s) (stmts_lexemes ss) (stmt_parted s) (stmts_parted ss)

param_parted : (keeps : Bool) (p : Param) → Parted false (param_lexemes keeps p)
param_parted keeps p = flag_parted (keeps && p.is_final) (type_lexeme p.ty ∷ name_lexeme p.name ∷ []) (type_parted p.ty (name_lexeme p.name ∷ []) (never, refl))

guard_parted : (writes_only : Bool) (guard : Option LockTree) → Parted false (guard_lexemes writes_only guard)
guard_parted writes_only None = refl
guard_parted false (Some l) = (never, lock_parted l)
guard_parted true (Some l) = (never, lock_parted l)

requires_parted : (locks : List LockTree) → Parted false (requires_lexemes locks)
requires_parted [] = refl
requires_parted (l ∷ ls) = (never, listed_parted lock_lexemes lock_parted (l ∷ ls))

member_parted : (m : MemberTree) → Parted false (member_lexemes m)
member_parted (FieldM f) =
    let guard = guard_lexemes f.writes_only f.guard in
    flag_parted f.is_final (type_lexeme f.ty ∷ name_lexeme f.name ∷ guard ++ (Fixed T.Semicolon ∷ []))
    (type_parted f.ty (name_lexeme f.name ∷ guard ++ (Fixed T.Semicolon ∷ [])) (never, both false guard (Fixed T.Semicolon ∷ []) (guard_parted f.writes_only f.guard) (never, refl)))
member_parted (CtorM n params sets) = (
  never,
  (
    never,
    both false (listed_lexemes (param_lexemes false) params) (Fixed T.CloseParen ∷ Fixed T.OpenBrace ∷ all_lexemes set_lexemes sets ++ (Fixed T.CloseBrace ∷ []))
        (listed_parted (param_lexemes false) (param_parted false) params)
        (never, (never, both false (all_lexemes set_lexemes sets) (Fixed T.CloseBrace ∷ []) (all_parted set_lexemes (λ p. (never, (never, (never, (never, (never, (never, refl))))))) sets) (never, refl))),
  ),
)
member_parted (MethodM m) =
    let body = Fixed T.OpenBrace ∷ stmts_lexemes m.body ++ (Fixed T.CloseBrace ∷ []) in
    let behind = Fixed T.CloseParen ∷ requires_lexemes m.locks ++ body in
    let signature = name_lexeme m.name ∷ Fixed T.OpenParen ∷ listed_lexemes (param_lexemes true) m.params ++ behind in
    atomic_parted m.atomic (result_lexeme m.returns ∷ signature) (result_parted m.returns signature (
      never,
      (
        never,
        both false (listed_lexemes (param_lexemes true) m.params) behind (listed_parted (param_lexemes true) (param_parted true) m.params)
            (never, both false (requires_lexemes m.locks) body (requires_parted m.locks) (never, both false (stmts_lexemes m.body) (Fixed T.CloseBrace ∷ []) (stmts_parted m.body) (never, refl))),
      ),
    ))

runnable_parted : (runnable : Bool) → Parted false (runnable_lexemes runnable)
runnable_parted true = (never, (never, refl))
runnable_parted false = refl

extends_parted : (above : Option Name) → Parted false (extends_lexemes above)
extends_parted None = refl
extends_parted (Some n) = (never, (never, refl))

class_parted : (c : ClassTree) → Parted false (class_lexemes c)
class_parted c =
    let block = Fixed T.OpenBrace ∷ all_lexemes member_lexemes c.members ++ (Fixed T.CloseBrace ∷ []) in (
      never,
      (
        never,
        both false (extends_lexemes c.above) (runnable_lexemes c.runnable ++ block) (extends_parted c.above)
            (both false (runnable_lexemes c.runnable) block (runnable_parted c.runnable)
            (never, both false (all_lexemes member_lexemes c.members) (Fixed T.CloseBrace ∷ []) (all_parted member_lexemes member_parted c.members) (never, refl))),
      ),
    )

pub program_parted : (t : ProgramTree) → Parted false (program_lexemes t)
program_parted t = all_parted class_lexemes class_parted t
