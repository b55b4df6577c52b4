-- The tokens of a statement at other offsets are related by the grammar to one that differs in offsets alone.
use Rattle.std.proofs.Common.{◌≡◌, suc, false, List, [], ◌∷◌, ◌++◌, Some, None, refl, ap, ap₂, ◌∙◌, subst}
use Rattle.lexer.specs.declared.tokens.Token.{Token}
use Rattle.syntax.specs.declared.terminal.Terminal.TheVariants as T
use Rattle.syntax.specs.Grammar.{is_local, open_if, offset, SpellsStmt, SpellsStmts}
use Rattle.printer.specs.Layout.{PlainToken, Fixed, plain_token_at}
use Rattle.printer.specs.Printing.{flag_lexemes, name_lexeme, type_lexeme, lock_lexemes, expr_lexemes, stmt_lexemes, stmts_lexemes}
use Rattle.syntax.specs.Tokens.{token, name_token}
use Rattle.syntax.specs.Trees.{StmtTree, StmtTrees, EmptyS, BlockS, LocalS, SetVarS, SetFieldS, DoS, IfS, IfElseS, WhileS, SyncS, ReturnS, PrintS, StartS, no_stmts, more_stmts}
use Rattle.printer.specs.Unplaced.{bare_name, bare_expr, bare_stmt, bare_stmts}
use Rattle.printer.proofs.Placing.{placed, after, placed_both, Known, front, back, together, spelled, named, Law}
use Rattle.printer.proofs.MovingExprs.{same_by, same_postfix, same_call, expr_placed, expr_law, flag_known, flag_placed, type_law, lock_law}

pub local_bare : (s : StmtTree) → is_local (bare_stmt s) ≡ is_local s
local_bare (ReturnS None at) = refl
local_bare (ReturnS (Some e) at) = refl
local_bare s = refl

pub open_bare : (s : StmtTree) → open_if (bare_stmt s) ≡ open_if s
open_bare (EmptyS at) = refl
open_bare (BlockS ss at) = refl
open_bare (LocalS fin ty n e at) = refl
open_bare (SetVarS n e at) = refl
open_bare (SetFieldS e n d at) = refl
open_bare (DoS e at) = refl
open_bare (IfS e s at) = refl
open_bare (IfElseS e s t at) = open_bare t
open_bare (WhileS e s at) = open_bare s
open_bare (SyncS l ss at) = refl
open_bare (ReturnS None at) = refl
open_bare (ReturnS (Some e) at) = refl
open_bare (PrintS e at) = refl
open_bare (StartS e at) = refl

pub same_local : (a b : StmtTree) → bare_stmt a ≡ bare_stmt b → is_local b ≡ false → is_local a ≡ false
same_local a b e h = same_by is_local bare_stmt local_bare a b e ∙ h

pub same_open : (a b : StmtTree) → bare_stmt a ≡ bare_stmt b → open_if b ≡ false → open_if a ≡ false
same_open a b e h = same_by open_if bare_stmt open_bare a b e ∙ h

abbrev pub end_of : List PlainToken
end_of = Fixed T.Semicolon ∷ []

abbrev pub close_of : List PlainToken
close_of = Fixed T.CloseBrace ∷ []

mutual
  pub stmt_law : (s : StmtTree) (ts : List Token) → SpellsStmt s ts → Known ts → Law SpellsStmt stmt_lexemes bare_stmt s
  stmt_law (EmptyS at) ts eq kn = record { known = (spelled T.Semicolon, tt); moved = λ f k. (EmptyS (f k), refl, refl) }
  stmt_law (BlockS ss at) ts (xs, c, s, eq) kn =
      let l = stmts_law ss xs s (front xs (token T.CloseBrace c ∷ []) (subst Known eq kn).1) in
      record {
        known = (spelled T.OpenBrace, together (stmts_lexemes ss) close_of l.known (spelled T.CloseBrace, tt));
        moved = λ f k. let m = l.moved f (suc k) in
            (BlockS m.0 (f k), (placed f (suc k) (stmts_lexemes ss), f (after (suc k) (stmts_lexemes ss)), m.1, ap (λ z. token T.OpenBrace (f k) ∷ z) (placed_both f (suc k) (stmts_lexemes ss) close_of)), ap (λ z. BlockS z 0) m.2);
      }
  stmt_law (LocalS fin ty n e at) ts (fs, ys, x, d, c, fl, t, s, o, eq) kn =
      let tail = x ∷ name_token n ∷ token T.Assign d ∷ ys ++ (token T.Semicolon c ∷ []) in
      let kn2 = back fs tail (subst Known eq kn) in
      let a = type_law ty x t kn2.0 in
      let l = expr_law e ys s (front ys (token T.Semicolon c ∷ []) kn2.1.1.1) in
      let rest = type_lexeme ty ∷ name_lexeme n ∷ Fixed T.Assign ∷ expr_lexemes e ++ end_of in
      record {
        known = together (flag_lexemes T.Final fin) rest (flag_known T.Final fin) (a.known, (kn2.1.0, (spelled T.Assign, together (expr_lexemes e) end_of l.known (spelled T.Semicolon, tt))));
        moved = λ f k.
            let j = after k (flag_lexemes T.Final fin) in
            let i = suc (suc (suc j)) in
            let b = a.moved (f j) in
            let m = l.moved f i in (
              LocalS fin b.0 (named n (f (suc j))) m.0 (offset (placed f k (flag_lexemes T.Final fin ++ rest))),
              (
                placed f k (flag_lexemes T.Final fin),
                placed f i (expr_lexemes e),
                plain_token_at (f j) (type_lexeme ty),
                f (suc (suc j)),
                f (after i (expr_lexemes e)),
                flag_placed T.Final fin f k,
                b.1,
                m.1,
                refl,
                placed_both f k (flag_lexemes T.Final fin) rest
                    ∙ ap (λ z. placed f k (flag_lexemes T.Final fin) ++ (plain_token_at (f j) (type_lexeme ty) ∷ name_token (named n (f (suc j))) ∷ token T.Assign (f (suc (suc j))) ∷ z)) (expr_placed f i e end_of),
              ),
              ap₂ (λ y z. LocalS fin y (bare_name n) z 0) b.2 m.2,
            );
      }
  stmt_law (SetVarS n e at) ts (ys, c, s, eq) kn =
      let kn2 = subst Known eq kn in
      let l = expr_law e ys s (front ys (token T.Semicolon c ∷ []) kn2.1.1) in
      record {
        known = (kn2.0, (spelled T.Assign, together (expr_lexemes e) end_of l.known (spelled T.Semicolon, tt)));
        moved = λ f k. let i = suc (suc k) in let m = l.moved f i in (
          SetVarS (named n (f k)) m.0 (f (suc k)),
          (placed f i (expr_lexemes e), f (after i (expr_lexemes e)), m.1, ap (λ z. name_token (named n (f k)) ∷ token T.Assign (f (suc k)) ∷ z) (expr_placed f i e end_of)),
          ap (λ z. SetVarS (bare_name n) z 0) m.2,
        );
      }
  stmt_law (SetFieldS e n d at) ts (xs, ys, o, c, s, post, u, eq) kn =
      let kn2 = subst Known eq kn in
      let tail = token T.Dot o ∷ name_token n ∷ token T.Assign at ∷ ys ++ (token T.Semicolon c ∷ []) in
      let l = expr_law e xs s (front xs tail kn2) in
      let kn3 = back xs tail kn2 in
      let r = expr_law d ys u (front ys (token T.Semicolon c ∷ []) kn3.1.1.1) in
      let rest = Fixed T.Dot ∷ name_lexeme n ∷ Fixed T.Assign ∷ expr_lexemes d ++ end_of in
      record {
        known = together (expr_lexemes e) rest l.known (spelled T.Dot, (kn3.1.0, (spelled T.Assign, together (expr_lexemes d) end_of r.known (spelled T.Semicolon, tt))));
        moved = λ f k.
            let j = after k (expr_lexemes e) in
            let i = suc (suc (suc j)) in
            let m = l.moved f k in
            let q = r.moved f i in (
              SetFieldS m.0 (named n (f (suc j))) q.0 (f (suc (suc j))),
              (
                placed f k (expr_lexemes e),
                placed f i (expr_lexemes d),
                f j,
                f (after i (expr_lexemes d)),
                m.1,
                same_postfix m.0 e m.2 post,
                q.1,
                expr_placed f k e rest ∙ ap (λ z. placed f k (expr_lexemes e) ++ (token T.Dot (f j) ∷ name_token (named n (f (suc j))) ∷ token T.Assign (f (suc (suc j))) ∷ z)) (expr_placed f i d end_of),
              ),
              ap₂ (λ x y. SetFieldS x (bare_name n) y 0) m.2 q.2,
            );
      }
  stmt_law (DoS e at) ts (xs, c, s, call, o, eq) kn =
      let l = expr_law e xs s (front xs (token T.Semicolon c ∷ []) (subst Known eq kn)) in
      record {
        known = together (expr_lexemes e) end_of l.known (spelled T.Semicolon, tt);
        moved = λ f k. let m = l.moved f k in (
          DoS m.0 (offset (placed f k (expr_lexemes e ++ end_of))),
          (placed f k (expr_lexemes e), f (after k (expr_lexemes e)), m.1, same_call m.0 e m.2 call, refl, expr_placed f k e end_of),
          ap (λ z. DoS z 0) m.2,
        );
      }
  stmt_law (IfS e s at) ts (xs, ys, o, c, a, b, loc, eq) kn =
      let kn2 = (subst Known eq kn).1.1 in
      let l = expr_law e xs a (front xs (token T.CloseParen c ∷ ys) kn2) in
      let r = stmt_law s ys b (back xs (token T.CloseParen c ∷ ys) kn2).1 in
      record {
        known = (spelled T.If, (spelled T.OpenParen, together (expr_lexemes e) (Fixed T.CloseParen ∷ stmt_lexemes s) l.known (spelled T.CloseParen, r.known)));
        moved = λ f k.
            let i = suc (suc k) in
            let j = after i (expr_lexemes e) in
            let m = l.moved f i in
            let q = r.moved f (suc j) in (
              IfS m.0 q.0 (f k),
              (
                placed f i (expr_lexemes e),
                placed f (suc j) (stmt_lexemes s),
                f (suc k),
                f j,
                m.1,
                q.1,
                same_local q.0 s q.2 loc,
                ap (λ z. token T.If (f k) ∷ token T.OpenParen (f (suc k)) ∷ z) (expr_placed f i e (Fixed T.CloseParen ∷ stmt_lexemes s)),
              ),
              ap₂ (λ x y. IfS x y 0) m.2 q.2,
            );
      }
  stmt_law (IfElseS e s t at) ts (xs, ys, zs, o, c, d, a, b, g, loc, loc2, closed, eq) kn =
      let kn2 = (subst Known eq kn).1.1 in
      let tail = ys ++ (token T.Else d ∷ zs) in
      let l = expr_law e xs a (front xs (token T.CloseParen c ∷ tail) kn2) in
      let kn3 = (back xs (token T.CloseParen c ∷ tail) kn2).1 in
      let r = stmt_law s ys b (front ys (token T.Else d ∷ zs) kn3) in
      let w = stmt_law t zs g (back ys (token T.Else d ∷ zs) kn3).1 in
      let other = Fixed T.Else ∷ stmt_lexemes t in
      record {
        known = (spelled T.If, (spelled T.OpenParen, together (expr_lexemes e) (Fixed T.CloseParen ∷ stmt_lexemes s ++ other) l.known (spelled T.CloseParen, together (stmt_lexemes s) other r.known (spelled T.Else, w.known))));
        moved = λ f k.
            let i = suc (suc k) in
            let j = after i (expr_lexemes e) in
            let h = after (suc j) (stmt_lexemes s) in
            let m = l.moved f i in
            let q = r.moved f (suc j) in
            let v = w.moved f (suc h) in (
              IfElseS m.0 q.0 v.0 (f k),
              (
                placed f i (expr_lexemes e),
                placed f (suc j) (stmt_lexemes s),
                placed f (suc h) (stmt_lexemes t),
                f (suc k),
                f j,
                f h,
                m.1,
                q.1,
                v.1,
                same_local q.0 s q.2 loc,
                same_local v.0 t v.2 loc2,
                same_open q.0 s q.2 closed,
                ap (λ z. token T.If (f k) ∷ token T.OpenParen (f (suc k)) ∷ z)
                    (expr_placed f i e (Fixed T.CloseParen ∷ stmt_lexemes s ++ other) ∙ ap (λ z. placed f i (expr_lexemes e) ++ (token T.CloseParen (f j) ∷ z)) (placed_both f (suc j) (stmt_lexemes s) other)),
              ),
              ap (λ x. IfElseS x (bare_stmt q.0) (bare_stmt v.0) 0) m.2 ∙ ap₂ (λ y z. IfElseS (bare_expr e) y z 0) q.2 v.2,
            );
      }
  stmt_law (WhileS e s at) ts (xs, ys, o, c, a, b, loc, eq) kn =
      let kn2 = (subst Known eq kn).1.1 in
      let l = expr_law e xs a (front xs (token T.CloseParen c ∷ ys) kn2) in
      let r = stmt_law s ys b (back xs (token T.CloseParen c ∷ ys) kn2).1 in
      record {
        known = (spelled T.While, (spelled T.OpenParen, together (expr_lexemes e) (Fixed T.CloseParen ∷ stmt_lexemes s) l.known (spelled T.CloseParen, r.known)));
        moved = λ f k.
            let i = suc (suc k) in
            let j = after i (expr_lexemes e) in
            let m = l.moved f i in
            let q = r.moved f (suc j) in (
              WhileS m.0 q.0 (f k),
              (
                placed f i (expr_lexemes e),
                placed f (suc j) (stmt_lexemes s),
                f (suc k),
                f j,
                m.1,
                q.1,
                same_local q.0 s q.2 loc,
                ap (λ z. token T.While (f k) ∷ token T.OpenParen (f (suc k)) ∷ z) (expr_placed f i e (Fixed T.CloseParen ∷ stmt_lexemes s)),
              ),
              ap₂ (λ x y. WhileS x y 0) m.2 q.2,
            );
      }
  stmt_law (SyncS lock ss at) ts (xs, ys, o, c, b, d, a, g, eq) kn =
      let kn2 = (subst Known eq kn).1.1 in
      let tail = token T.CloseParen c ∷ token T.OpenBrace b ∷ ys ++ (token T.CloseBrace d ∷ []) in
      let l = lock_law lock xs a (front xs tail kn2) in
      let r = stmts_law ss ys g (front ys (token T.CloseBrace d ∷ []) (back xs tail kn2).1.1) in
      let rest = Fixed T.CloseParen ∷ Fixed T.OpenBrace ∷ stmts_lexemes ss ++ close_of in
      record {
        known = (spelled T.Synchronized, (spelled T.OpenParen, together (lock_lexemes lock) rest l.known (spelled T.CloseParen, (spelled T.OpenBrace, together (stmts_lexemes ss) close_of r.known (spelled T.CloseBrace, tt)))));
        moved = λ f k.
            let i = suc (suc k) in
            let j = after i (lock_lexemes lock) in
            let h = suc (suc j) in
            let m = l.moved f i in
            let q = r.moved f h in (
              SyncS m.0 q.0 (f k),
              (
                placed f i (lock_lexemes lock),
                placed f h (stmts_lexemes ss),
                f (suc k),
                f j,
                f (suc j),
                f (after h (stmts_lexemes ss)),
                m.1,
                q.1,
                ap (λ z. token T.Synchronized (f k) ∷ token T.OpenParen (f (suc k)) ∷ z)
                    (placed_both f i (lock_lexemes lock) rest ∙ ap (λ z. placed f i (lock_lexemes lock) ++ (token T.CloseParen (f j) ∷ token T.OpenBrace (f (suc j)) ∷ z)) (placed_both f h (stmts_lexemes ss) close_of)),
              ),
              ap₂ (λ x y. SyncS x y 0) m.2 q.2,
            );
      }
  stmt_law (ReturnS None at) ts s kn = record { known = (spelled T.Return, (spelled T.Semicolon, tt)); moved = λ f k. (ReturnS None (f k), (f (suc k), refl), refl) }
  stmt_law (ReturnS (Some e) at) ts (xs, c, s, eq) kn =
      let l = expr_law e xs s (front xs (token T.Semicolon c ∷ []) (subst Known eq kn).1) in
      record {
        known = (spelled T.Return, together (expr_lexemes e) end_of l.known (spelled T.Semicolon, tt));
        moved = λ f k. let m = l.moved f (suc k) in
            (ReturnS (Some m.0) (f k), (placed f (suc k) (expr_lexemes e), f (after (suc k) (expr_lexemes e)), m.1, ap (λ z. token T.Return (f k) ∷ z) (expr_placed f (suc k) e end_of)), ap (λ z. ReturnS (Some z) 0) m.2);
      }
  stmt_law (PrintS e at) ts (xs, d, n, o, p, r, c, g, s, eq) kn =
      let l = expr_law e xs s (front xs (token T.CloseParen c ∷ token T.Semicolon g ∷ []) (subst Known eq kn).1.1.1.1.1.1) in
      let rest = Fixed T.CloseParen ∷ end_of in
      record {
        known = (spelled T.System, (spelled T.Dot, (spelled T.Out, (spelled T.Dot, (spelled T.Println, (spelled T.OpenParen, together (expr_lexemes e) rest l.known (spelled T.CloseParen, (spelled T.Semicolon, tt))))))));
        moved = λ f k.
            let k2 = suc (suc k) in
            let k4 = suc (suc k2) in
            let i = suc (suc k4) in
            let j = after i (expr_lexemes e) in
            let m = l.moved f i in (
              PrintS m.0 (f k),
              (
                placed f i (expr_lexemes e),
                f (suc k),
                f k2,
                f (suc k2),
                f k4,
                f (suc k4),
                f j,
                f (suc j),
                m.1,
                ap (λ z. token T.System (f k) ∷ token T.Dot (f (suc k)) ∷ token T.Out (f k2) ∷ token T.Dot (f (suc k2)) ∷ token T.Println (f k4) ∷ token T.OpenParen (f (suc k4)) ∷ z) (expr_placed f i e rest),
              ),
              ap (λ z. PrintS z 0) m.2,
            );
      }
  stmt_law (StartS e at) ts (xs, t, o, c, d, n, p, q, g, s, eq) kn =
      let l = expr_law e xs s (front xs (token T.CloseParen c ∷ token T.Dot d ∷ token T.Start n ∷ token T.OpenParen p ∷ token T.CloseParen q ∷ token T.Semicolon g ∷ []) (subst Known eq kn).1.1.1) in
      let rest = Fixed T.CloseParen ∷ Fixed T.Dot ∷ Fixed T.Start ∷ Fixed T.OpenParen ∷ Fixed T.CloseParen ∷ end_of in
      record {
        known = (
          spelled T.New,
          (
            spelled T.Thread,
            (
              spelled T.OpenParen,
              together (expr_lexemes e) rest l.known
                  (spelled T.CloseParen, (spelled T.Dot, (spelled T.Start, (spelled T.OpenParen, (spelled T.CloseParen, (spelled T.Semicolon, tt)))))),
            ),
          ),
        );
        moved = λ f k.
            let i = suc (suc (suc k)) in
            let j = after i (expr_lexemes e) in
            let j2 = suc (suc j) in
            let j4 = suc (suc j2) in
            let m = l.moved f i in (
              StartS m.0 (f k),
              (
                placed f i (expr_lexemes e),
                f (suc k),
                f (suc (suc k)),
                f j,
                f (suc j),
                f j2,
                f (suc j2),
                f j4,
                f (suc j4),
                m.1,
                ap (λ z. token T.New (f k) ∷ token T.Thread (f (suc k)) ∷ token T.OpenParen (f (suc (suc k))) ∷ z) (expr_placed f i e rest),
              ),
              ap (λ z. StartS z 0) m.2,
            );
      }

  pub stmts_law : (ss : StmtTrees) (ts : List Token) → SpellsStmts ss ts → Known ts → Law SpellsStmts stmts_lexemes bare_stmts ss
  stmts_law no_stmts ts eq kn = record { known = tt; moved = λ f k. (no_stmts, refl, refl) }
  stmts_law (more_stmts s ss) ts (xs, ys, a, b, eq) kn =
      let kn2 = subst Known eq kn in
      let l = stmt_law s xs a (front xs ys kn2) in
      let r = stmts_law ss ys b (back xs ys kn2) in
      record {
        known = together (stmt_lexemes s) (stmts_lexemes ss) l.known r.known;
        moved = λ f k.
            let j = after k (stmt_lexemes s) in
            let m = l.moved f k in
            let q = r.moved f j in
            (more_stmts m.0 q.0, (placed f k (stmt_lexemes s), placed f j (stmts_lexemes ss), m.1, q.1, placed_both f k (stmt_lexemes s) (stmts_lexemes ss)), ap₂ more_stmts m.2 q.2);
      }
