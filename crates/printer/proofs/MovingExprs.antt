-- The tokens of an expression, a type or a lock at other offsets are related by the grammar to one that differs in offsets alone.
use Rattle.std.proofs.Common.{◌≡◌, ℕ, suc, ◌<◌, ◌≤◌, Bool, true, false, List, [], ◌∷◌, ◌++◌, map, Option, Some, None, refl, ap, ap₂, sym, ◌∙◌, subst, arith, decimal}
use Rattle.std.specs.Option.{option_map}
use Rattle.lexer.specs.declared.tokens.Token.{Token}
use Rattle.lexer.specs.Limits.{greatest_literal}
use Rattle.lexer.specs.Tokens.{IsOfKind}
use Rattle.syntax.specs.declared.terminal.Terminal.{Terminal}
use Rattle.syntax.specs.declared.terminal.Terminal.TheVariants as T
use Rattle.syntax.specs.declared.tree.Name.{Name}
use Rattle.syntax.specs.declared.tree.TypeName.{TypeName}
use Rattle.syntax.specs.declared.tree.TypeName.TheVariants as Y
use Rattle.syntax.specs.Grammar.{sign_of, level, loose, is_postfix, may_be_statement, IsFlag, IsType, IsResultType, SpellsFields, SpellsRoot, SpellsLock, Spells, SpellsArgs, SpellsMoreArgs}
use Rattle.printer.specs.Layout.{PlainToken, Fixed, lexeme_text, plain_token_at}
use Rattle.printer.specs.Printing.{all_lexemes, flag_lexemes, name_lexeme, type_lexeme, result_lexeme, dotted_lexemes, root_lexeme, lock_lexemes, expr_lexemes, args_lexemes, more_args_lexemes}
use Rattle.printer.specs.Reprinted.{AreLexemes, lexeme_kind}
use Rattle.syntax.specs.Tokens.{token, name_token}
use Rattle.syntax.specs.Trees.{LockTree, ExprTree, ExprTrees, NumberE, LeastE, TruthE, NullE, ThisE, VarE, ParenE, NotE, NegE, BinaryE, GetE, CallE, NewE, no_exprs, more_exprs}
use Rattle.printer.specs.Unplaced.{bare_name, bare_type, bare_lock, bare_expr, bare_exprs}
use Rattle.printer.proofs.Placing.{placed, after, placed_both, Known, front, back, together, spelled, numbered, named, Law}

pub loose_bare : (e : ExprTree) → loose (bare_expr e) ≡ loose e
loose_bare (LeastE at) = refl
loose_bare e = refl

pub postfix_bare : (e : ExprTree) → is_postfix (bare_expr e) ≡ is_postfix e
postfix_bare (LeastE at) = refl
postfix_bare e = refl

pub call_bare : (e : ExprTree) → may_be_statement (bare_expr e) ≡ may_be_statement e
call_bare (LeastE at) = refl
call_bare e = refl

pub same_by : {A B : Type 0} (f : A → B) (bare : A → A) → ((a : A) → f (bare a) ≡ f a) → (a b : A) → bare a ≡ bare b → f a ≡ f b
same_by f bare h a b e = sym (h a) ∙ ap f e ∙ h b

pub same_loose : (a b : ExprTree) → bare_expr a ≡ bare_expr b → loose a ≡ loose b
same_loose = same_by loose bare_expr loose_bare

pub same_postfix : (a b : ExprTree) → bare_expr a ≡ bare_expr b → is_postfix b ≡ true → is_postfix a ≡ true
same_postfix a b e h = same_by is_postfix bare_expr postfix_bare a b e ∙ h

pub same_call : (a b : ExprTree) → bare_expr a ≡ bare_expr b → may_be_statement b ≡ true → may_be_statement a ≡ true
same_call a b e h = same_by may_be_statement bare_expr call_bare a b e ∙ h

-- what an expression stands before
pub expr_placed : (f : ℕ → ℕ) (k : ℕ) (e : ExprTree) (ys : List PlainToken) → placed f k (expr_lexemes e ++ ys) ≡ placed f k (expr_lexemes e) ++ placed f (after k (expr_lexemes e)) ys
expr_placed f k e ys = placed_both f k (expr_lexemes e) ys

mutual
  pub expr_law : (e : ExprTree) (ts : List Token) → Spells e ts → Known ts → Law Spells expr_lexemes bare_expr e
  expr_law (NumberE n at) ts (text, small, eq) kn = record {
    known = (numbered n (omega (arith, small)), tt);
    moved = λ f k. (NumberE n (f k), (decimal n, small, refl), refl);
  }
  expr_law (LeastE at) ts s kn = record {
    known = (spelled T.Minus, (numbered greatest_literal (omega arith), tt));
    moved = λ f k. (LeastE (f k), (decimal greatest_literal, f (suc k), refl), refl);
  }
  expr_law (TruthE true at) ts s kn = record { known = (spelled T.True, tt); moved = λ f k. (TruthE true (f k), refl, refl) }
  expr_law (TruthE false at) ts s kn = record { known = (spelled T.False, tt); moved = λ f k. (TruthE false (f k), refl, refl) }
  expr_law (NullE at) ts s kn = record { known = (spelled T.Null, tt); moved = λ f k. (NullE (f k), refl, refl) }
  expr_law (ThisE at) ts s kn = record { known = (spelled T.This, tt); moved = λ f k. (ThisE (f k), refl, refl) }
  expr_law (VarE n) ts eq kn = record { known = ((subst Known eq kn).0, tt); moved = λ f k. (VarE (named n (f k)), refl, refl) }
  expr_law (ParenE e at) ts (xs, c, s, eq) kn =
      let l = expr_law e xs s (front xs (token T.CloseParen c ∷ []) (subst Known eq kn).1) in
      record {
        known = (spelled T.OpenParen, together (expr_lexemes e) (Fixed T.CloseParen ∷ []) l.known (spelled T.CloseParen, tt));
        moved = λ f k. let m = l.moved f (suc k) in
            (ParenE m.0 (f k), (placed f (suc k) (expr_lexemes e), f (after (suc k) (expr_lexemes e)), m.1, ap (λ z. token T.OpenParen (f k) ∷ z) (expr_placed f (suc k) e (Fixed T.CloseParen ∷ []))), ap (λ z. ParenE z 0) m.2);
      }
  expr_law (NotE e at) ts (xs, s, tight, eq) kn =
      let l = expr_law e xs s (subst Known eq kn).1 in
      record {
        known = (spelled T.Bang, l.known);
        moved = λ f k. let m = l.moved f (suc k) in (NotE m.0 (f k), (placed f (suc k) (expr_lexemes e), m.1, same_loose m.0 e m.2 ∙ tight, refl), ap (λ z. NotE z 0) m.2);
      }
  expr_law (NegE e at) ts (xs, s, tight, eq) kn =
      let l = expr_law e xs s (subst Known eq kn).1 in
      record {
        known = (spelled T.Minus, l.known);
        moved = λ f k. let m = l.moved f (suc k) in (NegE m.0 (f k), (placed f (suc k) (expr_lexemes e), m.1, same_loose m.0 e m.2 ∙ tight, refl), ap (λ z. NegE z 0) m.2);
      }
  expr_law (BinaryE op e d at) ts (xs, ys, s, u, lo, hi, eq) kn =
      let kn2 = subst Known eq kn in
      let l = expr_law e xs s (front xs (token (sign_of op) at ∷ ys) kn2) in
      let r = expr_law d ys u (back xs (token (sign_of op) at ∷ ys) kn2).1 in
      record {
        known = together (expr_lexemes e) (Fixed (sign_of op) ∷ expr_lexemes d) l.known (spelled (sign_of op), r.known);
        moved = λ f k.
            let j = after k (expr_lexemes e) in
            let m = l.moved f k in
            let n = r.moved f (suc j) in (
              BinaryE op m.0 n.0 (f j),
              (
                placed f k (expr_lexemes e),
                placed f (suc j) (expr_lexemes d),
                m.1,
                n.1,
                subst (λ z. z ≤ level op) (sym (same_loose m.0 e m.2)) lo,
                subst (λ z. z < level op) (sym (same_loose n.0 d n.2)) hi,
                expr_placed f k e (Fixed (sign_of op) ∷ expr_lexemes d),
              ),
              ap₂ (λ x y. BinaryE op x y 0) m.2 n.2,
            );
      }
  expr_law (GetE e n) ts (xs, d, s, post, eq) kn =
      let kn2 = subst Known eq kn in
      let l = expr_law e xs s (front xs (token T.Dot d ∷ name_token n ∷ []) kn2) in
      let name = (back xs (token T.Dot d ∷ name_token n ∷ []) kn2).1.0 in
      record {
        known = together (expr_lexemes e) (Fixed T.Dot ∷ name_lexeme n ∷ []) l.known (spelled T.Dot, (name, tt));
        moved = λ f k.
            let j = after k (expr_lexemes e) in
            let m = l.moved f k in
            (GetE m.0 (named n (f (suc j))), (placed f k (expr_lexemes e), f j, m.1, same_postfix m.0 e m.2 post, expr_placed f k e (Fixed T.Dot ∷ name_lexeme n ∷ [])), ap (λ z. GetE z (bare_name n)) m.2);
      }
  expr_law (CallE e n args) ts (xs, ys, d, o, c, s, post, u, eq) kn =
      let kn2 = subst Known eq kn in
      let close = Fixed T.CloseParen ∷ [] in
      let l = expr_law e xs s (front xs (token T.Dot d ∷ name_token n ∷ token T.OpenParen o ∷ ys ++ (token T.CloseParen c ∷ [])) kn2) in
      let behind = back xs (token T.Dot d ∷ name_token n ∷ token T.OpenParen o ∷ ys ++ (token T.CloseParen c ∷ [])) kn2 in
      let r = args_law args ys u (front ys (token T.CloseParen c ∷ []) behind.1.1.1) in
      record {
        known = together (expr_lexemes e) (Fixed T.Dot ∷ name_lexeme n ∷ Fixed T.OpenParen ∷ args_lexemes args ++ close) l.known
            (spelled T.Dot, (behind.1.0, (spelled T.OpenParen, together (args_lexemes args) close r.known (spelled T.CloseParen, tt))));
        moved = λ f k.
            let j = after k (expr_lexemes e) in
            let i = suc (suc (suc j)) in
            let m = l.moved f k in
            let q = r.moved f i in (
              CallE m.0 (named n (f (suc j))) q.0,
              (
                placed f k (expr_lexemes e),
                placed f i (args_lexemes args),
                f j,
                f (suc (suc j)),
                f (after i (args_lexemes args)),
                m.1,
                same_postfix m.0 e m.2 post,
                q.1,
                expr_placed f k e (Fixed T.Dot ∷ name_lexeme n ∷ Fixed T.OpenParen ∷ args_lexemes args ++ close)
                    ∙ ap (λ z. placed f k (expr_lexemes e) ++ (token T.Dot (f j) ∷ name_token (named n (f (suc j))) ∷ token T.OpenParen (f (suc (suc j))) ∷ z)) (placed_both f i (args_lexemes args) close),
              ),
              ap₂ (λ x y. CallE x (bare_name n) y) m.2 q.2,
            );
      }
  expr_law (NewE n args at) ts (ys, o, c, u, eq) kn =
      let kn2 = subst Known eq kn in
      let close = Fixed T.CloseParen ∷ [] in
      let r = args_law args ys u (front ys (token T.CloseParen c ∷ []) kn2.1.1.1) in
      record {
        known = (spelled T.New, (kn2.1.0, (spelled T.OpenParen, together (args_lexemes args) close r.known (spelled T.CloseParen, tt))));
        moved = λ f k.
            let i = suc (suc (suc k)) in
            let q = r.moved f i in (
              NewE (named n (f (suc k))) q.0 (f k),
              (
                placed f i (args_lexemes args),
                f (suc (suc k)),
                f (after i (args_lexemes args)),
                q.1,
                ap (λ z. token T.New (f k) ∷ name_token (named n (f (suc k))) ∷ token T.OpenParen (f (suc (suc k))) ∷ z) (placed_both f i (args_lexemes args) close),
              ),
              ap (λ y. NewE (bare_name n) y 0) q.2,
            );
      }

  pub args_law : (es : ExprTrees) (ts : List Token) → SpellsArgs es ts → Known ts → Law SpellsArgs args_lexemes bare_exprs es
  args_law no_exprs ts eq kn = record { known = tt; moved = λ f k. (no_exprs, refl, refl) }
  args_law (more_exprs e es) ts (xs, ys, s, u, eq) kn =
      let kn2 = subst Known eq kn in
      let l = expr_law e xs s (front xs ys kn2) in
      let r = more_law es ys u (back xs ys kn2) in
      record {
        known = together (expr_lexemes e) (more_args_lexemes es) l.known r.known;
        moved = λ f k.
            let j = after k (expr_lexemes e) in
            let m = l.moved f k in
            let q = r.moved f j in
            (more_exprs m.0 q.0, (placed f k (expr_lexemes e), placed f j (more_args_lexemes es), m.1, q.1, expr_placed f k e (more_args_lexemes es)), ap₂ more_exprs m.2 q.2);
      }

  pub more_law : (es : ExprTrees) (ts : List Token) → SpellsMoreArgs es ts → Known ts → Law SpellsMoreArgs more_args_lexemes bare_exprs es
  more_law no_exprs ts eq kn = record { known = tt; moved = λ f k. (no_exprs, refl, refl) }
  more_law (more_exprs e es) ts (xs, ys, d, s, u, eq) kn =
      let kn2 = (subst Known eq kn).1 in
      let l = expr_law e xs s (front xs ys kn2) in
      let r = more_law es ys u (back xs ys kn2) in
      record {
        known = (spelled T.Comma, together (expr_lexemes e) (more_args_lexemes es) l.known r.known);
        moved = λ f k.
            let j = after (suc k) (expr_lexemes e) in
            let m = l.moved f (suc k) in
            let q = r.moved f j in
            (more_exprs m.0 q.0, (placed f (suc k) (expr_lexemes e), placed f j (more_args_lexemes es), f k, m.1, q.1, ap (λ z. token T.Comma (f k) ∷ z) (expr_placed f (suc k) e (more_args_lexemes es))), ap₂ more_exprs m.2 q.2);
      }

pub flag_known : (t : Terminal) (fin : Bool) → AreLexemes (flag_lexemes t fin)
flag_known t true = (spelled t, tt)
flag_known t false = tt

pub flag_placed : (t : Terminal) (fin : Bool) (f : ℕ → ℕ) (k : ℕ) → IsFlag t fin (placed f k (flag_lexemes t fin))
flag_placed t true f k = (f k, refl)
flag_placed t false f k = refl

pub record TypeLaw (ty : TypeName) : Type 0 where
  pub known : IsOfKind (lexeme_kind (type_lexeme ty)) (lexeme_text (type_lexeme ty))
  pub moved : (o : ℕ) → (b : TypeName) × IsType b (plain_token_at o (type_lexeme ty)) × (bare_type b ≡ bare_type ty)

pub type_law : (ty : TypeName) (x : Token) → IsType ty x → IsOfKind x.kind x.text → TypeLaw ty
type_law Y.Int x e kn = record { known = spelled T.Int; moved = λ o. (Y.Int, refl, refl) }
type_law Y.Boolean x e kn = record { known = spelled T.Boolean; moved = λ o. (Y.Boolean, refl, refl) }
type_law (Y.Class n) x e kn = record { known = subst (λ z. IsOfKind z.kind z.text) e kn; moved = λ o. (Y.Class (named n o), refl, refl) }

pub record ResultLaw (ty : Option TypeName) : Type 0 where
  pub known : IsOfKind (lexeme_kind (result_lexeme ty)) (lexeme_text (result_lexeme ty))
  pub moved : (o : ℕ) → (b : Option TypeName) × IsResultType b (plain_token_at o (result_lexeme ty)) × (option_map bare_type b ≡ option_map bare_type ty)

pub result_law : (ty : Option TypeName) (x : Token) → IsResultType ty x → IsOfKind x.kind x.text → ResultLaw ty
result_law None x e kn = record { known = spelled T.Void; moved = λ o. (None, refl, refl) }
result_law (Some ty) x e kn = let l = type_law ty x e kn in record { known = l.known; moved = λ o. let m = l.moved o in (Some m.0, m.1, ap Some m.2) }

pub fields_law : (ns : List Name) (ts : List Token) → SpellsFields ns ts → Known ts → Law SpellsFields (all_lexemes dotted_lexemes) (map bare_name) ns
fields_law [] ts eq kn = record { known = tt; moved = λ f k. ([], refl, refl) }
fields_law (n ∷ ns) ts (rest, d, s, eq) kn =
    let kn2 = subst Known eq kn in
    let l = fields_law ns rest s kn2.1.1 in
    record {
      known = (spelled T.Dot, (kn2.1.0, l.known));
      moved = λ f k. let m = l.moved f (suc (suc k)) in
          (named n (f (suc k)) ∷ m.0, (placed f (suc (suc k)) (all_lexemes dotted_lexemes ns), f k, m.1, refl), ap (λ z. bare_name n ∷ z) m.2);
    }

pub record RootLaw (root : Option Name) : Type 0 where
  pub known : IsOfKind (lexeme_kind (root_lexeme root)) (lexeme_text (root_lexeme root))
  pub moved : (o : ℕ) → (b : Option Name) × SpellsRoot b o (plain_token_at o (root_lexeme root)) × (option_map bare_name b ≡ option_map bare_name root)

pub root_law : (root : Option Name) (at : ℕ) (x : Token) → SpellsRoot root at x → IsOfKind x.kind x.text → RootLaw root
root_law None at x e kn = record { known = spelled T.This; moved = λ o. (None, refl, refl) }
root_law (Some n) at x e kn = record { known = subst (λ z. IsOfKind z.kind z.text) e.0 kn; moved = λ o. (Some (named n o), (refl, refl), refl) }

pub lock_law : (l : LockTree) (ts : List Token) → SpellsLock l ts → Known ts → Law SpellsLock lock_lexemes bare_lock l
lock_law l ts (x, fs, r, s, eq) kn =
    let kn2 = subst Known eq kn in
    let a = root_law l.root l.at x r kn2.0 in
    let b = fields_law l.fields fs s kn2.1 in
    record {
      known = (a.known, b.known);
      moved = λ f k. let m = a.moved (f k) in let n = b.moved f (suc k) in (
        record { root = m.0; fields = n.0; at = f k },
        (plain_token_at (f k) (root_lexeme l.root), placed f (suc k) (all_lexemes dotted_lexemes l.fields), m.1, n.1, refl),
        ap₂ (λ x y. record { root = x; fields = y; at = 0 }) m.2 n.2,
      );
    }
