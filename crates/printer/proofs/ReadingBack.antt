-- Offsets don't matter for heights, and the printed text reads back.
use Rattle.std.proofs.Common.{◌≡◌, ℕ, zero, suc, ◌+◌, ◌≤◌, max, false, List, [], ◌∷◌, map, Some, None, refl, ap, ap₂, sym, ◌∙◌, subst}
use Rattle.lexer.specs.declared.tokens.Token.{Token}
use Rattle.lexer.specs.Tokens.{Tokens}
use Rattle.lexer.proofs.Written.{kinds_from}
use Rattle.printer.specs.declared.page.NextPlace.TheVariants as P
use Rattle.syntax.specs.Grammar.{Wide, Grammar}
use Rattle.syntax.specs.Heights.{height, heights, stmt_height, stmt_heights, body_height, highest_member, highest_body}
use Rattle.printer.specs.Layout.{PlainToken, plain_token_at}
use Rattle.syntax.specs.Limits.{most_height}
use Rattle.printer.specs.Printing.{canonical, program_lexemes}
use Rattle.printer.specs.Reprinted.{AreTokensOf, ReadsBack}
use Rattle.syntax.specs.Trees.{ExprTree, ExprTrees, NumberE, LeastE, TruthE, NullE, ThisE, VarE, ParenE, NotE, NegE, BinaryE, GetE, CallE, NewE, no_exprs, more_exprs, StmtTree, StmtTrees, EmptyS, BlockS, LocalS, SetVarS, SetFieldS, DoS, IfS, IfElseS, WhileS, SyncS, ReturnS, PrintS, StartS, no_stmts, more_stmts, MemberTree, FieldM, CtorM, MethodM, ProgramTree}
use Rattle.printer.specs.Unplaced.{bare_expr, bare_exprs, bare_stmt, bare_stmts, bare_member, without_offsets}
use Rattle.printer.proofs.Cutting.{cut}
use Rattle.printer.proofs.Placing.{placed, known_all}
use Rattle.printer.proofs.Moving.{program_law}
use Rattle.printer.proofs.Parting.{program_parted}

up : {a b : ℕ} → a ≡ b → 1 + a ≡ 1 + b
up e = ap (λ z. 1 + z) e

up2 : {a b c d : ℕ} → a ≡ b → c ≡ d → 1 + max a c ≡ 1 + max b d
up2 e h = ap₂ (λ y z. 1 + max y z) e h

mutual
  expr_height : (e : ExprTree) → height (bare_expr e) ≡ height e
  expr_height (NumberE n at) = refl
  expr_height (LeastE at) = refl
  expr_height (TruthE b at) = refl
  expr_height (NullE at) = refl
  expr_height (ThisE at) = refl
  expr_height (VarE n) = refl
  expr_height (ParenE e at) = up (expr_height e)
  expr_height (NotE e at) = up (expr_height e)
  expr_height (NegE e at) = up (expr_height e)
  expr_height (BinaryE op e d at) = up2 (expr_height e) (expr_height d)
  expr_height (GetE e n) = up (expr_height e)
  expr_height (CallE e n args) = up2 (expr_height e) (args_height args)
  expr_height (NewE n args at) = up (args_height args)

  args_height : (es : ExprTrees) → heights (bare_exprs es) ≡ heights es
  args_height no_exprs = refl
  args_height (more_exprs e es) = ap₂ max (expr_height e) (args_height es)

mutual
  tall : (s : StmtTree) → stmt_height (bare_stmt s) ≡ stmt_height s
  tall (EmptyS at) = refl
  tall (BlockS ss at) = up (talls ss)
  tall (LocalS fin ty n e at) = up (expr_height e)
  tall (SetVarS n e at) = up (expr_height e)
  tall (SetFieldS e n d at) = up2 (expr_height e) (expr_height d)
  tall (DoS e at) = up (expr_height e)
  tall (IfS e s at) = up2 (expr_height e) (tall s)
  tall (IfElseS e s t at) = up2 (expr_height e) (ap₂ max (tall s) (tall t))
  tall (WhileS e s at) = up2 (expr_height e) (tall s)
  tall (SyncS l ss at) = up (up (talls ss))
  tall (ReturnS None at) = refl
  tall (ReturnS (Some e) at) = up (expr_height e)
  tall (PrintS e at) = up (expr_height e)
  tall (StartS e at) = up (expr_height e)

  talls : (ss : StmtTrees) → stmt_heights (bare_stmts ss) ≡ stmt_heights ss
  talls no_stmts = refl
  talls (more_stmts s ss) = ap₂ max (tall s) (talls ss)

member_height : (m : MemberTree) → body_height (bare_member m) ≡ body_height m
member_height (FieldM f) = refl
member_height (CtorM n params sets) = refl
member_height (MethodM m) = up (talls m.body)

members_height : (ms : List MemberTree) → highest_member (map bare_member ms) ≡ highest_member ms
members_height [] = refl
members_height (m ∷ ms) = ap₂ max (member_height m) (members_height ms)

program_height : (t : ProgramTree) → highest_body (without_offsets t) ≡ highest_body t
program_height [] = refl
program_height (c ∷ cs) = ap₂ max (members_height c.members) (program_height cs)

-- the offset of the token with a number
offset_of : List Token → ℕ → ℕ
offset_of [] k = 0
offset_of (t ∷ ts) zero = t.at
offset_of (t ∷ ts) (suc k) = offset_of ts k

shifted : (t : Token) (ts : List Token) (k : ℕ) (xs : List PlainToken) → placed (offset_of (t ∷ ts)) (suc k) xs ≡ placed (offset_of ts) k xs
unfolding offset_of
shifted t ts k [] = refl
shifted t ts k (x ∷ xs) = ap (λ z. plain_token_at (offset_of ts k) x ∷ z) (shifted t ts (suc k) xs)

placed_are : (xs : List PlainToken) (ts : List Token) → AreTokensOf xs ts → placed (offset_of ts) 0 xs ≡ ts
unfolding offset_of
placed_are [] [] h = refl
placed_are [] (t ∷ ts) h = absurd h
placed_are (x ∷ xs) [] h = absurd h
placed_are (x ∷ xs) (t ∷ ts) h = ap₂ (λ y z. y ∷ z) (sym h.0) (shifted t ts 0 xs ∙ placed_are xs ts h.1)

-- the canonical text of a tree that some text has is read as that tree but for offsets
pub reads_back : (tree : ProgramTree) (source : List ℕ) (ts : List Token) → Tokens source ts → Grammar ts tree → ReadsBack (canonical tree) tree
reads_back tree source ts its g =
    let l = program_law tree ts g.0 (known_all ts (kinds_from its)) in
    let c = cut (program_lexemes tree) P.LineStart 0 0 false [] refl l.known (program_parted tree) in
    let m = l.moved (offset_of c.0) 0 in
    let same : highest_body m.0 ≡ highest_body tree = sym (program_height m.0) ∙ ap highest_body m.2 ∙ program_height tree in
    record {
      tokens = c.0;
      cut = c.1;
      again = m.0;
      related = (subst (λ z. Wide z m.0) (placed_are (program_lexemes tree) c.0 c.2) m.1, subst (λ n. n ≤ most_height) (sym same) g.1);
      same = m.2;
    }
