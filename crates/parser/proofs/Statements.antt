-- Statements are read right.
use Rattle.std.proofs.Common.{◌≡◌, ℕ, zero, suc, ◌<◌, ◌≤◌, ◌+◌, ◌&&◌, ◌||◌, Bool, true, false, List, [], ◌∷◌, ◌++◌, length, Some, None, refl, sym, ◌∙◌, ap, subst, append-nil, arith}
use Rattle.lexer.specs.declared.tokens.Token.{Token}
use Rattle.syntax.specs.declared.terminal.Terminal.{Terminal}
use Rattle.syntax.specs.declared.terminal.Terminal.TheVariants as T
use Rattle.syntax.specs.declared.tree.TypeName.TheVariants as Y
use Rattle.syntax.specs.Grammar.{Spells, SpellsStmt, SpellsStmts, SpellsLock, is_local, open_if}
use Rattle.syntax.specs.Heights.{height, stmt_height, stmt_heights}
use Rattle.syntax.specs.Tokens.{is, token, name_token}
use Rattle.syntax.specs.Trees.{LockTree, ExprTree, VarE, StmtTree, EmptyS, BlockS, LocalS, SetVarS, SetFieldS, DoS, IfS, IfElseS, WhileS, SyncS, ReturnS, PrintS, StartS, no_stmts}
use Rattle.syntax.specs.Views.{stmts_from}
use Rattle.parser.proofs.Expressions.{along_length, append_left, Completes, leaf_some, paren_some, new_some, or_else}
use Rattle.parser.proofs.Lists.{right_several}
use Rattle.parser.proofs.Parts.{Through_next, right_tok, right_done, right_if, right_beyond, x_name, is_token}
use Rattle.parser.proofs.Right.{Right, right_seq, right_weaker}
use Rattle.parser.specs.Combine.{Res, starts, several}
use Rattle.parser.specs.Expressions.{is_leaf}
use Rattle.parser.specs.Statements.{begins_local, begins_statement, block_goes_on}
use Rattle.parser.specs.Blocks.{braces, else_part, if_statement, while_statement, sync_statement, block_statement, statement_with, statement_at, block_at}
use Rattle.parser.proofs.PlainStatements.{right_lock, this_lock, this_lock_is, StmtL, Ends, false_ends, right_condition, right_plain}

-- the first tokens of statements

if_rest : List Token
if_rest = token T.OpenParen 0 ∷ name_token x_name ∷ token T.CloseParen 0 ∷ token T.Semicolon 0 ∷ []

abbrev StmtSome : Bool → Token → Type 0
StmtSome in_block x = (more : List Token) × (s : StmtTree) × StmtL in_block (x ∷ more) s

postfix_some : (in_block : Bool) (x : Token) → Completes x → StmtSome in_block x
postfix_some in_block x c =
    let end1 = token T.Dot 0 ∷ name_token x_name ∷ token T.Assign 0 ∷ name_token x_name ∷ token T.Semicolon 0 ∷ [] in
    (c.0 ++ end1, SetFieldS c.1 x_name (VarE x_name) 0, ((x ∷ c.0, name_token x_name ∷ [], 0, 0, c.2, c.4, refl, refl), λ e. refl))

block_list : (b c : ℕ) → SpellsStmt (BlockS no_stmts b) (token T.OpenBrace b ∷ token T.CloseBrace c ∷ [])
block_list b c = ([], c, refl, refl)

local_first : (in_block : Bool) (x : Token) → in_block && begins_local x ≡ true → StmtSome in_block x
local_first false x h = cc
local_first true x h =
    let end1 = name_token x_name ∷ token T.Assign 0 ∷ name_token x_name ∷ token T.Semicolon 0 ∷ [] in
    or_else (is T.Final x || is T.Int x) (is T.Boolean x) (λ h.
    or_else (is T.Final x) (is T.Int x)
    (λ e. (token T.Int 0 ∷ end1, LocalS true Y.Int x_name (VarE x_name) x.at, ((x ∷ [], name_token x_name ∷ [], token T.Int 0, 0, 0, (x.at, ap (λ z. z ∷ []) (is_token T.Final x e)), refl, refl, refl, refl), λ e. cc)))
    (λ e. (end1, LocalS false Y.Int x_name (VarE x_name) x.at, (([], name_token x_name ∷ [], x, 0, 0, refl, is_token T.Int x e, refl, refl, refl), λ e. cc))) h)
    (λ e. (end1, LocalS false Y.Boolean x_name (VarE x_name) x.at, (([], name_token x_name ∷ [], x, 0, 0, refl, is_token T.Boolean x e, refl, refl, refl), λ e. cc))) h

-- a completion whose first token is a terminal's
terminal_some : (in_block : Bool) (t : Terminal) (x : Token) → is t x ≡ true → (more : List Token) (s : ℕ → StmtTree) → ((d : ℕ) → SpellsStmt (s d) (token t d ∷ more)) → ((d : ℕ) → is_local (s d) ≡ false) → StmtSome in_block x
terminal_some in_block t x e more s spelled no_local = (more, s x.at, (subst (λ z. SpellsStmt (s x.at) (z ∷ more)) (sym (is_token t x e)) (spelled x.at), λ _. no_local x.at))

pub statement_some : (in_block : Bool) (x : Token) → begins_statement in_block x ≡ true → StmtSome in_block x
unfolding begins_statement if_rest
statement_some in_block x h =
    let a1 = is T.OpenBrace x in let a2 = a1 || is T.Semicolon x in let a3 = a2 || is T.If x in let a4 = a3 || is T.While x in
    let a5 = a4 || is T.Synchronized x in let a6 = a5 || is T.Return x in let a7 = a6 || is T.System x in let a8 = a7 || is T.New x in
    let a9 = a8 || is T.OpenParen x in let a10 = a9 || is_leaf x in
    or_else a10 (in_block && begins_local x) (λ h.
    or_else a9 (is_leaf x) (λ h.
    or_else a8 (is T.OpenParen x) (λ h.
    or_else a7 (is T.New x) (λ h.
    or_else a6 (is T.System x) (λ h.
    or_else a5 (is T.Return x) (λ h.
    or_else a4 (is T.Synchronized x) (λ h.
    or_else a3 (is T.While x) (λ h.
    or_else a2 (is T.If x) (λ h.
    or_else a1 (is T.Semicolon x)
    (λ e. terminal_some in_block T.OpenBrace x e (token T.CloseBrace 0 ∷ []) (λ d. BlockS no_stmts d) (λ d. block_list d 0) (λ d. refl))
    (λ e. terminal_some in_block T.Semicolon x e [] (λ d. EmptyS d) (λ d. refl) (λ d. refl)) h)
    (λ e. terminal_some in_block T.If x e if_rest (λ d. IfS (VarE x_name) (EmptyS 0) d) (λ d. (name_token x_name ∷ [], token T.Semicolon 0 ∷ [], 0, 0, refl, refl, refl, refl)) (λ d. refl)) h)
    (λ e. terminal_some in_block T.While x e if_rest (λ d. WhileS (VarE x_name) (EmptyS 0) d) (λ d. (name_token x_name ∷ [], token T.Semicolon 0 ∷ [], 0, 0, refl, refl, refl, refl)) (λ d. refl)) h)
    (λ e. terminal_some in_block T.Synchronized x e (token T.OpenParen 0 ∷ token T.This 0 ∷ token T.CloseParen 0 ∷ token T.OpenBrace 0 ∷ token T.CloseBrace 0 ∷ []) (λ d. SyncS this_lock no_stmts d)
    (λ d. (token T.This 0 ∷ [], [], 0, 0, 0, 0, this_lock_is, refl, refl)) (λ d. refl)) h)
    (λ e. terminal_some in_block T.Return x e (token T.Semicolon 0 ∷ []) (λ d. ReturnS None d) (λ d. (0, refl)) (λ d. refl)) h)
    (λ e. terminal_some in_block T.System x e
    (token T.Dot 0 ∷ token T.Out 0 ∷ token T.Dot 0 ∷ token T.Println 0 ∷ token T.OpenParen 0 ∷ name_token x_name ∷ token T.CloseParen 0 ∷ token T.Semicolon 0 ∷ [])
    (λ d. PrintS (VarE x_name) d) (λ d. (name_token x_name ∷ [], 0, 0, 0, 0, 0, 0, 0, refl, refl)) (λ d. refl)) h)
    (λ e. postfix_some in_block x (new_some x e)) h)
    (λ e. postfix_some in_block x (paren_some x e)) h)
    (λ e. postfix_some in_block x (leaf_some x e)) h)
    (λ e. local_first in_block x e) h

-- statements are not empty
pub stmt_long : (s : StmtTree) (zs : List Token) → SpellsStmt s zs → 0 < length zs
stmt_long (EmptyS at) zs p = along_length zs _ p (omega arith)
stmt_long (BlockS ss at) zs p = along_length zs _ p.3 (omega arith)
stmt_long (LocalS fin ty n e at) zs p = along_length zs _ p.9 (append_left p.0 _ _)
stmt_long (SetVarS n e at) zs p = along_length zs _ p.3 (omega arith)
stmt_long (SetFieldS e n f at) zs p = along_length zs _ p.7 (append_left p.0 _ _)
stmt_long (DoS e at) zs p = along_length zs _ p.5 (append_left p.0 _ _)
stmt_long (IfS e s at) zs p = along_length zs _ p.7 (omega arith)
stmt_long (IfElseS e s t at) zs p = along_length zs _ p.12 (omega arith)
stmt_long (WhileS e s at) zs p = along_length zs _ p.7 (omega arith)
stmt_long (SyncS l ss at) zs p = along_length zs _ p.8 (omega arith)
stmt_long (ReturnS None at) zs p = along_length zs _ p.1 (omega arith)
stmt_long (ReturnS (Some e) at) zs p = along_length zs _ p.3 (omega arith)
stmt_long (PrintS e at) zs p = along_length zs _ p.9 (omega arith)
stmt_long (StartS e at) zs p = along_length zs _ p.10 (omega arith)

-- blocks

abbrev pub BlockL : List Token → (ℕ × List StmtTree × ℕ) → Type 0
BlockL zs b = (xs : List Token) × SpellsStmts (stmts_from b.1) xs × (zs ≡ token T.OpenBrace b.0 ∷ xs ++ (token T.CloseBrace b.2 ∷ []))

abbrev pub Low : ℕ → List StmtTree → Type 0
Low h ss = stmt_heights (stmts_from ss) < h

pub more_low : (h : ℕ) (so : List StmtTree) (s : StmtTree) → stmt_height s < h → Low h so → Low h (so ++ (s ∷ []))
more_low h [] s a b = omega (arith, a, b)
more_low h (x ∷ so) s a b = let k : stmt_heights (stmts_from so) < h = omega (arith, b) in let i = more_low h so s a k in omega (arith, b, i)

stmt_l_long : (zs : List Token) (s : StmtTree) → StmtL true zs s → 0 < length zs
stmt_l_long zs s p = stmt_long s zs p.0

abbrev pub Item : ℕ → (List Token → Res StmtTree) → Type 0
Item h item = (ts : List Token) → Right item (StmtL true) (λ s r. stmt_height s < h) ts

module _ (h : ℕ) (some : 0 < h) (item : List Token → Res StmtTree) (law : Item h item) where
  items_law : (ts : List Token) → Right (several block_goes_on item) (λ zs ss. SpellsStmts (stmts_from ss) zs) (λ ss r. Low h ss) ts
  items_law ts =
      right_weaker (λ zs b m. m) (λ ss r q. q.0)
      (right_several item (StmtL true) (λ s r. stmt_height s < h) (token T.Semicolon 0 ∷ [], EmptyS 0, (refl, λ e. refl)) stmt_l_long (Low h) (λ so s r q l. more_low h so s q l)
      block_goes_on (λ x xs g. law (x ∷ xs)) (λ ss zs. SpellsStmts (stmts_from ss) zs) refl (λ s rest xs ys p q. (xs, ys, p.0, q, refl)) some ts)

  pub right_braces : (ts : List Token) → Right (braces item) BlockL (λ b r. Low h b.1) ts
  unfolding braces
  right_braces ts =
      right_tok T.OpenBrace (λ b. (token T.CloseBrace 0 ∷ [], (b, [], 0), ([], refl, refl))) (λ b r.
      right_seq (items_law r) (λ ss. (token T.CloseBrace 0 ∷ [], (b, ss, 0), λ xs p. (xs, p, refl))) (λ ss r q.
      right_tok T.CloseBrace (λ c. ([], (b, ss, c), λ xs p. (xs, p, refl))) (λ c r. right_done (λ xs p. (xs, p, refl)) q)))

not_open : (s : StmtTree) (r : List Token) → (open_if s ≡ true → starts (is T.Else) r ≡ false) → starts (is T.Else) r ≡ true → open_if s ≡ false
not_open s r f e = elim (open_if s) as (λ b. open_if s ≡ b → open_if s ≡ false) [ true ↦ λ i. let k = f i in cc | false ↦ λ i. i ] refl

module _ (h : ℕ) (some : 0 < h) (inner : Bool → List Token → Res StmtTree) (block : List Token → Res (ℕ × List StmtTree × ℕ))
    (law : (in_block : Bool) (ts : List Token) → Right (inner in_block) (StmtL in_block) (λ s r. (stmt_height s < h) × (open_if s ≡ true → starts (is T.Else) r ≡ false)) ts)
    (blocks : (ts : List Token) → Right block BlockL (λ b r. 1 + stmt_heights (stmts_from b.1) < h) ts) where
  -- what stands behind the condition and the first branch
  abbrev Branched : ℕ → ExprTree → StmtTree → List Token → StmtTree → Type 0
  Branched d e s ys b = (o c : ℕ) (xs zs : List Token) → Spells e xs → SpellsStmt s zs → is_local s ≡ false
      → SpellsStmt b (token T.If d ∷ token T.OpenParen o ∷ xs ++ (token T.CloseParen c ∷ zs ++ ys)) × (is_local b ≡ false)

  if_is : (d : ℕ) (e : ExprTree) (s : StmtTree) → Branched d e s [] (IfS e s d)
  if_is d e s o c xs zs p q l = ((xs, zs ++ [], o, c, p, subst (λ z. SpellsStmt s z) (sym (append-nil zs)) q, l, refl), refl)

  else_is : (d k : ℕ) (e : ExprTree) (s t : StmtTree) → open_if s ≡ false → (ws : List Token) → SpellsStmt t ws → is_local t ≡ false
      → Branched d e s (token T.Else k ∷ ws ++ []) (IfElseS e s t d)
  else_is d k e s t no_open ws q m o c xs zs p r l =
      ((xs, zs, ws ++ [], o, c, k, p, r, subst (λ z. SpellsStmt t z) (sym (append-nil ws)) q, l, m, no_open, refl), refl)

  right_else_part : (d : ℕ) (e : ExprTree) (s : StmtTree) → height e < h → stmt_height s < h → (ts : List Token)
      → (open_if s ≡ true → starts (is T.Else) ts ≡ false) → Right (else_part h inner block d e s) (Branched d e s) (Ends h) ts
  unfolding else_part
  right_else_part d e s low1 low2 ts dangling =
      right_if (λ i. let no_open = not_open s ts dangling i in
      right_tok T.Else (λ k. (token T.Semicolon 0 ∷ [], IfElseS e s (EmptyS 0) d, else_is d k e s (EmptyS 0) no_open (token T.Semicolon 0 ∷ []) refl refl)) (λ k r.
      right_seq (law false r) (λ t. ([], IfElseS e s t d, λ ws p. else_is d k e s t no_open ws p.0 (p.1 refl))) (λ t r q.
      right_done (λ ws p. else_is d k e s t no_open ws p.0 (p.1 refl)) (let a = q.0 in omega (arith, low1, low2, a), q.1))))
      (λ i. right_done (if_is d e s) (omega (arith, low1, low2), λ _. i))

  branch_list : (d o c : ℕ) (xs zs ys : List Token) (t : Terminal)
      → (token t d ∷ token T.OpenParen o ∷ xs ++ (token T.CloseParen c ∷ zs ++ ys)) ≡ (token t d ∷ token T.OpenParen o ∷ xs ++ (token T.CloseParen c ∷ (zs ++ ys)))
  branch_list d o c xs zs ys t = refl

  right_if_statement : (ts : List Token) → Right (if_statement h inner block) (StmtL false) (Ends h) ts
  unfolding if_statement if_rest
  right_if_statement ts =
      right_tok T.If (λ d. (if_rest, IfS (VarE x_name) (EmptyS 0) d, ((name_token x_name ∷ [], token T.Semicolon 0 ∷ [], 0, 0, refl, refl, refl, refl), λ e. refl))) (λ d r.
      right_condition h some (λ e. (token T.Semicolon 0 ∷ [], IfS e (EmptyS 0) d, λ o c xs p. ((xs, token T.Semicolon 0 ∷ [], o, c, p, refl, refl, refl), λ e. refl))) (λ e r q.
      right_seq (law false r) (λ s. ([], IfS e s d, λ zs p o c xs q. let k = if_is d e s o c xs zs q p.0 (p.1 refl) in (k.0, λ e. k.1))) (λ s r k.
      right_weaker (λ ys b m zs p o c xs q. let k = m o c xs zs q p.0 (p.1 refl) in (k.0, λ e. k.1)) (λ s r k. k)
      (right_else_part d e s q k.0 r k.1))))

  right_while : (ts : List Token) → Right (while_statement h inner block) (StmtL false) (Ends h) ts
  unfolding while_statement if_rest
  right_while ts =
      right_tok T.While (λ d. (if_rest, WhileS (VarE x_name) (EmptyS 0) d, ((name_token x_name ∷ [], token T.Semicolon 0 ∷ [], 0, 0, refl, refl, refl, refl), λ e. refl))) (λ d r.
      right_condition h some (λ e. (token T.Semicolon 0 ∷ [], WhileS e (EmptyS 0) d, λ o c xs p. ((xs, token T.Semicolon 0 ∷ [], o, c, p, refl, refl, refl), λ e. refl))) (λ e r q.
      right_seq (law false r) (λ s. ([], WhileS e s d, λ zs p o c xs q. ((xs, zs ++ [], o, c, q, subst (λ z. SpellsStmt s z) (sym (append-nil zs)) p.0, p.1 refl, refl), λ e. refl))) (λ s r k.
      right_done (λ zs p o c xs q. ((xs, zs ++ [], o, c, q, subst (λ z. SpellsStmt s z) (sym (append-nil zs)) p.0, p.1 refl, refl), λ e. refl)) (let a = k.0 in omega (arith, q, a), k.1))))

  sync_is : (d o c : ℕ) (l : LockTree) (b : ℕ × List StmtTree × ℕ) (xs zs : List Token) → SpellsLock l xs → BlockL zs b
      → StmtL false (token T.Synchronized d ∷ token T.OpenParen o ∷ xs ++ (token T.CloseParen c ∷ zs ++ [])) (SyncS l (stmts_from b.1) d)
  sync_is d o c l b xs zs p q =
      ((xs, q.0, o, c, b.0, b.2, p, q.1, ap (λ z. token T.Synchronized d ∷ token T.OpenParen o ∷ xs ++ (token T.CloseParen c ∷ z)) (append-nil zs ∙ q.2)), λ e. refl)

  right_sync : (ts : List Token) → Right (sync_statement h inner block) (StmtL false) (Ends h) ts
  unfolding sync_statement
  right_sync ts =
      right_tok T.Synchronized (λ d. (
        token T.OpenParen 0 ∷ token T.This 0 ∷ token T.CloseParen 0 ∷ token T.OpenBrace 0 ∷ token T.CloseBrace 0 ∷ [],
        SyncS this_lock no_stmts d,
        ((token T.This 0 ∷ [], [], 0, 0, 0, 0, this_lock_is, refl, refl), λ e. refl),
      )) (λ d r.
      right_tok T.OpenParen (λ o. (
        token T.This 0 ∷ token T.CloseParen 0 ∷ token T.OpenBrace 0 ∷ token T.CloseBrace 0 ∷ [],
        SyncS this_lock no_stmts d,
        ((token T.This 0 ∷ [], [], o, 0, 0, 0, this_lock_is, refl, refl), λ e. refl),
      )) (λ o r.
      right_seq (right_lock r) (λ l. (token T.CloseParen 0 ∷ token T.OpenBrace 0 ∷ token T.CloseBrace 0 ∷ [], SyncS l no_stmts d, λ xs p. ((xs, [], o, 0, 0, 0, p, refl, refl), λ e. refl))) (λ l r _.
      right_tok T.CloseParen (λ c. (token T.OpenBrace 0 ∷ token T.CloseBrace 0 ∷ [], SyncS l no_stmts d, λ xs p. ((xs, [], o, c, 0, 0, p, refl, refl), λ e. refl))) (λ c r.
      right_seq (blocks r) (λ b. ([], SyncS l (stmts_from b.1) d, λ zs q xs p. sync_is d o c l b xs zs p q)) (λ b r q.
      right_done (λ zs q xs p. sync_is d o c l b xs zs p q) (omega (arith, q), false_ends (SyncS l (stmts_from b.1) d) r refl))))))

  right_block_statement : (ts : List Token) → Right (block_statement h inner block) (StmtL false) (Ends h) ts
  unfolding block_statement
  right_block_statement ts =
      right_seq (right_braces h some (inner true) (λ ts. right_weaker (λ zs s l. l) (λ s r q. q.0) (law true ts)) ts)
      (λ b. ([], BlockS (stmts_from b.1) b.0, λ xs p. ((p.0, b.2, p.1, append-nil xs ∙ p.2), λ e. refl))) (λ b r q.
      right_done (λ xs p. ((p.0, b.2, p.1, append-nil xs ∙ p.2), λ e. refl)) (omega (arith, q), false_ends (BlockS (stmts_from b.1) b.0) r refl))

  from_branch : (in_block : Bool) (zs : List Token) (s : StmtTree) → StmtL false zs s → StmtL in_block zs s
  from_branch in_block zs s p = (p.0, λ e. p.1 refl)

  pub right_statement_with : (in_block : Bool) (ts : List Token) → Right (statement_with h inner block in_block) (StmtL in_block) (Ends h) ts
  unfolding statement_with
  right_statement_with in_block ts =
      right_if (λ e. right_weaker (from_branch in_block) (λ s r k. k) (right_block_statement ts)) (λ e.
      right_if (λ e. right_weaker (from_branch in_block) (λ s r k. k) (right_if_statement ts)) (λ e.
      right_if (λ e. right_weaker (from_branch in_block) (λ s r k. k) (right_while ts)) (λ e.
      right_if (λ e. right_weaker (from_branch in_block) (λ s r k. k) (right_sync ts)) (λ e.
      right_plain h some in_block ts))))

statement_through : (in_block : Bool) (ts : List Token) → starts (begins_statement in_block) ts ≡ true → Through_next (StmtL in_block) ts
statement_through in_block [] e = cc
statement_through in_block (x ∷ xs) e = let c = statement_some in_block x e in (x ∷ c.0, c.1, c.2, refl)

block_through : (ts : List Token) → starts (is T.OpenBrace) ts ≡ true → Through_next BlockL ts
block_through [] e = cc
block_through (x ∷ xs) e = (x ∷ token T.CloseBrace 0 ∷ [], (x.at, [], 0), ([], refl, ap (λ z. z ∷ token T.CloseBrace 0 ∷ []) (is_token T.OpenBrace x e)), refl)

abbrev pub BlockLow : ℕ → (ℕ × List StmtTree × ℕ) → List Token → Type 0
BlockLow h b r = 1 + stmt_heights (stmts_from b.1) ≤ h

mutual
  unfolding statement_at block_at

  pub right_statement : (h : ℕ) (in_block : Bool) (ts : List Token) → Right (statement_at h in_block) (StmtL in_block) (Ends h) ts
  right_statement zero in_block ts = right_beyond (statement_through in_block ts) (token T.Semicolon 0 ∷ [], EmptyS 0, (refl, λ e. refl))
  right_statement (suc h) in_block ts =
      right_statement_with (suc h) (omega arith) (statement_at h) (block_at h)
      (λ b ts. right_weaker (λ zs s l. l) (λ s r k. let a = k.0 in (omega (arith, a), k.1)) (right_statement h b ts))
      (λ ts. right_weaker (λ zs s l. l) (λ s r k. omega (arith, k)) (right_block h ts)) in_block ts

  pub right_block : (h : ℕ) (ts : List Token) → Right (block_at h) BlockL (BlockLow h) ts
  right_block zero ts = right_beyond (block_through ts) (token T.OpenBrace 0 ∷ token T.CloseBrace 0 ∷ [], (0, [], 0), ([], refl, refl))
  right_block (suc h) ts =
      right_weaker (λ zs s l. l) (λ b r q. omega (arith, q))
      (right_braces (suc h) (omega arith) (statement_at h true) (λ ts. right_weaker (λ zs s l. l) (λ s r k. let a = k.0 in omega (arith, a)) (right_statement h true ts)) ts)
