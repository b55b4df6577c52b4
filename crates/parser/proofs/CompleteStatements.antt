-- What is spelled is read: statements.
use Rattle.std.proofs.Common.{◌≡◌, ℕ, zero, suc, ◌<◌, ◌≤◌, ◌+◌, ◌-◌, ◌&&◌, ◌||◌, Bool, true, false, List, [], ◌∷◌, ◌++◌, Option, Some, None, Ok, refl, sym, ◌∙◌, ap, append_assoc, append-nil, arith, is_some}
use Rattle.std.proofs.lemmas.Bool.{lt-ltb, cond-false, cond-true}
use Rattle.lexer.specs.declared.tokens.Token.{Token}
use Rattle.lexer.specs.Limits.{greatest_literal}
use Rattle.syntax.specs.declared.terminal.Terminal.{Terminal}
use Rattle.syntax.specs.declared.terminal.Terminal.TheVariants as T
use Rattle.syntax.specs.declared.tree.Name.{Name}
use Rattle.syntax.specs.declared.tree.TypeName.{TypeName}
use Rattle.syntax.specs.declared.tree.TypeName.TheVariants as Y
use Rattle.syntax.specs.Grammar.{SpellsStmt, SpellsStmts, IsType, IsFlag, is_postfix, may_be_statement, is_local, open_if}
use Rattle.syntax.specs.Heights.{stmt_height, stmt_heights}
use Rattle.syntax.specs.Tokens.{is, token, name_token, number_token}
use Rattle.syntax.specs.Trees.{LockTree, ExprTree, NumberE, LeastE, TruthE, NullE, ThisE, VarE, ParenE, NotE, NegE, BinaryE, GetE, CallE, NewE, StmtTree, StmtTrees, EmptyS, BlockS, LocalS, SetVarS, SetFieldS, DoS, IfS, IfElseS, WhileS, SyncS, ReturnS, PrintS, StartS, no_stmts, more_stmts}
use Rattle.syntax.specs.Views.{stmts_from}
use Rattle.parser.proofs.FirstTokens.{starts_append, Same, same, deep, same_along, same_weaker, same_then, same_bind, at_list, postfix_first}
use Rattle.parser.proofs.Lists.{shift}
use Rattle.parser.proofs.StatementLoops.{statement_more, statement_done, statement_zero, statement_positive, block_zero, block_positive}
use Rattle.parser.specs.Combine.{◌>>=◌, starts, when, take_one, loop, item_step}
use Rattle.parser.specs.Statements.{begins_statement, block_goes_on, plain_statement}
use Rattle.parser.specs.Blocks.{braces, else_part, if_statement, while_statement, sync_statement, block_statement, statement_with, statement_at, block_at}
use Rattle.parser.proofs.CompletePlain.{lock_read, condition_read, PlainRead, read_empty, read_return, read_print, read_start, read_local, read_set_var, read_set_field, read_do}

-- the first tokens of statements

abbrev pub is_plain : StmtTree → Bool
is_plain (EmptyS at) = true
is_plain (BlockS ss at) = false
is_plain (LocalS fin ty n e at) = true
is_plain (SetVarS n e at) = true
is_plain (SetFieldS e n f at) = true
is_plain (DoS e at) = true
is_plain (IfS e s at) = false
is_plain (IfElseS e s t at) = false
is_plain (WhileS e s at) = false
is_plain (SyncS l ss at) = false
is_plain (ReturnS e at) = true
is_plain (PrintS e at) = true
is_plain (StartS e at) = true

is_call_postfix : (e : ExprTree) → may_be_statement e ≡ true → is_postfix e ≡ true
is_call_postfix (NumberE n at) c = cc
is_call_postfix (LeastE at) c = cc
is_call_postfix (TruthE b at) c = cc
is_call_postfix (NullE at) c = cc
is_call_postfix (ThisE at) c = cc
is_call_postfix (VarE n) c = cc
is_call_postfix (ParenE e at) c = cc
is_call_postfix (NotE e at) c = cc
is_call_postfix (NegE e at) c = cc
is_call_postfix (BinaryE o e f at) c = cc
is_call_postfix (GetE e n) c = cc
is_call_postfix (CallE e n args) c = refl
is_call_postfix (NewE n args at) c = refl

-- a test that answers alike at each token that may begin a plain statement
module _ (test : Token → Bool) (v allowed : Bool)
    (number : (n : ℕ) (text : List ℕ) (at : ℕ) → n < greatest_literal → test (number_token n text at) ≡ v)
    (name : (n : Name) → test (name_token n) ≡ v)
    (yes : (d : ℕ) → test (token T.True d) ≡ v) (no : (d : ℕ) → test (token T.False d) ≡ v)
    (null : (d : ℕ) → test (token T.Null d) ≡ v) (this : (d : ℕ) → test (token T.This d) ≡ v)
    (paren : (d : ℕ) → test (token T.OpenParen d) ≡ v) (new : (d : ℕ) → test (token T.New d) ≡ v)
    (semicolon : (d : ℕ) → test (token T.Semicolon d) ≡ v) (return : (d : ℕ) → test (token T.Return d) ≡ v) (system : (d : ℕ) → test (token T.System d) ≡ v)
    (final : (d : ℕ) → allowed ≡ true → test (token T.Final d) ≡ v) (int : (d : ℕ) → allowed ≡ true → test (token T.Int d) ≡ v) (boolean : (d : ℕ) → allowed ≡ true → test (token T.Boolean d) ≡ v) where
  local_first : (fin : Bool) (ty : TypeName) (fs : List Token) (x : Token) (ys : List Token) → allowed ≡ true → IsFlag T.Final fin fs → IsType ty x → starts test (fs ++ (x ∷ ys)) ≡ v
  local_first true ty fs x ys a p i = ap (λ z. starts test (z ++ (x ∷ ys))) p.1 ∙ final p.0 a
  local_first false Y.Int fs x ys a p i = ap (λ z. starts test (z ++ (x ∷ ys))) p ∙ ap test i ∙ int x.at a
  local_first false Y.Boolean fs x ys a p i = ap (λ z. starts test (z ++ (x ∷ ys))) p ∙ ap test i ∙ boolean x.at a
  local_first false (Y.Class n) fs x ys a p i = ap (λ z. starts test (z ++ (x ∷ ys))) p ∙ ap test i ∙ name n

  pub plain_first : (s : StmtTree) (zs f : List Token) → SpellsStmt s zs → is_plain s ≡ true → (is_local s ≡ true → allowed ≡ true) → starts test (zs ++ f) ≡ v
  plain_first (EmptyS at) zs f s p l = starts_append test zs _ f v s (semicolon at)
  plain_first (BlockS ss at) zs f s p l = cc
  plain_first (LocalS fin ty n e at) zs f s p l =
      let t = name_token n ∷ token T.Assign s.3 ∷ s.1 ++ (token T.Semicolon s.4 ∷ []) in
      ap (λ z. starts test (z ++ f)) s.9 ∙ ap (starts test) (append_assoc s.0 (s.2 ∷ t) f) ∙ local_first fin ty s.0 s.2 (t ++ f) (l refl) s.5 s.6
  plain_first (SetVarS n e at) zs f s p l = starts_append test zs _ f v s.3 (name n)
  plain_first (SetFieldS e n g at) zs f s p l =
      let t = token T.Dot s.2 ∷ name_token n ∷ token T.Assign at ∷ s.1 ++ (token T.Semicolon s.3 ∷ []) in
      ap (λ z. starts test (z ++ f)) s.7 ∙ ap (starts test) (append_assoc s.0 t f) ∙ postfix_first test v number name yes no null this paren new e s.0 (t ++ f) s.4 s.5
  plain_first (DoS e at) zs f s p l =
      let t = token T.Semicolon s.1 ∷ [] in
      ap (λ z. starts test (z ++ f)) s.5 ∙ ap (starts test) (append_assoc s.0 t f) ∙ postfix_first test v number name yes no null this paren new e s.0 (t ++ f) s.2 (is_call_postfix e s.3)
  plain_first (IfS e s at) zs f q p l = cc
  plain_first (IfElseS e s t at) zs f q p l = cc
  plain_first (WhileS e s at) zs f q p l = cc
  plain_first (SyncS k ss at) zs f s p l = cc
  plain_first (ReturnS None at) zs f s p l = starts_append test zs _ f v s.1 (return at)
  plain_first (ReturnS (Some e) at) zs f s p l = starts_append test zs _ f v s.3 (return at)
  plain_first (PrintS e at) zs f s p l = starts_append test zs _ f v s.9 (system at)
  plain_first (StartS e at) zs f s p l = starts_append test zs _ f v s.10 (new at)

  module _ (brace : (d : ℕ) → test (token T.OpenBrace d) ≡ v) (iff : (d : ℕ) → test (token T.If d) ≡ v) (while : (d : ℕ) → test (token T.While d) ≡ v)
      (sync : (d : ℕ) → test (token T.Synchronized d) ≡ v) where
    pub stmt_first : (s : StmtTree) (zs f : List Token) → SpellsStmt s zs → (is_local s ≡ true → allowed ≡ true) → starts test (zs ++ f) ≡ v
    stmt_first (EmptyS at) zs f s l = plain_first (EmptyS at) zs f s refl l
    stmt_first (BlockS ss at) zs f s l = starts_append test zs _ f v s.3 (brace at)
    stmt_first (LocalS fin ty n e at) zs f s l = plain_first (LocalS fin ty n e at) zs f s refl l
    stmt_first (SetVarS n e at) zs f s l = plain_first (SetVarS n e at) zs f s refl l
    stmt_first (SetFieldS e n g at) zs f s l = plain_first (SetFieldS e n g at) zs f s refl l
    stmt_first (DoS e at) zs f s l = plain_first (DoS e at) zs f s refl l
    stmt_first (IfS e s at) zs f q l = starts_append test zs _ f v q.7 (iff at)
    stmt_first (IfElseS e s t at) zs f q l = starts_append test zs _ f v q.12 (iff at)
    stmt_first (WhileS e s at) zs f q l = starts_append test zs _ f v q.7 (while at)
    stmt_first (SyncS k ss at) zs f s l = starts_append test zs _ f v s.8 (sync at)
    stmt_first (ReturnS e at) zs f s l = plain_first (ReturnS e at) zs f s refl l
    stmt_first (PrintS e at) zs f s l = plain_first (PrintS e at) zs f s refl l
    stmt_first (StartS e at) zs f s l = plain_first (StartS e at) zs f s refl l

-- a terminal that begins no plain statement
Other : Terminal → Type 0
Other t = (s : StmtTree) (zs f : List Token) → SpellsStmt s zs → is_plain s ≡ true → starts (is t) (zs ++ f) ≡ false

no_brace : Other T.OpenBrace
unfolding Other
no_brace s zs f p q = plain_first (is T.OpenBrace) false true (λ n text at h. refl) (λ n. refl) (λ d. refl) (λ d. refl) (λ d. refl) (λ d. refl) (λ d. refl) (λ d. refl) (λ d. refl) (λ d. refl) (λ d. refl) (λ d a. refl) (λ d a. refl) (λ d a. refl) s zs f p q (λ l. refl)

no_if : Other T.If
unfolding Other
no_if s zs f p q = plain_first (is T.If) false true (λ n text at h. refl) (λ n. refl) (λ d. refl) (λ d. refl) (λ d. refl) (λ d. refl) (λ d. refl) (λ d. refl) (λ d. refl) (λ d. refl) (λ d. refl) (λ d a. refl) (λ d a. refl) (λ d a. refl) s zs f p q (λ l. refl)

no_while : Other T.While
unfolding Other
no_while s zs f p q = plain_first (is T.While) false true (λ n text at h. refl) (λ n. refl) (λ d. refl) (λ d. refl) (λ d. refl) (λ d. refl) (λ d. refl) (λ d. refl) (λ d. refl) (λ d. refl) (λ d. refl) (λ d a. refl) (λ d a. refl) (λ d a. refl) s zs f p q (λ l. refl)

no_sync : Other T.Synchronized
unfolding Other
no_sync s zs f p q = plain_first (is T.Synchronized) false true (λ n text at h. refl) (λ n. refl) (λ d. refl) (λ d. refl) (λ d. refl) (λ d. refl) (λ d. refl) (λ d. refl) (λ d. refl) (λ d. refl) (λ d. refl) (λ d a. refl) (λ d a. refl) (λ d a. refl) s zs f p q (λ l. refl)

no_else : (s : StmtTree) (zs f : List Token) → SpellsStmt s zs → starts (is T.Else) (zs ++ f) ≡ false
no_else s zs f p = stmt_first (is T.Else) false true (λ n text at h. refl) (λ n. refl) (λ d. refl) (λ d. refl) (λ d. refl) (λ d. refl) (λ d. refl) (λ d. refl) (λ d. refl) (λ d. refl) (λ d. refl) (λ d a. refl) (λ d a. refl) (λ d a. refl) (λ d. refl) (λ d. refl) (λ d. refl) (λ d. refl) s zs f p (λ l. refl)

stmt_goes_on : (s : StmtTree) (zs f : List Token) → SpellsStmt s zs → starts block_goes_on (zs ++ f) ≡ true
stmt_goes_on s zs f p = stmt_first block_goes_on true true (λ n text at h. refl) (λ n. refl) (λ d. refl) (λ d. refl) (λ d. refl) (λ d. refl) (λ d. refl) (λ d. refl) (λ d. refl) (λ d. refl) (λ d. refl) (λ d a. refl) (λ d a. refl) (λ d a. refl) (λ d. refl) (λ d. refl) (λ d. refl) (λ d. refl) s zs f p (λ l. refl)

or_true : (a b : Bool) → a ≡ true → a || b ≡ true
or_true true b h = refl
or_true false b h = cc

begins_number : (b : Bool) (n : ℕ) (text : List ℕ) (at : ℕ) → n < greatest_literal → begins_statement b (number_token n text at) ≡ true
unfolding begins_statement
begins_number b n text at h =
    let g : Bool → Option (ℕ × ℕ) = λ c. when c (n, at) in
    ap (λ c. (is_some (g c) || false || false || false || false || false) || (b && false)) (lt-ltb n greatest_literal h)

and_self : (b c : Bool) → b ≡ true → c ≡ true → b && c ≡ true
and_self true c e f = f
and_self false c e f = cc

stmt_begins : (b : Bool) (s : StmtTree) (zs f : List Token) → SpellsStmt s zs → (is_local s ≡ true → b ≡ true) → starts (begins_statement b) (zs ++ f) ≡ true
unfolding begins_statement
stmt_begins b = stmt_first (begins_statement b) true b (begins_number b) (λ n. refl) (λ d. refl) (λ d. refl) (λ d. refl) (λ d. refl) (λ d. refl) (λ d. refl) (λ d. refl) (λ d. refl) (λ d. refl)
    (λ d a. and_self b true a refl) (λ d a. and_self b true a refl) (λ d a. and_self b true a refl) (λ d. refl) (λ d. refl) (λ d. refl) (λ d. refl)

-- every statement that is spelled is read

stmt_some : (s : StmtTree) → 0 < stmt_height s
stmt_some (EmptyS at) = omega arith
stmt_some (BlockS ss at) = omega arith
stmt_some (LocalS fin ty n e at) = omega arith
stmt_some (SetVarS n e at) = omega arith
stmt_some (SetFieldS e n f at) = omega arith
stmt_some (DoS e at) = omega arith
stmt_some (IfS e s at) = omega arith
stmt_some (IfElseS e s t at) = omega arith
stmt_some (WhileS e s at) = omega arith
stmt_some (SyncS l ss at) = omega arith
stmt_some (ReturnS None at) = omega arith
stmt_some (ReturnS (Some e) at) = omega arith
stmt_some (PrintS e at) = omega arith
stmt_some (StartS e at) = omega arith

abbrev pub StmtRead : StmtTree → Type 0
StmtRead s = (h : ℕ) (b : Bool) (zs f : List Token) → SpellsStmt s zs → (b ≡ false → is_local s ≡ false) → (open_if s ≡ true → starts (is T.Else) f ≡ false)
    → Same (stmt_height s ≤ h) (statement_at h b (zs ++ f)) (Ok (s, f))

-- the same, where some height is left
abbrev WithRead : StmtTree → Type 0
WithRead s = (h : ℕ) → 0 < h → (b : Bool) (zs f : List Token) → SpellsStmt s zs → (b ≡ false → is_local s ≡ false) → (open_if s ≡ true → starts (is T.Else) f ≡ false)
    → Same (stmt_height s ≤ h) (statement_with h (statement_at (h - 1)) (block_at (h - 1)) b (zs ++ f)) (Ok (s, f))

local_allowed : (s : StmtTree) (b : Bool) → (b ≡ false → is_local s ≡ false) → is_local s ≡ true → b ≡ true
local_allowed s true n l = refl
local_allowed s false n l = let k = n refl in cc

from_with : (s : StmtTree) → WithRead s → StmtRead s
from_with s w zero b zs f p l o =
    same_along (statement_zero b (zs ++ f) ∙ cond-true (starts (begins_statement b) (zs ++ f)) _ _ (stmt_begins b s zs f p (local_allowed s b l)))
    (deep refl (λ q. let k = stmt_some s in omega (arith, k, q)))
from_with s w (suc h) b zs f p l o = same_along (statement_positive (suc h) (omega arith) b (zs ++ f)) (w (suc h) (omega arith) b zs f p l o)

skip : (h : ℕ) (b : Bool) (ts : List Token) → starts (is T.OpenBrace) ts ≡ false → starts (is T.If) ts ≡ false → starts (is T.While) ts ≡ false
    → starts (is T.Synchronized) ts ≡ false → statement_with h (statement_at (h - 1)) (block_at (h - 1)) b ts ≡ plain_statement h b ts
unfolding statement_with
skip h b ts e1 e2 e3 e4 =
    cond-false (starts (is T.OpenBrace) ts) _ _ e1 ∙ cond-false (starts (is T.If) ts) _ _ e2 ∙ cond-false (starts (is T.While) ts) _ _ e3 ∙ cond-false (starts (is T.Synchronized) ts) _ _ e4

from_plain : (s : StmtTree) → is_plain s ≡ true → ((h : ℕ) (some : 0 < h) (zs f : List Token) → SpellsStmt s zs → PlainRead h some s zs f) → StmtRead s
unfolding Other
from_plain s i r =
    from_with s (λ h some b zs f p l o.
    same_along (skip h b (zs ++ f) (no_brace s zs f p i) (no_if s zs f p i) (no_while s zs f p i) (no_sync s zs f p i)) (r h some zs f p b l))

-- the items of a block, behind those so far
abbrev pub ItemsRead : StmtTrees → Type 0
ItemsRead ss = (h : ℕ) (so : List StmtTree) (zs f : List Token) (c : ℕ) → SpellsStmts ss zs
    → (more : List StmtTree) × (stmts_from more ≡ ss)
    × Same (stmt_heights ss ≤ h) (loop block_goes_on (item_step (statement_at h true)) so (zs ++ (token T.CloseBrace c ∷ f))) (Ok (so ++ more, token T.CloseBrace c ∷ f))

items_none : ItemsRead no_stmts
items_none h so zs f c s = (
  [],
  refl,
  at_list (loop block_goes_on (item_step (statement_at h true)) so) (ap (λ z. z ++ (token T.CloseBrace c ∷ f)) s)
      (same (statement_done h so (token T.CloseBrace c ∷ f) refl ∙ ap (λ z. Ok (z, token T.CloseBrace c ∷ f)) (sym (append-nil so)))),
)

items_no_else : (ss : StmtTrees) (zs f : List Token) (c : ℕ) → SpellsStmts ss zs → starts (is T.Else) (zs ++ (token T.CloseBrace c ∷ f)) ≡ false
items_no_else no_stmts zs f c s = ap (λ z. starts (is T.Else) (z ++ (token T.CloseBrace c ∷ f))) s
items_no_else (more_stmts s ss) zs f c p =
    ap (λ z. starts (is T.Else) (z ++ (token T.CloseBrace c ∷ f))) p.4 ∙ ap (starts (is T.Else)) (append_assoc p.0 p.1 (token T.CloseBrace c ∷ f))
    ∙ no_else s p.0 (p.1 ++ (token T.CloseBrace c ∷ f)) p.2

items_some : (s : StmtTree) (ss : StmtTrees) → StmtRead s → ItemsRead ss → ItemsRead (more_stmts s ss)
items_some s ss r m h so zs f c p =
    let end1 = token T.CloseBrace c ∷ f in
    let rest = m h (so ++ (s ∷ [])) p.1 f c p.3 in
    let go = loop block_goes_on (item_step (statement_at h true)) in (
      s ∷ rest.0,
      ap (more_stmts s) rest.1,
      at_list (go so) (ap (λ z. z ++ end1) p.4 ∙ append_assoc p.0 p.1 end1)
          (same_along (statement_more h so (p.0 ++ (p.1 ++ end1)) (stmt_goes_on s p.0 (p.1 ++ end1) p.2))
          (same_then
          (same_bind {low2 = stmt_heights ss ≤ h} go (λ q. q) (λ q. omega (arith, q))
          (same_bind {low2 = stmt_heights (more_stmts s ss) ≤ h} (λ x ts. Ok (so ++ (x ∷ []), ts)) (λ q. omega (arith, q)) (λ q. q)
          (r h true p.0 (p.1 ++ end1) p.2 (λ e. cc) (λ o. items_no_else ss p.1 f c p.3)) (same refl))
          rest.2)
          (ap (λ z. Ok (z, end1)) (shift so s rest.0)))),
    )

-- a block
braces_read : (ss : StmtTrees) → ItemsRead ss → (h : ℕ) (zs f : List Token) (b c : ℕ) → SpellsStmts ss zs
    → (more : List StmtTree) × (stmts_from more ≡ ss)
    × Same (stmt_heights ss ≤ h) (braces (statement_at h true) (token T.OpenBrace b ∷ zs ++ (token T.CloseBrace c ∷ f))) (Ok ((b, more, c), f))
unfolding braces
braces_read ss r h zs f b c s =
    let items = r h [] zs f c s in (
      items.0,
      items.1,
      same_bind {low2 = stmt_heights ss ≤ h} (λ ss ts. take_one T.CloseBrace ts >>= λ c ts. Ok ((b, ss, c), ts)) (λ q. q) (λ q. q) items.2 (same refl),
    )

pub block_read : (ss : StmtTrees) → ItemsRead ss → (h : ℕ) (zs f : List Token) (b c : ℕ) → SpellsStmts ss zs
    → (more : List StmtTree) × (stmts_from more ≡ ss)
    × Same (1 + stmt_heights ss ≤ h) (block_at h (token T.OpenBrace b ∷ zs ++ (token T.CloseBrace c ∷ f))) (Ok ((b, more, c), f))
block_read ss r zero zs f b c s =
    let items = r zero [] zs f c s in
    (items.0, items.1, same_along (block_zero (token T.OpenBrace b ∷ zs ++ (token T.CloseBrace c ∷ f))) (deep refl (λ q. omega (arith, q))))
block_read ss r (suc h) zs f b c s =
    let t = token T.OpenBrace b ∷ zs ++ (token T.CloseBrace c ∷ f) in
    let whole = braces_read ss r (suc h - 1) zs f b c s in
    (whole.0, whole.1, same_along (block_positive (suc h) (omega arith) t) (same_weaker (λ q. omega (arith, q)) whole.2))

read_block : (ss : StmtTrees) (at : ℕ) → ItemsRead ss → WithRead (BlockS ss at)
unfolding statement_with block_statement
read_block ss at r h some b zs f s l o =
    let close = token T.CloseBrace s.1 in
    let whole = braces_read ss r (h - 1) s.0 f at s.1 s.2 in
    at_list (statement_with h (statement_at (h - 1)) (block_at (h - 1)) b) (ap (λ z. z ++ f) s.3 ∙ ap (λ z. token T.OpenBrace at ∷ z) (append_assoc s.0 (close ∷ []) f))
    (same_bind {low2 = stmt_height (BlockS ss at) ≤ h} (λ b ts. Ok (BlockS (stmts_from b.1) b.0, ts)) (λ q. omega (arith, q)) (λ q. q) whole.2
    (same (ap (λ z. Ok (BlockS z at, f)) whole.1)))

read_sync : (k : LockTree) (ss : StmtTrees) (at : ℕ) → ItemsRead ss → WithRead (SyncS k ss at)
unfolding statement_with sync_statement
read_sync k ss at r h some b zs f s l o =
    let close = token T.CloseBrace s.5 in
    let t = token T.OpenBrace s.4 ∷ s.1 ++ (close ∷ f) in
    let whole = block_read ss r (h - 1) s.1 f s.4 s.5 s.7 in
    at_list (statement_with h (statement_at (h - 1)) (block_at (h - 1)) b)
    (ap (λ z. z ++ f) s.8 ∙ ap (λ z. token T.Synchronized at ∷ token T.OpenParen s.2 ∷ z) (append_assoc s.0 (token T.CloseParen s.3 ∷ token T.OpenBrace s.4 ∷ s.1 ++ (close ∷ [])) f)
    ∙ ap (λ z. token T.Synchronized at ∷ token T.OpenParen s.2 ∷ s.0 ++ (token T.CloseParen s.3 ∷ token T.OpenBrace s.4 ∷ z)) (append_assoc s.1 (close ∷ []) f))
    (same_along (ap (λ r. r >>= λ l ts. take_one T.CloseParen ts >>= λ c ts. block_at (h - 1) ts >>= λ b ts. Ok (SyncS l (stmts_from b.1) at, ts)) (lock_read k s.0 (token T.CloseParen s.3 ∷ t) s.6 refl))
    (same_bind {low2 = stmt_height (SyncS k ss at) ≤ h} (λ b ts. Ok (SyncS k (stmts_from b.1) at, ts)) (λ q. omega (arith, q)) (λ q. q) whole.2
    (same (ap (λ z. Ok (SyncS k z at, f)) whole.1))))

read_if : (e : ExprTree) (t : StmtTree) (at : ℕ) → StmtRead t → WithRead (IfS e t at)
unfolding statement_with if_statement else_part
read_if e t at r h some b zs f s l o =
    let go = else_part h (statement_at (h - 1)) (block_at (h - 1)) at e in
    at_list (statement_with h (statement_at (h - 1)) (block_at (h - 1)) b)
    (ap (λ z. z ++ f) s.7 ∙ ap (λ z. token T.If at ∷ token T.OpenParen s.2 ∷ z) (append_assoc s.0 (token T.CloseParen s.3 ∷ s.1) f))
    (same_bind {low2 = stmt_height (IfS e t at) ≤ h} (λ e ts. statement_at (h - 1) false ts >>= λ s ts. else_part h (statement_at (h - 1)) (block_at (h - 1)) at e s ts) (λ q. omega (arith, q)) (λ q. q)
    (condition_read h some e s.0 (s.1 ++ f) s.2 s.3 s.4)
    (same_bind {low2 = stmt_height (IfS e t at) ≤ h} (λ s ts. else_part h (statement_at (h - 1)) (block_at (h - 1)) at e s ts) (λ q. omega (arith, q)) (λ q. q)
    (r (h - 1) false s.1 f s.5 (λ _. s.6) (λ _. o refl))
    (same (cond-false (starts (is T.Else) f) _ _ (o refl)))))

read_if_else : (e : ExprTree) (t u : StmtTree) (at : ℕ) → StmtRead t → StmtRead u → WithRead (IfElseS e t u at)
unfolding statement_with if_statement else_part
read_if_else e t u at r q h some b zs f s l o =
    let end1 = token T.Else s.5 ∷ s.2 ++ f in
    at_list (statement_with h (statement_at (h - 1)) (block_at (h - 1)) b)
    (ap (λ z. z ++ f) s.12 ∙ ap (λ z. token T.If at ∷ token T.OpenParen s.3 ∷ z) (append_assoc s.0 (token T.CloseParen s.4 ∷ s.1 ++ (token T.Else s.5 ∷ s.2)) f)
    ∙ ap (λ z. token T.If at ∷ token T.OpenParen s.3 ∷ s.0 ++ (token T.CloseParen s.4 ∷ z)) (append_assoc s.1 (token T.Else s.5 ∷ s.2) f))
    (same_bind {low2 = stmt_height (IfElseS e t u at) ≤ h} (λ e ts. statement_at (h - 1) false ts >>= λ s ts. else_part h (statement_at (h - 1)) (block_at (h - 1)) at e s ts) (λ q. omega (arith, q)) (λ q. q)
    (condition_read h some e s.0 (s.1 ++ end1) s.3 s.4 s.6)
    (same_bind {low2 = stmt_height (IfElseS e t u at) ≤ h} (λ s ts. else_part h (statement_at (h - 1)) (block_at (h - 1)) at e s ts) (λ q. omega (arith, q)) (λ q. q)
    (r (h - 1) false s.1 end1 s.7 (λ _. s.9) (λ i. let k = s.11 in cc))
    (same_bind {low2 = stmt_height (IfElseS e t u at) ≤ h} (λ u ts. Ok (IfElseS e t u at, ts)) (λ q. omega (arith, q)) (λ q. q)
    (q (h - 1) false s.2 f s.8 (λ _. s.10) o) (same refl))))

read_while : (e : ExprTree) (t : StmtTree) (at : ℕ) → StmtRead t → WithRead (WhileS e t at)
unfolding statement_with while_statement
read_while e t at r h some b zs f s l o =
    at_list (statement_with h (statement_at (h - 1)) (block_at (h - 1)) b)
    (ap (λ z. z ++ f) s.7 ∙ ap (λ z. token T.While at ∷ token T.OpenParen s.2 ∷ z) (append_assoc s.0 (token T.CloseParen s.3 ∷ s.1) f))
    (same_bind {low2 = stmt_height (WhileS e t at) ≤ h} (λ e ts. statement_at (h - 1) false ts >>= λ s ts. Ok (WhileS e s at, ts)) (λ q. omega (arith, q)) (λ q. q)
    (condition_read h some e s.0 (s.1 ++ f) s.2 s.3 s.4)
    (same_bind {low2 = stmt_height (WhileS e t at) ≤ h} (λ s ts. Ok (WhileS e s at, ts)) (λ q. omega (arith, q)) (λ q. q)
    (r (h - 1) false s.1 f s.5 (λ _. s.6) o) (same refl)))

mutual
  pub stmt_reads : (s : StmtTree) → StmtRead s
  stmt_reads (EmptyS at) = from_plain (EmptyS at) refl (λ h some zs f p. read_empty h some at zs f p)
  stmt_reads (BlockS ss at) = from_with (BlockS ss at) (read_block ss at (items_read ss))
  stmt_reads (LocalS fin ty n e at) = from_plain (LocalS fin ty n e at) refl (λ h some zs f p. read_local h some fin ty n e at zs f p)
  stmt_reads (SetVarS n e at) = from_plain (SetVarS n e at) refl (λ h some zs f p. read_set_var h some n e at zs f p)
  stmt_reads (SetFieldS e n g at) = from_plain (SetFieldS e n g at) refl (λ h some zs f p. read_set_field h some e n g at zs f p)
  stmt_reads (DoS e at) = from_plain (DoS e at) refl (λ h some zs f p. read_do h some e at zs f p)
  stmt_reads (IfS e s at) = from_with (IfS e s at) (read_if e s at (stmt_reads s))
  stmt_reads (IfElseS e s t at) = from_with (IfElseS e s t at) (read_if_else e s t at (stmt_reads s) (stmt_reads t))
  stmt_reads (WhileS e s at) = from_with (WhileS e s at) (read_while e s at (stmt_reads s))
  stmt_reads (SyncS l ss at) = from_with (SyncS l ss at) (read_sync l ss at (items_read ss))
  stmt_reads (ReturnS e at) = from_plain (ReturnS e at) refl (λ h some zs f p. read_return h some e at zs f p)
  stmt_reads (PrintS e at) = from_plain (PrintS e at) refl (λ h some zs f p. read_print h some e at zs f p)
  stmt_reads (StartS e at) = from_plain (StartS e at) refl (λ h some zs f p. read_start h some e at zs f p)

  pub items_read : (ss : StmtTrees) → ItemsRead ss
  items_read no_stmts = items_none
  items_read (more_stmts s ss) = items_some s ss (stmt_reads s) (items_read ss)
