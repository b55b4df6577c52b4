-- Statements without statements in them are read right.
use Rattle.std.proofs.Common.{◌≡◌, ℕ, ◌<◌, ◌≤◌, ◌&&◌, nat_lt, Bool, true, false, List, [], ◌∷◌, ◌++◌, length, Some, None, refl, sym, ◌∙◌, ap, subst, append_assoc, append-nil, arith}
use Rattle.std.proofs.lemmas.Bool.{ltb-true}
use Rattle.lexer.specs.declared.tokens.Token.{Token}
use Rattle.syntax.specs.declared.terminal.Terminal.TheVariants as T
use Rattle.syntax.specs.declared.tree.Name.{Name}
use Rattle.syntax.specs.declared.tree.TypeName.{TypeName}
use Rattle.syntax.specs.declared.tree.TypeName.TheVariants as Y
use Rattle.syntax.specs.Grammar.{Spells, SpellsStmt, SpellsLock, SpellsFields, IsType, may_be_statement, is_local, open_if, offset}
use Rattle.syntax.specs.Heights.{height, stmt_height}
use Rattle.syntax.specs.Tokens.{is, token, name_token}
use Rattle.syntax.specs.Trees.{LockTree, ExprTree, NumberE, LeastE, TruthE, NullE, ThisE, VarE, ParenE, NotE, NegE, BinaryE, GetE, CallE, NewE, no_exprs, StmtTree, EmptyS, LocalS, SetVarS, SetFieldS, DoS, ReturnS, PrintS, StartS}
use Rattle.parser.proofs.TokenLaws.{field_law}
use Rattle.parser.proofs.Expressions.{Level, Postfix, spelled_long, right_primary, right_dots, right_new_rest}
use Rattle.parser.proofs.Lists.{right_several}
use Rattle.parser.proofs.Loops.{below_law}
use Rattle.parser.proofs.Parts.{One, Through_next, right_one, right_tok, right_name, right_done, right_if, right_choice, right_allow, x_name, is_token, right_fail}
use Rattle.parser.proofs.Right.{Right, Any, Some_of, right_seq, right_weaker}
use Rattle.parser.specs.Combine.{Res, ◌>>=◌, starts, several}
use Rattle.parser.specs.Words.{is_name, field_name, lock, type_name}
use Rattle.syntax.specs.Offsets.{first_at}
use Rattle.parser.specs.Expressions.{below}
use Rattle.parser.proofs.Fields.{FieldL, field_long}
use Rattle.parser.specs.Statements.{begins_local, expression, condition, return_statement, print_statement, start_rest, assign, assigned, local_rest, local_statement, call_end, target, finish, finish_from, new_statement, name_statement, expression_statement, plain_statement}

x_tokens : List Token
x_tokens = name_token x_name ∷ []

-- types

abbrev pub TypeToken : Token → TypeName → Type 0
TypeToken x ty = IsType ty x

pub right_type : (ts : List Token) → Right type_name (One TypeToken) Any ts
unfolding type_name
right_type ts =
    right_if (λ e. right_tok T.Int (λ d. ([], Y.Int, (token T.Int d, refl, refl))) (λ d r. right_done (token T.Int d, refl, refl) tt)) (λ e.
    right_if (λ e. right_tok T.Boolean (λ d. ([], Y.Boolean, (token T.Boolean d, refl, refl))) (λ d r. right_done (token T.Boolean d, refl, refl) tt)) (λ e.
    right_name (λ n. ([], Y.Class n, (name_token n, refl, refl))) (λ n r. right_done (name_token n, refl, refl) tt)))

-- locks

fields_law : (ts : List Token) → Right (several (is T.Dot) field_name) (λ zs ns. SpellsFields ns zs) Any ts
fields_law ts =
    right_weaker (λ zs b m. m) (λ b r q. tt)
    (right_several field_name FieldL Any (token T.Dot 0 ∷ name_token x_name ∷ [], x_name, (0, refl)) field_long (λ ns. Unit {0}) (λ so a r p q. tt)
    (is T.Dot) (λ x xs g. field_law (x ∷ xs)) SpellsFields refl (λ n rest xs ys f q. (ys, f.0, q, ap (λ z. z ++ ys) f.1)) tt ts)

pub right_lock : (ts : List Token) → Right lock (λ zs l. SpellsLock l zs) Any ts
unfolding lock
right_lock ts =
    right_if
    (λ e. right_tok T.This (λ d. ([], record { root = None; fields = []; at = d }, (token T.This d, [], refl, refl, refl))) (λ d r.
    right_seq (fields_law r) (λ ns. ([], record { root = None; fields = ns; at = d }, λ xs f. (token T.This d, xs, refl, f, ap (λ z. token T.This d ∷ z) (append-nil xs)))) (λ ns r q.
    right_done (λ xs f. (token T.This d, xs, refl, f, ap (λ z. token T.This d ∷ z) (append-nil xs))) tt)))
    (λ e. right_name (λ n. ([], record { root = Some n; fields = []; at = n.at }, (name_token n, [], (refl, refl), refl, refl))) (λ n r.
    right_seq (fields_law r) (λ ns. ([], record { root = Some n; fields = ns; at = n.at }, λ xs f. (name_token n, xs, (refl, refl), f, ap (λ z. name_token n ∷ z) (append-nil xs)))) (λ ns r q.
    right_done (λ xs f. (name_token n, xs, (refl, refl), f, ap (λ z. name_token n ∷ z) (append-nil xs))) tt)))

pub this_lock : LockTree
this_lock = record { root = None; fields = []; at = 0 }

pub this_lock_is : SpellsLock this_lock (token T.This 0 ∷ [])
unfolding this_lock
this_lock_is = (token T.This 0, [], refl, refl, refl)

-- the offset of the first token

offset_append : (xs ys : List Token) → 0 < length xs → offset (xs ++ ys) ≡ offset xs
offset_append [] ys h = absurd (omega (arith, h))
offset_append (x ∷ xs) ys h = refl

pub first_is : (e : ExprTree) (zs : List Token) → Spells e zs → first_at e ≡ offset zs
first_is (NumberE n at) zs s = sym (ap offset s.2)
first_is (LeastE at) zs s = sym (ap offset s.2)
first_is (TruthE true at) zs s = sym (ap offset s)
first_is (TruthE false at) zs s = sym (ap offset s)
first_is (NullE at) zs s = sym (ap offset s)
first_is (ThisE at) zs s = sym (ap offset s)
first_is (VarE n) zs s = sym (ap offset s)
first_is (ParenE e at) zs s = sym (ap offset s.3)
first_is (NotE e at) zs s = sym (ap offset s.3)
first_is (NegE e at) zs s = sym (ap offset s.3)
first_is (BinaryE o e f at) zs s = first_is e s.0 s.2 ∙ sym (offset_append s.0 _ (spelled_long e s.0 s.2)) ∙ sym (ap offset s.6)
first_is (GetE e n) zs s = first_is e s.0 s.2 ∙ sym (offset_append s.0 _ (spelled_long e s.0 s.2)) ∙ sym (ap offset s.4)
first_is (CallE e n args) zs s = first_is e s.0 s.5 ∙ sym (offset_append s.0 _ (spelled_long e s.0 s.5)) ∙ sym (ap offset s.8)
first_is (NewE n args at) zs s = sym (ap offset s.4)

-- statements

abbrev pub StmtL : Bool → List Token → StmtTree → Type 0
StmtL in_block zs s = SpellsStmt s zs × (in_block ≡ false → is_local s ≡ false)

-- a statement that is no declaration and doesn't end in an open `if`
abbrev pub Plain : List Token → StmtTree → Type 0
Plain zs s = SpellsStmt s zs × (is_local s ≡ false) × (open_if s ≡ false)

abbrev pub Local : List Token → StmtTree → Type 0
Local zs s = SpellsStmt s zs × (open_if s ≡ false)

-- a statement of at most h nodes in height, behind which no `else` of its own stands
abbrev pub Ends : ℕ → StmtTree → List Token → Type 0
Ends h s r = (stmt_height s ≤ h) × (open_if s ≡ true → starts (is T.Else) r ≡ false)

pub false_ends : (s : StmtTree) (r : List Token) → open_if s ≡ false → open_if s ≡ true → starts (is T.Else) r ≡ false
false_ends s r a b = cc

module _ (h : ℕ) (some : 0 < h) where
  expression_law : (ts : List Token) → Right (expression h) (Level 6) (λ e r. height e < h) ts
  expression_law ts = below_law h some 6 (omega arith) ts

  x_level : Level 6 x_tokens (VarE x_name)
  unfolding x_tokens
  x_level = (refl, omega arith)

  cond_list : (o c : ℕ) (xs ys zs : List Token) → zs ≡ token T.OpenParen o ∷ xs ++ (token T.CloseParen c ∷ [])
      → token T.OpenParen o ∷ xs ++ (token T.CloseParen c ∷ ys) ≡ zs ++ ys
  cond_list o c xs ys zs e = ap (λ z. token T.OpenParen o ∷ z) (sym (append_assoc xs (token T.CloseParen c ∷ []) ys)) ∙ sym (ap (λ z. z ++ ys) e)

  abbrev CondL : List Token → ExprTree → Type 0
  CondL zs e = (o c : ℕ) × (xs : List Token) × Spells e xs × (zs ≡ token T.OpenParen o ∷ xs ++ (token T.CloseParen c ∷ []))

  condition_law : (ts : List Token) → Right (condition h) CondL (λ e r. height e < h) ts
  unfolding condition x_tokens
  condition_law ts =
      right_tok T.OpenParen (λ o. (name_token x_name ∷ token T.CloseParen 0 ∷ [], VarE x_name, (o, 0, x_tokens, refl, refl))) (λ o r.
      right_seq (expression_law r) (λ e. (token T.CloseParen 0 ∷ [], e, λ xs l. (o, 0, xs, l.0, refl))) (λ e r q.
      right_tok T.CloseParen (λ c. ([], e, λ xs l. (o, c, xs, l.0, refl))) (λ c r. right_done (λ xs l. (o, c, xs, l.0, refl)) q)))

  -- an expression in parentheses, and then
  pub right_condition : {B : Type 0} {k : ExprTree → List Token → Res B} {L : List Token → B → Type 0} {Post2 : B → List Token → Type 0} {ts : List Token}
      → ((e : ExprTree) → Some_of (λ ys b. (o c : ℕ) (xs : List Token) → Spells e xs → L (token T.OpenParen o ∷ xs ++ (token T.CloseParen c ∷ ys)) b))
      → ((e : ExprTree) (r : List Token) → height e < h
      → Right (k e) (λ ys b. (o c : ℕ) (xs : List Token) → Spells e xs → L (token T.OpenParen o ∷ xs ++ (token T.CloseParen c ∷ ys)) b) Post2 r)
      → Right (λ ts. condition h ts >>= k) L Post2 ts
  right_condition {B} {k} {L} {Post2} {ts} more law =
      right_seq (condition_law ts)
      (λ e. let s = more e in (s.0, s.1, λ zs c. subst (λ z. L z s.1) (cond_list c.0 c.1 c.2 s.0 zs c.4) (s.2 c.0 c.1 c.2 c.3)))
      (λ e r q. right_weaker (λ ys b m zs c. subst (λ z. L z b) (cond_list c.0 c.1 c.2 ys zs c.4) (m c.0 c.1 c.2 c.3)) (λ b s p. p) (law e r q))

  -- `= expr ;`
  abbrev AssignedL : List Token → (ExprTree × ℕ) → Type 0
  AssignedL zs v = (c : ℕ) × (ys : List Token) × Spells v.0 ys × (zs ≡ token T.Assign v.1 ∷ ys ++ (token T.Semicolon c ∷ []))

  assigned_law : (ts : List Token) → Right (assigned h) AssignedL (λ v r. height v.0 < h) ts
  unfolding assigned x_tokens
  assigned_law ts =
      right_tok T.Assign (λ d. (name_token x_name ∷ token T.Semicolon 0 ∷ [], (VarE x_name, d), (0, x_tokens, refl, refl))) (λ d r.
      right_seq (expression_law r) (λ v. (token T.Semicolon 0 ∷ [], (v, d), λ ys l. (0, ys, l.0, refl))) (λ v r q.
      right_tok T.Semicolon (λ c. ([], (v, d), λ ys l. (c, ys, l.0, refl))) (λ c r. right_done (λ ys l. (c, ys, l.0, refl)) q)))

  pub right_assign : (make : ExprTree → ℕ → StmtTree) {L : List Token → StmtTree → Type 0} {Post2 : StmtTree → List Token → Type 0} (ts : List Token)
      → ((v : ExprTree) (d c : ℕ) (ys : List Token) → Spells v ys → L (token T.Assign d ∷ ys ++ (token T.Semicolon c ∷ [])) (make v d))
      → ((v : ExprTree) (d : ℕ) (r : List Token) → height v < h → Post2 (make v d) r)
      → Right (assign h make) L Post2 ts
  unfolding assign
  right_assign make {L} ts conv post =
      right_seq (assigned_law ts) (λ v. ([], make v.0 v.1, λ zs a. given v zs a)) (λ v r q. right_done (λ zs a. given v zs a) (post v.0 v.1 r q))
    where
      given : (v : ExprTree × ℕ) (zs : List Token) → AssignedL zs v → L (zs ++ []) (make v.0 v.1)
      given v zs a = subst (λ z. L z (make v.0 v.1)) (sym (append-nil zs ∙ a.3)) (conv v.0 v.1 a.0 a.1 a.2)

  right_return : (ts : List Token) → Right (return_statement h) Plain (Ends h) ts
  unfolding return_statement
  right_return ts =
      right_tok T.Return (λ d. (token T.Semicolon 0 ∷ [], ReturnS None d, ((0, refl), refl, refl))) (λ d r.
      right_if (λ e. right_tok T.Semicolon (λ c. ([], ReturnS None d, ((c, refl), refl, refl))) (λ c r. right_done ((c, refl), refl, refl) (omega (arith, some), false_ends (ReturnS None d) r refl))) (λ e.
      right_seq (expression_law r) (λ v. (token T.Semicolon 0 ∷ [], ReturnS (Some v) d, λ xs l. ((xs, 0, l.0, refl), refl, refl))) (λ v r q.
      right_tok T.Semicolon (λ c. ([], ReturnS (Some v) d, λ xs l. ((xs, c, l.0, refl), refl, refl))) (λ c r.
      right_done (λ xs l. ((xs, c, l.0, refl), refl, refl)) (omega (arith, q), false_ends (ReturnS (Some v) d) r refl)))))

  right_print : (ts : List Token) → Right (print_statement h) Plain (Ends h) ts
  unfolding print_statement x_tokens
  right_print ts =
      let end1 = name_token x_name ∷ token T.CloseParen 0 ∷ token T.Semicolon 0 ∷ [] in
      right_tok T.System (λ s. (token T.Dot 0 ∷ token T.Out 0 ∷ token T.Dot 0 ∷ token T.Println 0 ∷ token T.OpenParen 0 ∷ end1, PrintS (VarE x_name) s, ((x_tokens, 0, 0, 0, 0, 0, 0, 0, refl, refl), refl, refl))) (λ s r.
      right_tok T.Dot (λ d. (token T.Out 0 ∷ token T.Dot 0 ∷ token T.Println 0 ∷ token T.OpenParen 0 ∷ end1, PrintS (VarE x_name) s, ((x_tokens, d, 0, 0, 0, 0, 0, 0, refl, refl), refl, refl))) (λ d r.
      right_tok T.Out (λ n. (token T.Dot 0 ∷ token T.Println 0 ∷ token T.OpenParen 0 ∷ end1, PrintS (VarE x_name) s, ((x_tokens, d, n, 0, 0, 0, 0, 0, refl, refl), refl, refl))) (λ n r.
      right_tok T.Dot (λ f. (token T.Println 0 ∷ token T.OpenParen 0 ∷ end1, PrintS (VarE x_name) s, ((x_tokens, d, n, f, 0, 0, 0, 0, refl, refl), refl, refl))) (λ f r.
      right_tok T.Println (λ p. (token T.OpenParen 0 ∷ end1, PrintS (VarE x_name) s, ((x_tokens, d, n, f, p, 0, 0, 0, refl, refl), refl, refl))) (λ p r.
      right_condition (λ v. (token T.Semicolon 0 ∷ [], PrintS v s, λ o c xs l. ((xs, d, n, f, p, o, c, 0, l, refl), refl, refl))) (λ v r q.
      right_tok T.Semicolon (λ g. ([], PrintS v s, λ o c xs l. ((xs, d, n, f, p, o, c, g, l, refl), refl, refl))) (λ g r.
      right_done (λ o c xs l. ((xs, d, n, f, p, o, c, g, l, refl), refl, refl)) (omega (arith, q), false_ends (PrintS v s) r refl))))))))

  right_start_rest : (at : ℕ) (ts : List Token) → Right (start_rest h at) (λ ys s. Plain (token T.New at ∷ ys) s) (Ends h) ts
  unfolding start_rest x_tokens
  right_start_rest at ts =
      right_tok T.Thread (λ t. (
        token T.OpenParen 0 ∷ name_token x_name ∷ token T.CloseParen 0 ∷ token T.Dot 0 ∷ token T.Start 0 ∷ token T.OpenParen 0 ∷ token T.CloseParen 0 ∷ token T.Semicolon 0 ∷ [],
        StartS (VarE x_name) at,
        ((x_tokens, t, 0, 0, 0, 0, 0, 0, 0, refl, refl), refl, refl),
      )) (λ t r.
      right_condition (λ v. (
        token T.Dot 0 ∷ token T.Start 0 ∷ token T.OpenParen 0 ∷ token T.CloseParen 0 ∷ token T.Semicolon 0 ∷ [],
        StartS v at,
        λ o c xs l. ((xs, t, o, c, 0, 0, 0, 0, 0, l, refl), refl, refl),
      )) (λ v r q.
      right_tok T.Dot (λ d. (token T.Start 0 ∷ token T.OpenParen 0 ∷ token T.CloseParen 0 ∷ token T.Semicolon 0 ∷ [], StartS v at, λ o c xs l. ((xs, t, o, c, d, 0, 0, 0, 0, l, refl), refl, refl))) (λ d r.
      right_tok T.Start (λ s. (token T.OpenParen 0 ∷ token T.CloseParen 0 ∷ token T.Semicolon 0 ∷ [], StartS v at, λ o c xs l. ((xs, t, o, c, d, s, 0, 0, 0, l, refl), refl, refl))) (λ s r.
      right_tok T.OpenParen (λ p. (token T.CloseParen 0 ∷ token T.Semicolon 0 ∷ [], StartS v at, λ o c xs l. ((xs, t, o, c, d, s, p, 0, 0, l, refl), refl, refl))) (λ p r.
      right_tok T.CloseParen (λ k. (token T.Semicolon 0 ∷ [], StartS v at, λ o c xs l. ((xs, t, o, c, d, s, p, k, 0, l, refl), refl, refl))) (λ k r.
      right_tok T.Semicolon (λ g. ([], StartS v at, λ o c xs l. ((xs, t, o, c, d, s, p, k, g, l, refl), refl, refl))) (λ g r.
      right_done (λ o c xs l. ((xs, t, o, c, d, s, p, k, g, l, refl), refl, refl)) (omega (arith, q), false_ends (StartS v at) r refl))))))))

  -- the name and value of a declaration
  right_local_rest : (fin : Bool) (ty : TypeName) (at : ℕ) {L : List Token → StmtTree → Type 0} (ts : List Token)
      → ((n : Name) (v : ExprTree) (d c : ℕ) (ys : List Token) → Spells v ys → L (name_token n ∷ token T.Assign d ∷ ys ++ (token T.Semicolon c ∷ [])) (LocalS fin ty n v at))
      → Right (local_rest h fin ty at) L (Ends h) ts
  unfolding local_rest x_tokens
  right_local_rest fin ty at ts conv =
      right_name (λ n. (token T.Assign 0 ∷ name_token x_name ∷ token T.Semicolon 0 ∷ [], LocalS fin ty n (VarE x_name) at, conv n (VarE x_name) 0 0 x_tokens refl)) (λ n r.
      right_assign (λ v d. LocalS fin ty n v at) r (λ v d c ys l. conv n v d c ys l) (λ v d r q. (omega (arith, q), false_ends (LocalS fin ty n v at) r refl)))

  local_some : (fin : Bool) (ty : TypeName) (at : ℕ) → List Token
  local_some fin ty at = name_token x_name ∷ token T.Assign 0 ∷ name_token x_name ∷ token T.Semicolon 0 ∷ []

  right_local : (ts : List Token) → Right (local_statement h) Local (Ends h) ts
  unfolding local_statement x_tokens
  right_local ts =
      let end1 = name_token x_name ∷ token T.Assign 0 ∷ name_token x_name ∷ token T.Semicolon 0 ∷ [] in
      right_if (λ e. right_tok T.Final (λ d. (token T.Int 0 ∷ end1, LocalS true Y.Int x_name (VarE x_name) d, ((token T.Final d ∷ [], x_tokens, token T.Int 0, 0, 0, (d, refl), refl, refl, refl, refl), refl))) (λ d r.
      right_one (right_type r) (λ ty. (end1, LocalS true ty x_name (VarE x_name) d, λ x i. ((token T.Final d ∷ [], x_tokens, x, 0, 0, (d, refl), i, refl, refl, refl), refl))) (λ ty r.
      right_local_rest true ty d r (λ n v a c ys l x i. ((token T.Final d ∷ [], ys, x, a, c, (d, refl), i, l, refl, refl), refl))))) (λ e.
      right_if (λ e. right_tok T.Int (λ d. (end1, LocalS false Y.Int x_name (VarE x_name) d, (([], x_tokens, token T.Int d, 0, 0, refl, refl, refl, refl, refl), refl))) (λ d r.
      right_local_rest false Y.Int d r (λ n v a c ys l. (([], ys, token T.Int d, a, c, refl, refl, l, refl, refl), refl)))) (λ e.
      right_tok T.Boolean (λ d. (end1, LocalS false Y.Boolean x_name (VarE x_name) d, (([], x_tokens, token T.Boolean d, 0, 0, refl, refl, refl, refl, refl), refl))) (λ d r.
      right_local_rest false Y.Boolean d r (λ n v a c ys l. (([], ys, token T.Boolean d, a, c, refl, refl, l, refl, refl), refl)))))

  -- what stands behind a postfix
  abbrev Closes : ExprTree → List Token → StmtTree → Type 0
  Closes p ys s = (xs : List Token) → Postfix xs p → Plain (xs ++ ys) s

  closes_some : (p : ExprTree) → Some_of (Closes p)
  unfolding x_tokens
  closes_some p = (
    token T.Dot 0 ∷ name_token x_name ∷ token T.Assign 0 ∷ name_token x_name ∷ token T.Semicolon 0 ∷ [],
    SetFieldS p x_name (VarE x_name) 0,
    λ xs l. ((xs, x_tokens, 0, 0, l.0, l.1, refl, refl), refl, refl),
  )

  do_is : (p : ExprTree) (c : ℕ) → may_be_statement p ≡ true → Closes p (token T.Semicolon c ∷ []) (DoS p (first_at p))
  do_is p c call xs l = ((xs, c, l.0, call, first_is p xs l.0 ∙ sym (offset_append xs (token T.Semicolon c ∷ []) (spelled_long p xs l.0)), refl), refl, refl)

  right_call_end : (p : ExprTree) → may_be_statement p ≡ true → (ts : List Token) → Right (call_end h p) (Closes p) (Ends h) ts
  unfolding call_end
  right_call_end p call ts =
      right_if (λ e. right_allow (nat_lt (height p) h) (semicolon_next ts e)
      (λ low. right_tok T.Semicolon (λ c. ([], DoS p (first_at p), do_is p c call)) (λ c r. right_done (do_is p c call) (let a = ltb-true (height p) h low in omega (arith, a), false_ends (DoS p (first_at p)) r refl))))
      (λ e. right_fail (closes_some p))
    where
      semicolon_next : (ts : List Token) → starts (is T.Semicolon) ts ≡ true → Through_next (Closes p) ts
      semicolon_next [] e = cc
      semicolon_next (x ∷ xs) e = (x ∷ [], DoS p (first_at p), subst (λ z. Closes p (z ∷ []) (DoS p (first_at p))) (sym (is_token T.Semicolon x e)) (do_is p x.at call), refl)

  set_var_is : (n : Name) (v : ExprTree) (d c : ℕ) (ys : List Token) → Spells v ys → Closes (VarE n) (token T.Assign d ∷ ys ++ (token T.Semicolon c ∷ [])) (SetVarS n v d)
  set_var_is n v d c ys s xs l = ((ys, c, s, ap (λ z. z ++ (token T.Assign d ∷ ys ++ (token T.Semicolon c ∷ []))) l.0), refl, refl)

  set_field_is : (e : ExprTree) (n : Name) (v : ExprTree) (d c : ℕ) (ys : List Token) → Spells v ys → Closes (GetE e n) (token T.Assign d ∷ ys ++ (token T.Semicolon c ∷ [])) (SetFieldS e n v d)
  set_field_is e n v d c ys s xs l =
      let g = l.0 in
      let end1 = token T.Assign d ∷ ys ++ (token T.Semicolon c ∷ []) in
      ((g.0, ys, g.1, c, g.2, g.3, s, ap (λ z. z ++ end1) g.4 ∙ append_assoc g.0 (token T.Dot g.1 ∷ name_token n ∷ []) end1), refl, refl)

  right_target : (p : ExprTree) → height p ≤ h → (ts : List Token) → Right (target h p) (Closes p) (Ends h) ts
  right_target (VarE n) low ts = right_assign (SetVarS n) ts (set_var_is n) (λ v d r q. (omega (arith, q), false_ends (SetVarS n v d) r refl))
  right_target (GetE e n) low ts = right_assign (SetFieldS e n) ts (set_field_is e n) (λ v d r q. (omega (arith, q, low), false_ends (SetFieldS e n v d) r refl))
  right_target (NumberE n at) low ts = right_fail (closes_some (NumberE n at))
  right_target (LeastE at) low ts = right_fail (closes_some (LeastE at))
  right_target (TruthE b at) low ts = right_fail (closes_some (TruthE b at))
  right_target (NullE at) low ts = right_fail (closes_some (NullE at))
  right_target (ThisE at) low ts = right_fail (closes_some (ThisE at))
  right_target (ParenE e at) low ts = right_fail (closes_some (ParenE e at))
  right_target (NotE e at) low ts = right_fail (closes_some (NotE e at))
  right_target (NegE e at) low ts = right_fail (closes_some (NegE e at))
  right_target (BinaryE o e f at) low ts = right_fail (closes_some (BinaryE o e f at))
  right_target (CallE e n args) low ts = right_fail (closes_some (CallE e n args))
  right_target (NewE n args at) low ts = right_fail (closes_some (NewE n args at))

  right_finish : (p : ExprTree) → height p ≤ h → (ts : List Token) → Right (finish h p) (Closes p) (Ends h) ts
  unfolding finish
  right_finish p low ts = right_choice (may_be_statement p) (λ e. right_call_end p e ts) (λ e. right_target p low ts)

  abbrev Adding : ExprTree → List Token → ExprTree → Type 0
  Adding e ys b = (xs : List Token) → Postfix xs e → Postfix (xs ++ ys) b

  adds_closes : (e p : ExprTree) (xs ys : List Token) (s : StmtTree) → Adding e xs p → Closes p ys s → Closes e (xs ++ ys) s
  adds_closes e p xs ys s a c zs l = subst (λ z. Plain z s) (append_assoc zs xs ys) (c (zs ++ xs) (a zs l))

  right_finish_from : (e : ExprTree) → height e ≤ h → (ts : List Token) → Right (finish_from h e) (Closes e) (Ends h) ts
  unfolding finish_from
  right_finish_from e low ts =
      right_seq (right_dots h some (below h) (below_law h some) e ts)
      (λ p. let c = closes_some p in (c.0, c.1, λ xs a. adds_closes e p xs c.0 c.1 a c.2))
      (λ p r q. right_weaker (λ ys s c xs a. adds_closes e p xs ys s a c) (λ s r k. k) (right_finish p (q.0 low) r))

  new_do : (d : ℕ) → Some_of (λ ys s. Plain (token T.New d ∷ ys) s)
  new_do d = (
    name_token x_name ∷ token T.OpenParen 0 ∷ token T.CloseParen 0 ∷ token T.Semicolon 0 ∷ [],
    DoS (NewE x_name no_exprs d) d,
    ((token T.New d ∷ name_token x_name ∷ token T.OpenParen 0 ∷ token T.CloseParen 0 ∷ [], 0, ([], 0, 0, refl, refl), refl, refl, refl), refl, refl),
  )

  right_new : (ts : List Token) → Right (new_statement h) Plain (Ends h) ts
  unfolding new_statement
  right_new ts =
      right_tok T.New new_do (λ d r.
      right_if (λ e. right_start_rest d r) (λ e.
      right_seq (right_new_rest h some (below h) (below_law h some) d r) (λ e. let c = closes_some e in (c.0, c.1, λ xs l. c.2 (token T.New d ∷ xs) l))
      (λ e r q. right_weaker (λ ys s c xs l. c (token T.New d ∷ xs) l) (λ s r k. k) (right_finish_from e q r))))

  plain_stmt : (in_block : Bool) (zs : List Token) (s : StmtTree) → Plain zs s → StmtL in_block zs s
  plain_stmt in_block zs s p = (p.0, λ e. p.1)

  in_block_first : (in_block : Bool) (test : Token → Bool) (ts : List Token) → starts (λ x. in_block && test x) ts ≡ true → in_block ≡ true
  in_block_first true test ts e = refl
  in_block_first false test [] e = cc
  in_block_first false test (x ∷ xs) e = cc

  local_stmt : (in_block : Bool) → in_block ≡ true → (zs : List Token) (s : StmtTree) → Local zs s → StmtL in_block zs s
  local_stmt in_block t zs s l = (l.0, λ e. cc)

  right_named : (in_block : Bool) (ts : List Token) → Right (name_statement h in_block) (StmtL in_block) (Ends h) ts
  unfolding name_statement
  right_named in_block ts =
      right_name (λ n. let c = closes_some (VarE n) in (c.0, c.1, plain_stmt in_block (name_token n ∷ c.0) c.1 (c.2 (name_token n ∷ []) (refl, refl)))) (λ n r.
      right_if (λ e. right_local_rest false (Y.Class n) n.at r (λ m v d c ys l. local_stmt in_block (in_block_first in_block is_name r e) (name_token n ∷ name_token m ∷ token T.Assign d ∷ ys ++ (token T.Semicolon c ∷ [])) (LocalS false (Y.Class n) m v n.at)
      (([], ys, name_token n, d, c, refl, refl, l, refl, refl), refl))) (λ e.
      right_weaker (λ ys s c. plain_stmt in_block (name_token n ∷ ys) s (c (name_token n ∷ []) (refl, refl))) (λ s r k. k) (right_finish_from (VarE n) (omega (arith, some)) r)))

  right_expression_statement : (ts : List Token) → Right (expression_statement h) Plain (Ends h) ts
  unfolding expression_statement
  right_expression_statement ts =
      right_seq (right_primary h some (below h) (below_law h some) ts) closes_some (λ e r q. right_finish_from e q r)

  pub right_plain : (in_block : Bool) (ts : List Token) → Right (plain_statement h in_block) (StmtL in_block) (Ends h) ts
  unfolding plain_statement
  right_plain in_block ts =
      right_if (λ e. right_tok T.Semicolon (λ c. ([], EmptyS c, (refl, λ e. refl))) (λ c r. right_done (refl, λ e. refl) (omega (arith, some), false_ends (EmptyS c) r refl))) (λ e.
      right_if (λ e. right_weaker (plain_stmt in_block) (λ s r k. k) (right_return ts)) (λ e.
      right_if (λ e. right_weaker (plain_stmt in_block) (λ s r k. k) (right_print ts)) (λ e.
      right_if (λ e. right_weaker (plain_stmt in_block) (λ s r k. k) (right_new ts)) (λ e.
      right_if (λ e. right_named in_block ts) (λ e.
      right_if (λ e. right_weaker (local_stmt in_block (in_block_first in_block begins_local ts e)) (λ s r k. k) (right_local ts)) (λ e.
      right_weaker (plain_stmt in_block) (λ s r k. k) (right_expression_statement ts)))))))
