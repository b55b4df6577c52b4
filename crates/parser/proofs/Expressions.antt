-- Expressions are read right.
use Rattle.std.proofs.Common.{◌≡◌, ℕ, zero, suc, ◌<◌, ◌≤◌, ◌||◌, nat_lt, Bool, true, false, List, [], ◌∷◌, ◌++◌, length, Option, Some, None, refl, sym, ◌∙◌, ap, subst, append_assoc, append-nil, arith, length-append, is_some}
use Rattle.std.proofs.lemmas.Bool.{ltb-true}
use Rattle.lexer.specs.declared.tokens.Token.{Token}
use Rattle.syntax.specs.declared.terminal.Terminal.TheVariants as T
use Rattle.syntax.specs.declared.tree.Name.{Name}
use Rattle.syntax.specs.declared.tree.Op.{Op}
use Rattle.syntax.specs.Grammar.{Spells, SpellsArgs, SpellsMoreArgs, loose, is_postfix}
use Rattle.syntax.specs.Heights.{height, heights}
use Rattle.syntax.specs.Tokens.{is, token, name_token}
use Rattle.syntax.specs.Trees.{ExprTree, NumberE, LeastE, TruthE, NullE, ThisE, VarE, ParenE, NotE, NegE, BinaryE, GetE, CallE, NewE, no_exprs}
use Rattle.syntax.specs.Views.{exprs_from}
use Rattle.parser.proofs.Right.{Right, right_seq, right_weaker}
use Rattle.parser.proofs.Parts.{Through_next, right_one, right_tok, right_name, right_done, right_if, right_allow, right_beyond, x_name, is_token, name_if_is}
use Rattle.parser.proofs.LoopLaw.{right_loop, loop_takes, Takes}
use Rattle.parser.proofs.Lists.{right_separated}
use Rattle.parser.specs.Combine.{Res, starts}
use Rattle.parser.specs.Words.{a_name, is_name, a_number, may_be_number, op_of, an_op, is_op}
use Rattle.parser.specs.Expressions.{is_leaf, begins_expression, leaf, arguments, call_arguments, new_rest, parenthesised, primary, member_rest, member_step, dots, postfix, negated, unary, op_step, chain_with, chain_at}
use Rattle.parser.proofs.TokenLaws.{number_is, right_number, right_least, OpToken, op_token, right_op, right_field}

-- what stands at a level
abbrev pub Level : ℕ → List Token → ExprTree → Type 0
Level k zs e = Spells e zs × (loose e ≤ k)

abbrev pub Postfix : List Token → ExprTree → Type 0
Postfix zs e = Spells e zs × (is_postfix e ≡ true)

pub x_is : Level 6 (name_token x_name ∷ []) (VarE x_name)
x_is = (refl, omega arith)

-- no part is empty
pub append_left : (xs : List Token) (y : Token) (ys : List Token) → 0 < length (xs ++ (y ∷ ys))
append_left xs y ys = omega (arith, length-append xs (y ∷ ys))

pub along_length : (zs ts : List Token) → zs ≡ ts → 0 < length ts → 0 < length zs
along_length zs ts e h = subst (λ z. 0 < length z) (sym e) h

pub spelled_long : (e : ExprTree) (zs : List Token) → Spells e zs → 0 < length zs
spelled_long (NumberE n at) zs s = along_length zs _ s.2 (omega arith)
spelled_long (LeastE at) zs s = along_length zs _ s.2 (omega arith)
spelled_long (TruthE true at) zs s = along_length zs _ s (omega arith)
spelled_long (TruthE false at) zs s = along_length zs _ s (omega arith)
spelled_long (NullE at) zs s = along_length zs _ s (omega arith)
spelled_long (ThisE at) zs s = along_length zs _ s (omega arith)
spelled_long (VarE n) zs s = along_length zs _ s (omega arith)
spelled_long (ParenE e at) zs s = along_length zs _ s.3 (omega arith)
spelled_long (NotE e at) zs s = along_length zs _ s.3 (omega arith)
spelled_long (NegE e at) zs s = along_length zs _ s.3 (omega arith)
spelled_long (BinaryE o e f at) zs s = along_length zs _ s.6 (append_left s.0 _ _)
spelled_long (GetE e n) zs s = along_length zs _ s.4 (append_left s.0 _ _)
spelled_long (CallE e n args) zs s = along_length zs _ s.8 (append_left s.0 _ _)
spelled_long (NewE n args at) zs s = along_length zs _ s.4 (omega arith)

-- the first tokens of expressions

pub or_else : {P : Type 0} (a b : Bool) → (a ≡ true → P) → (b ≡ true → P) → a || b ≡ true → P
or_else true b f g h = f refl
or_else false b f g h = g h

pub is_some_cases : {A : Type 0} {P : Type 0} (o : Option A) → is_some o ≡ true → ((a : A) → o ≡ Some a → P) → P
is_some_cases (Some a) h f = f a refl
is_some_cases None h f = cc

-- a completion that goes through a token
abbrev pub Completes : Token → Type 0
Completes x = (more : List Token) × (e : ExprTree) × Spells e (x ∷ more) × (loose e ≡ 0) × (is_postfix e ≡ true)

abbrev pub CompletesAny : Token → Type 0
CompletesAny x = (more : List Token) × (e : ExprTree) × Spells e (x ∷ more) × (loose e ≡ 0)

pub leaf_some : (x : Token) → is_leaf x ≡ true → Completes x
leaf_some x h =
    or_else (may_be_number x || is T.True x || is T.False x || is T.Null x || is T.This x) (is_name x) (λ h.
    or_else (may_be_number x || is T.True x || is T.False x || is T.Null x) (is T.This x) (λ h.
    or_else (may_be_number x || is T.True x || is T.False x) (is T.Null x) (λ h.
    or_else (may_be_number x || is T.True x) (is T.False x) (λ h.
    or_else (may_be_number x) (is T.True x) (λ h.
    is_some_cases (a_number x) h (λ n e. let k = number_is x.kind x.text x.at n e in
    ([], NumberE n.0 n.1, (k.0, k.1, ap (λ z. z ∷ []) k.2), refl, refl)))
    (λ e. ([], TruthE true x.at, ap (λ z. z ∷ []) (is_token T.True x e), refl, refl)) h)
    (λ e. ([], TruthE false x.at, ap (λ z. z ∷ []) (is_token T.False x e), refl, refl)) h)
    (λ e. ([], NullE x.at, ap (λ z. z ∷ []) (is_token T.Null x e), refl, refl)) h)
    (λ e. ([], ThisE x.at, ap (λ z. z ∷ []) (is_token T.This x e), refl, refl)) h)
    (λ h. is_some_cases (a_name x) h (λ n e. ([], VarE n, ap (λ z. z ∷ []) (name_if_is x.kind x.text x.at n e), refl, refl))) h

pub paren_some : (x : Token) → is T.OpenParen x ≡ true → Completes x
paren_some x e = (
  name_token x_name ∷ token T.CloseParen 0 ∷ [],
  ParenE (VarE x_name) x.at,
  (name_token x_name ∷ [], 0, refl, ap (λ z. z ∷ name_token x_name ∷ token T.CloseParen 0 ∷ []) (is_token T.OpenParen x e)),
  refl,
  refl,
)

pub new_some : (x : Token) → is T.New x ≡ true → Completes x
new_some x e = (
  name_token x_name ∷ token T.OpenParen 0 ∷ token T.CloseParen 0 ∷ [],
  NewE x_name no_exprs x.at,
  ([], 0, 0, refl, ap (λ z. z ∷ name_token x_name ∷ token T.OpenParen 0 ∷ token T.CloseParen 0 ∷ []) (is_token T.New x e)),
  refl,
  refl,
)

drop_postfix : (x : Token) → Completes x → CompletesAny x
drop_postfix x c = (c.0, c.1, c.2, c.3)

pub expression_some : (x : Token) → begins_expression x ≡ true → CompletesAny x
unfolding begins_expression
expression_some x h =
    or_else (is T.OpenParen x || is T.New x || is T.Bang x || is T.Minus x) (is_leaf x) (λ h.
    or_else (is T.OpenParen x || is T.New x || is T.Bang x) (is T.Minus x) (λ h.
    or_else (is T.OpenParen x || is T.New x) (is T.Bang x) (λ h.
    or_else (is T.OpenParen x) (is T.New x) (λ h. drop_postfix x (paren_some x h)) (λ h. drop_postfix x (new_some x h)) h)
    (λ e. (name_token x_name ∷ [], NotE (VarE x_name) x.at, (name_token x_name ∷ [], refl, refl, ap (λ z. z ∷ name_token x_name ∷ []) (is_token T.Bang x e)), refl)) h)
    (λ e. (name_token x_name ∷ [], NegE (VarE x_name) x.at, (name_token x_name ∷ [], refl, refl, ap (λ z. z ∷ name_token x_name ∷ []) (is_token T.Minus x e)), refl)) h)
    (λ h. drop_postfix x (leaf_some x h)) h

-- leaves

pub right_leaf : (ts : List Token) → Right leaf Postfix (λ e r. height e ≡ 1) ts
unfolding leaf
right_leaf ts =
    right_if (λ h. right_one (right_number ts) (λ n. ([], NumberE n.0 n.1, λ x c. ((c.0, c.1, ap (λ z. z ∷ []) c.2), refl)))
    (λ n r. right_done (λ x c. ((c.0, c.1, ap (λ z. z ∷ []) c.2), refl)) refl)) (λ h.
    right_if (λ h. right_tok T.True (λ d. ([], TruthE true d, (refl, refl))) (λ d r. right_done (refl, refl) refl)) (λ h.
    right_if (λ h. right_tok T.False (λ d. ([], TruthE false d, (refl, refl))) (λ d r. right_done (refl, refl) refl)) (λ h.
    right_if (λ h. right_tok T.Null (λ d. ([], NullE d, (refl, refl))) (λ d r. right_done (refl, refl) refl)) (λ h.
    right_if (λ h. right_tok T.This (λ d. ([], ThisE d, (refl, refl))) (λ d r. right_done (refl, refl) refl)) (λ h.
    right_name (λ n. ([], VarE n, (refl, refl))) (λ n r. right_done (refl, refl) refl))))))

-- the laws of what stands at height h, where the parts stand below it

abbrev pub Below : ℕ → (ℕ → List Token → Res ExprTree) → Type 0
Below h inner = (k : ℕ) → k ≤ 6 → (ts : List Token) → Right (inner k) (Level k) (λ e r. height e < h) ts

abbrev pub All_below : ℕ → List ExprTree → Type 0
All_below h es = heights (exprs_from es) < h

pub more_below : (h : ℕ) (so : List ExprTree) (e : ExprTree) (r : List Token) → height e < h → All_below h so → All_below h (so ++ (e ∷ []))
more_below h [] e r a b = omega (arith, a, b)
more_below h (x ∷ so) e r a b = let k : heights (exprs_from so) < h = omega (arith, b) in let i = more_below h so e r a k in omega (arith, b, i)

pub level_long : (zs : List Token) (e : ExprTree) → Level 6 zs e → 0 < length zs
level_long zs e l = spelled_long e zs l.0

module _ (h : ℕ) (some : 0 < h) (inner : ℕ → List Token → Res ExprTree) (law : Below h inner) where
  pub right_arguments : (ts : List Token) → Right (arguments h inner) (λ zs es. SpellsArgs (exprs_from es) zs) (λ es r. All_below h es) ts
  unfolding arguments
  right_arguments ts =
      right_if (λ e. right_done refl some)
      (λ e. right_separated (inner 6) (Level 6) (λ e r. height e < h) (name_token x_name ∷ [], VarE x_name, x_is) level_long (All_below h) (more_below h)
      (law 6 (omega arith)) (λ es ys. SpellsMoreArgs (exprs_from es) ys) refl (λ a rest d xs ys p q. (xs, ys, d, p.0, q, refl))
      (λ es zs. SpellsArgs (exprs_from es) zs) (λ a rest xs ys p q. (xs, ys, p.0, q, refl)) some ts)

  abbrev pub CallArgs : List Token → List ExprTree → Type 0
  CallArgs zs es = (o c : ℕ) × (ys : List Token) × SpellsArgs (exprs_from es) ys × (zs ≡ token T.OpenParen o ∷ ys ++ (token T.CloseParen c ∷ []))

  pub right_call_arguments : (ts : List Token) → Right (call_arguments h inner) CallArgs (λ es r. All_below h es) ts
  unfolding call_arguments
  right_call_arguments ts =
      right_tok T.OpenParen (λ o. (token T.CloseParen 0 ∷ [], [], (o, 0, [], refl, refl))) (λ o r.
      right_seq (right_arguments r) (λ es. (token T.CloseParen 0 ∷ [], es, λ ys a. (o, 0, ys, a, refl))) (λ es r q.
      right_tok T.CloseParen (λ c. ([], es, λ ys a. (o, c, ys, a, refl))) (λ c r. right_done (λ ys a. (o, c, ys, a, refl)) q)))

  new_is : (n : Name) (es : List ExprTree) (at : ℕ) (xs : List Token) → CallArgs xs es → Postfix (token T.New at ∷ name_token n ∷ xs ++ []) (NewE n (exprs_from es) at)
  new_is n es at xs a = ((a.2, a.0, a.1, a.3, ap (λ z. token T.New at ∷ name_token n ∷ z) (append-nil xs ∙ a.4)), refl)

  -- what stands behind `new`
  pub right_new_rest : (at : ℕ) (ts : List Token) → Right (new_rest h inner at) (λ ys e. Postfix (token T.New at ∷ ys) e) (λ e r. height e ≤ h) ts
  unfolding new_rest
  right_new_rest at ts =
      right_name (λ n. (token T.OpenParen 0 ∷ token T.CloseParen 0 ∷ [], NewE n no_exprs at, (([], 0, 0, refl, refl), refl))) (λ n r.
      right_seq (right_call_arguments r) (λ es. ([], NewE n (exprs_from es) at, λ xs a. new_is n es at xs a)) (λ es r q.
      right_done (λ xs a. new_is n es at xs a) (omega (arith, q))))

  pub right_parenthesised : (ts : List Token) → Right (parenthesised h inner) Postfix (λ e r. height e ≤ h) ts
  unfolding parenthesised
  right_parenthesised ts =
      right_tok T.OpenParen (λ o. (name_token x_name ∷ token T.CloseParen 0 ∷ [], ParenE (VarE x_name) o, ((name_token x_name ∷ [], 0, refl, refl), refl))) (λ o r.
      right_seq (law 6 (omega arith) r) (λ e. (token T.CloseParen 0 ∷ [], ParenE e o, λ xs l. ((xs, 0, l.0, refl), refl))) (λ e r q.
      right_tok T.CloseParen (λ c. ([], ParenE e o, λ xs l. ((xs, c, l.0, refl), refl))) (λ c r.
      right_done (λ xs l. ((xs, c, l.0, refl), refl)) (omega (arith, q)))))

  pub right_primary : (ts : List Token) → Right (primary h inner) Postfix (λ e r. height e ≤ h) ts
  unfolding primary
  right_primary ts =
      right_if (λ e. right_parenthesised ts) (λ e.
      right_if (λ e. right_tok T.New (λ d. let c = new_some (token T.New d) refl in (c.0, c.1, (c.2, c.4))) (λ d r. right_new_rest d r)) (λ e.
      right_weaker (λ zs b l. l) (λ b r q. omega (arith, q)) (right_leaf ts)))

  -- what a dot and a name with the rest add to a receiver
  abbrev pub Adds : ExprTree → List Token → ExprTree → Type 0
  Adds e ys b = (xs : List Token) → Postfix xs e → Postfix (xs ++ ys) b

  get_adds : (e : ExprTree) (n : Name) (d : ℕ) → Adds e (token T.Dot d ∷ name_token n ∷ []) (GetE e n)
  get_adds e n d xs l = ((xs, d, l.0, l.1, refl), refl)

  call_adds : (e : ExprTree) (n : Name) (es : List ExprTree) (d : ℕ) (zs : List Token) → CallArgs zs es
      → Adds e (token T.Dot d ∷ name_token n ∷ zs ++ []) (CallE e n (exprs_from es))
  call_adds e n es d zs a xs l =
      ((xs, a.2, d, a.0, a.1, l.0, l.1, a.3, ap (λ z. xs ++ (token T.Dot d ∷ name_token n ∷ z)) (append-nil zs ∙ a.4)), refl)

  pub right_member_rest : (e : ExprTree) (n : Name) → height e < h → (ts : List Token)
      → Right (member_rest h inner e n) (λ ys b. (d : ℕ) → Adds e (token T.Dot d ∷ name_token n ∷ ys) b) (λ b r. height b ≤ h) ts
  unfolding member_rest
  right_member_rest e n low ts =
      right_if (λ i. right_seq (right_call_arguments ts) (λ es. ([], CallE e n (exprs_from es), λ zs a d. call_adds e n es d zs a))
      (λ es r q. right_done (λ zs a d. call_adds e n es d zs a) (omega (arith, q, low))))
      (λ i. right_done (λ d. get_adds e n d) (omega (arith, low)))

  abbrev pub Step : ExprTree → List Token → ExprTree → Type 0
  Step e ys b = Adds e ys b × (0 < length ys)

  pub right_member_step : (e : ExprTree) (x : Token) (xs : List Token) → is T.Dot x ≡ true
      → Right (member_step h inner e) (Step e) (λ b r. height e ≤ h → height b ≤ h) (x ∷ xs)
  unfolding member_step
  right_member_step e x xs g =
      right_allow (nat_lt (height e) h)
      (x ∷ name_token x_name ∷ [], GetE e x_name, (λ ys l. ((ys, x.at, l.0, l.1, ap (λ z. ys ++ (z ∷ name_token x_name ∷ [])) (is_token T.Dot x g)), refl), omega arith), refl)
      (λ low. right_field (λ n. ([], GetE e n, λ d. (get_adds e n d, omega arith)))
      (λ n r. right_weaker (λ zs b m d. (m d, omega arith)) (λ b r q k. q) (right_member_rest e n (ltb-true (height e) h low) r)))

  nil_adds : (e : ExprTree) → Adds e [] e
  nil_adds e xs l = subst (λ z. Postfix z e) (sym (append-nil xs)) l

  cons_adds : (a b c : ExprTree) (xs ys : List Token) → Step a xs b → Adds b ys c → Adds a (xs ++ ys) c
  cons_adds a b c xs ys s m zs l = subst (λ z. Postfix z c) (append_assoc zs xs ys) (m (zs ++ xs) (s.0 zs l))

  pub member_takes : Takes (is T.Dot) (member_step h inner)
  member_takes = loop_takes (is T.Dot) (member_step h inner) Step Adds (λ e. height e ≤ h) right_member_step (λ e zs b s. s.1) nil_adds cons_adds

  pub right_dots : (e : ExprTree) (ts : List Token) → Right (dots h inner e) (Adds e) (λ b r. (height e ≤ h → height b ≤ h) × (starts (is T.Dot) r ≡ false)) ts
  unfolding dots
  right_dots e ts = right_loop (is T.Dot) (member_step h inner) Step Adds (λ e. height e ≤ h) right_member_step (λ e zs b s. s.1) nil_adds cons_adds e ts

  pub right_postfix : (ts : List Token) → Right (postfix h inner) Postfix (λ e r. height e ≤ h) ts
  unfolding postfix
  right_postfix ts =
      right_seq (right_primary ts) (λ e. ([], e, nil_adds e)) (λ e r q.
      right_weaker (λ zs b m. m) (λ b r k. k.0 q) (right_dots e r))

  pub right_negated : (at : ℕ) (ts : List Token) → Right (negated h inner at) (λ ys e. Level 0 (token T.Minus at ∷ ys) e) (λ e r. height e ≤ h) ts
  unfolding negated
  right_negated at ts =
      right_if (λ e. right_one (right_least ts) (λ d. ([], LeastE at, λ x c. ((c.0, d, ap (λ z. token T.Minus at ∷ z ∷ []) c.1), omega arith)))
      (λ d r. right_done (λ x c. ((c.0, d, ap (λ z. token T.Minus at ∷ z ∷ []) c.1), omega arith)) (omega (arith, some))))
      (λ e. right_seq (law 0 (omega arith) ts) (λ e. ([], NegE e at, λ xs l. (neg_is e at xs l, omega arith)))
      (λ e r q. right_done (λ xs l. (neg_is e at xs l, omega arith)) (omega (arith, q))))
    where
      neg_is : (e : ExprTree) (at : ℕ) (xs : List Token) → Level 0 xs e → Spells (NegE e at) (token T.Minus at ∷ xs ++ [])
      neg_is e at xs l = (xs, l.0, omega (arith, l.1), ap (λ z. token T.Minus at ∷ z) (append-nil xs))

  not_is : (e : ExprTree) (at : ℕ) (xs : List Token) → Level 0 xs e → Spells (NotE e at) (token T.Bang at ∷ xs ++ [])
  not_is e at xs l = (xs, l.0, omega (arith, l.1), ap (λ z. token T.Bang at ∷ z) (append-nil xs))

  postfix_level : (e : ExprTree) → is_postfix e ≡ true → loose e ≤ 0
  postfix_level (NumberE n at) p = omega arith
  postfix_level (LeastE at) p = omega arith
  postfix_level (TruthE b at) p = omega arith
  postfix_level (NullE at) p = omega arith
  postfix_level (ThisE at) p = omega arith
  postfix_level (VarE n) p = omega arith
  postfix_level (ParenE e at) p = omega arith
  postfix_level (NotE e at) p = omega arith
  postfix_level (NegE e at) p = omega arith
  postfix_level (BinaryE o e f at) p = cc
  postfix_level (GetE e n) p = omega arith
  postfix_level (CallE e n args) p = omega arith
  postfix_level (NewE n args at) p = omega arith

  pub right_unary : (ts : List Token) → Right (unary h inner) (Level 0) (λ e r. height e ≤ h) ts
  unfolding unary
  right_unary ts =
      right_if (λ e. right_tok T.Bang (λ d. (name_token x_name ∷ [], NotE (VarE x_name) d, ((name_token x_name ∷ [], refl, refl, refl), omega arith))) (λ d r.
      right_seq (law 0 (omega arith) r) (λ e. ([], NotE e d, λ xs l. (not_is e d xs l, omega arith)))
      (λ e r q. right_done (λ xs l. (not_is e d xs l, omega arith)) (omega (arith, q))))) (λ e.
      right_if (λ e. right_tok T.Minus (λ d. (name_token x_name ∷ [], NegE (VarE x_name) d, ((name_token x_name ∷ [], refl, refl, refl), omega arith))) (λ d r. right_negated d r)) (λ e.
      right_weaker (λ zs b l. (l.0, postfix_level b l.1)) (λ b r q. q) (right_postfix ts)))

  -- what an operator and its right operand add
  abbrev pub Operates : ℕ → ExprTree → List Token → ExprTree → Type 0
  Operates k e ys b = (xs : List Token) → Level (suc k) xs e → Level (suc k) (xs ++ ys) b

  abbrev pub OpStep : ℕ → ExprTree → List Token → ExprTree → Type 0
  OpStep k e ys b = Operates k e ys b × (0 < length ys)

  binary_is : (k : ℕ) (e f : ExprTree) (o : Op × ℕ) (x : Token) (ys : List Token) → OpToken (suc k) x o → Level k ys f
      → OpStep k e (x ∷ ys ++ []) (BinaryE o.0 e f o.1)
  binary_is k e f o x ys t l = (
    λ xs m. (
      (
        xs,
        ys,
        m.0,
        l.0,
        omega (arith, m.1, t.0),
        omega (arith, l.1, t.0),
        ap (λ z. xs ++ (x ∷ z)) (append-nil ys) ∙ ap (λ z. xs ++ (z ∷ ys)) t.1,
      ),
      omega (arith, t.0),
    ),
    omega arith,
  )

  op_through : (k : ℕ) (e : ExprTree) (x : Token) (p : Option (Op × ℕ)) → an_op (suc k) x ≡ p → is_some p ≡ true
      → (more : List Token) × (b : ExprTree) × OpStep k e (x ∷ more) b
  op_through k e x (Some o) is g = (
    name_token x_name ∷ [],
    BinaryE o.0 e (VarE x_name) o.1,
    binary_is k e (VarE x_name) o x (name_token x_name ∷ []) (op_token (suc k) x (op_of x) o refl is) (refl, omega arith),
  )
  op_through k e x None is g = cc

  pub right_op_step : (k : ℕ) → k < 6 → (e : ExprTree) (x : Token) (xs : List Token) → is_op (suc k) x ≡ true
      → Right (op_step h inner k e) (OpStep k e) (λ b r. height e ≤ h → height b ≤ h) (x ∷ xs)
  unfolding op_step
  right_op_step k small e x xs g =
      let t = op_through k e x (an_op (suc k) x) refl g in
      right_allow (nat_lt (height e) h) (x ∷ t.0, t.1, t.2, refl)
      (λ low. right_one (right_op k small (x ∷ xs))
      (λ o. (name_token x_name ∷ [], BinaryE o.0 e (VarE x_name) o.1, λ x t. binary_is k e (VarE x_name) o x (name_token x_name ∷ []) t (refl, omega arith)))
      (λ o r. right_seq (law k (omega (arith, small)) r) (λ f. ([], BinaryE o.0 e f o.1, λ ys l x t. binary_is k e f o x ys t l))
      (λ f r q. right_done (λ ys l x t. binary_is k e f o x ys t l) (λ _. let a = ltb-true (height e) h low in omega (arith, q, a)))))

  nil_operates : (k : ℕ) (e : ExprTree) → Operates k e [] e
  nil_operates k e xs l = subst (λ z. Level (suc k) z e) (sym (append-nil xs)) l

  cons_operates : (k : ℕ) (a b c : ExprTree) (xs ys : List Token) → OpStep k a xs b → Operates k b ys c → Operates k a (xs ++ ys) c
  cons_operates k a b c xs ys s m zs l = subst (λ z. Level (suc k) z c) (append_assoc zs xs ys) (m (zs ++ xs) (s.0 zs l))

  pub op_takes : (k : ℕ) → k < 6 → Takes (is_op (suc k)) (op_step h inner k)
  op_takes k small = loop_takes (is_op (suc k)) (op_step h inner k) (OpStep k) (Operates k) (λ e. height e ≤ h) (right_op_step k small) (λ e zs b s. s.1) (nil_operates k) (cons_operates k)

  pub right_chain : (k : ℕ) → k ≤ 6 → (ts : List Token) → Right (chain_with h inner k) (Level k) (λ e r. height e ≤ h) ts
  unfolding chain_with
  right_chain zero small ts = right_unary ts
  right_chain (suc k) small ts =
      let low : k < 6 = omega (arith, small) in
      right_seq (right_chain k (omega (arith, small)) ts) (λ e. ([], e, λ xs l. nil_operates k e xs (l.0, omega (arith, l.1)))) (λ e r q.
      right_weaker (λ zs b m xs l. m xs (l.0, omega (arith, l.1))) (λ b r j. j.0 q)
      (right_loop (is_op (suc k)) (op_step h inner k) (OpStep k) (Operates k) (λ e. height e ≤ h) (right_op_step k low) (λ e zs b s. s.1) (nil_operates k) (cons_operates k) e r))

pub right_chain_at : (h : ℕ) (k : ℕ) → k ≤ 6 → (ts : List Token) → Right (chain_at h k) (Level k) (λ e r. height e ≤ h) ts
unfolding chain_at
right_chain_at zero k small ts = right_beyond (through ts) (name_token x_name ∷ [], VarE x_name, (refl, omega arith))
  where
    through : (ts : List Token) → starts begins_expression ts ≡ true → Through_next (Level k) ts
    through [] e = cc
    through (x ∷ xs) e = let c = expression_some x e in (x ∷ c.0, c.1, (c.2, omega (arith, c.3)), refl)
right_chain_at (suc h) k small ts =
    right_chain (suc h) (omega arith) (chain_at h) (λ k s ts. right_weaker (λ zs b l. l) (λ b r q. omega (arith, q)) (right_chain_at h k s ts)) k small ts
