-- What is spelled is read: expressions.
use Rattle.std.proofs.Common.{◌≡◌, ◌≢◌, ℕ, zero, suc, ◌<◌, ◌≤◌, ◌+◌, ◌-◌, ◌==◌, nat_lt, Bool, true, false, List, [], ◌∷◌, ◌++◌, Option, Ok, Err, refl, sym, ◌∙◌, ap, subst, append_assoc, append-nil, arith, is_some}
use Rattle.std.proofs.lemmas.Bool.{eqb-true, ltb-false, eq-eqb, cond-false, cond-true}
use Rattle.lexer.specs.declared.tokens.Token.{Token}
use Rattle.lexer.specs.Limits.{greatest_literal}
use Rattle.syntax.specs.declared.terminal.Terminal.TheVariants as T
use Rattle.syntax.specs.declared.tree.Name.{Name}
use Rattle.syntax.specs.declared.tree.Op.{Op}
use Rattle.syntax.specs.declared.tree.Op.TheVariants as O
use Rattle.syntax.specs.Grammar.{Spells, SpellsArgs, SpellsMoreArgs, loose, level, sign_of, is_postfix}
use Rattle.syntax.specs.Heights.{height, heights}
use Rattle.syntax.specs.Tokens.{is, token, name_token, number_token}
use Rattle.syntax.specs.Trees.{ExprTree, ExprTrees, NumberE, LeastE, TruthE, NullE, ThisE, VarE, ParenE, NotE, NegE, BinaryE, GetE, CallE, NewE, no_exprs, more_exprs}
use Rattle.syntax.specs.Views.{exprs_from}
use Rattle.parser.proofs.Expressions.{Level, op_takes}
use Rattle.parser.proofs.Lists.{shift}
use Rattle.parser.proofs.LoopLaw.{loop_done, loop_more}
use Rattle.parser.proofs.Loops.{below_law, member_more, member_done, chain_positive, argument_takes}
use Rattle.parser.specs.Combine.{Res, ◌>>=◌, starts, first, when, take_one, loop, comma_step}
use Rattle.parser.specs.Words.{may_be_number, is_least, an_op, is_op, field_name}
use Rattle.parser.specs.Expressions.{begins_expression, leaf, arguments, call_arguments, new_rest, parenthesised, primary, member_rest, member_step, dots, postfix, negated, unary, op_step, chain_with, chain_at, below}
use Rattle.parser.proofs.FirstTokens.{Same, same, deep, same_along, same_weaker, same_then, same_bind, same_trans, same_allow, at_list, number_small, expression_begins, no_close, no_least, no_bang, no_minus, height_some, Calm, calm_less, calm_close, calm_comma, sign_calm, sign_first, sign_is}

-- what is proved of each expression

abbrev pub PostfixRead : ExprTree → Type 0
PostfixRead e = is_postfix e ≡ true → (h : ℕ) → 0 < h → (xs f : List Token) → Spells e xs → starts (is T.OpenParen) f ≡ false
    → Same (height e ≤ h) (postfix h (below h) (xs ++ f)) (dots h (below h) e f)

abbrev pub UnaryRead : ExprTree → Type 0
UnaryRead e = loose e ≡ 0 → (h : ℕ) → 0 < h → (xs f : List Token) → Spells e xs → Calm 0 f
    → Same (height e ≤ h) (unary h (below h) (xs ++ f)) (Ok (e, f))

abbrev pub OpReadAt : ℕ → ExprTree → Type 0
OpReadAt k e = (h : ℕ) → 0 < h → (xs f : List Token) → Spells e xs → loose e ≤ suc k → Calm k f
    → Same (height e ≤ h) (chain_with h (below h) (suc k) (xs ++ f)) (loop (is_op (suc k)) (op_step h (below h) k) e f)

pub record Reads (e : ExprTree) : Type 0 where
  pub postfix : PostfixRead e
  pub unary : UnaryRead e
  pub op : (k : ℕ) → k < 6 → OpReadAt k e

-- a postfix is a unary
pub from_postfix : (e : ExprTree) → is_postfix e ≡ true → PostfixRead e → UnaryRead e
unfolding unary dots
from_postfix e p r l h some xs f s c =
    same_along (cond-false (starts (is T.Bang) (xs ++ f)) _ _ (no_bang e xs f s p) ∙ cond-false (starts (is T.Minus) (xs ++ f)) _ _ (no_minus e xs f s p))
    (same_then (r p h some xs f s c.open_paren) (member_done h e f c.dot))

-- a tree climbs from its own level to any higher one
climb : (e : ExprTree) → UnaryRead e → ((k : ℕ) → loose e ≡ suc k → OpReadAt k e) → (k : ℕ) → k < 6 → OpReadAt k e
unfolding chain_with
climb e u own zero small h some xs f s l c =
    elim (loose e == 1) as (λ b. loose e == 1 ≡ b → Same (height e ≤ h) (chain_with h (below h) 1 (xs ++ f)) (loop (is_op 1) (op_step h (below h) 0) e f)) [
      | true ↦ λ i. own 0 (eqb-true (loose e) 1 i) h some xs f s l c
      | false ↦ λ i. let z : loose e ≡ 0 = omega (arith, l, eqb_not (loose e) 1 i) in
          same_bind (loop (is_op 1) (op_step h (below h) 0)) (λ q. q) (λ q. q) (u z h some xs f s c) (same refl)
    ] refl
  where
    eqb_not : (a b : ℕ) → a == b ≡ false → a ≢ b
    eqb_not a b i j = let k = eq-eqb a b j in cc
climb e u own (suc k) small h some xs f s l c =
    elim (loose e == suc (suc k)) as (λ b. loose e == suc (suc k) ≡ b → Same (height e ≤ h) (chain_with h (below h) (suc (suc k)) (xs ++ f)) (loop (is_op (suc (suc k))) (op_step h (below h) (suc k)) e f)) [
      | true ↦ λ i. own (suc k) (eqb-true (loose e) (suc (suc k)) i) h some xs f s l c
      | false ↦ λ i. let z : loose e ≤ suc k = omega (arith, l, eqb_not (loose e) (suc (suc k)) i) in
          let lower = climb e u own k (omega (arith, small)) h some xs f s z (calm_less (suc k) k f (omega arith) c) in
          same_bind (loop (is_op (suc (suc k))) (op_step h (below h) (suc k))) (λ q. q) (λ q. q)
          (same_then lower (loop_done (is_op (suc k)) (op_step h (below h) k) e f (c.ops (suc k) (omega arith)))) (same refl)
    ] refl
  where
    eqb_not : (a b : ℕ) → a == b ≡ false → a ≢ b
    eqb_not a b i j = let k = eq-eqb a b j in cc

-- at any height and level
pub reads_at : (e : ExprTree) → Reads e → (h k : ℕ) → k ≤ 6 → (xs f : List Token) → Level k xs e → Calm k f → Same (height e ≤ h) (chain_at h k (xs ++ f)) (Ok (e, f))
unfolding chain_with chain_at
reads_at e r zero k small xs f l c =
    same_along (cond-true (starts begins_expression (xs ++ f)) _ _ (expression_begins e xs f l.0)) (deep refl (λ q. let p = height_some e in omega (arith, p, q)))
reads_at e r (suc h) zero small xs f l c = same_along (chain_positive (suc h) 0 (omega arith) (xs ++ f)) (r.unary (omega (arith, l.1)) (suc h) (omega arith) xs f l.0 c)
reads_at e r (suc h) (suc k) small xs f l c =
    same_along (chain_positive (suc h) (suc k) (omega arith) (xs ++ f))
    (same_then (r.op k (omega (arith, small)) (suc h) (omega arith) xs f l.0 l.1 (calm_less (suc k) k f (omega arith) c))
    (loop_done (is_op (suc k)) (op_step (suc h) (below (suc h)) k) e f (c.ops (suc k) (omega arith))))

-- a part, read below a node of height h
pub reads_below : (e : ExprTree) → Reads e → (h k : ℕ) → 0 < h → k ≤ 6 → (xs f : List Token) → Level k xs e → Calm k f → Same (height e < h) (below h k (xs ++ f)) (Ok (e, f))
reads_below e r h k some small xs f l c = same_weaker (λ q. omega (arith, q)) (reads_at e r (h - 1) k small xs f l c)

any_level : (e : ExprTree) → loose e ≤ 6
any_level (NumberE n at) = omega arith
any_level (LeastE at) = omega arith
any_level (TruthE b at) = omega arith
any_level (NullE at) = omega arith
any_level (ThisE at) = omega arith
any_level (VarE n) = omega arith
any_level (ParenE e at) = omega arith
any_level (NotE e at) = omega arith
any_level (NegE e at) = omega arith
any_level (BinaryE o e f at) = level_small o
  where
    level_small : (o : Op) → level o ≤ 6
    level_small O.Or = omega arith
    level_small O.And = omega arith
    level_small O.Eq = omega arith
    level_small O.Ne = omega arith
    level_small O.Lt = omega arith
    level_small O.Le = omega arith
    level_small O.Gt = omega arith
    level_small O.Ge = omega arith
    level_small O.Add = omega arith
    level_small O.Sub = omega arith
    level_small O.Mul = omega arith
    level_small O.Div = omega arith
    level_small O.Rem = omega arith
any_level (GetE e n) = omega arith
any_level (CallE e n args) = omega arith
any_level (NewE n args at) = omega arith

-- an expression of any level, below a node of height h
pub reads_any : (e : ExprTree) → Reads e → (h : ℕ) → 0 < h → (xs f : List Token) → Spells e xs → Calm 6 f → Same (height e < h) (below h 6 (xs ++ f)) (Ok (e, f))
reads_any e r h some xs f s c = reads_below e r h 6 some (omega arith) xs f (s, any_level e) c

-- each kind of expression

binary_none : (e : ExprTree) → loose e ≡ 0 → (k : ℕ) → loose e ≡ suc k → OpReadAt k e
binary_none e z k i = absurd (omega (arith, z, i))

-- a postfix of which the reading as a postfix is known
from_read : (e : ExprTree) → is_postfix e ≡ true → loose e ≡ 0 → PostfixRead e → Reads e
from_read e p z r = record { postfix = r; unary = from_postfix e p r; op = climb e (from_postfix e p r) (binary_none e z) }

-- a unary that is no postfix
from_unary : (e : ExprTree) → is_postfix e ≡ false → loose e ≡ 0 → UnaryRead e → Reads e
from_unary e p z u = record { postfix = λ q. cc; unary = u; op = climb e u (binary_none e z) }

number_starts : (n : ℕ) (text : List ℕ) (at : ℕ) → n < greatest_literal → may_be_number (number_token n text at) ≡ true
number_starts n text at h = let g : Bool → Option (ℕ × ℕ) = λ b. when b (n, at) in ap (λ b. is_some (g b)) (number_small n h)

number_leaf : (n : ℕ) (text : List ℕ) (at : ℕ) (f : List Token) → n < greatest_literal → leaf (number_token n text at ∷ f) ≡ Ok (NumberE n at, f)
unfolding leaf
number_leaf n text at f h =
    let x = number_token n text at in
    let g : Bool → Option (ℕ × ℕ) = λ b. when b (n, at) in
    cond-true (may_be_number x) _ _ (number_starts n text at h) ∙ ap (λ b. first (λ x. g b) (x ∷ f) >>= λ n ts. Ok (NumberE n.0 n.1, ts)) (number_small n h)

read_number : (n at : ℕ) → PostfixRead (NumberE n at)
unfolding postfix primary
read_number n at p h some xs f s c =
    let x = number_token n s.0 at in
    at_list (postfix h (below h)) (ap (λ z. z ++ f) s.2) (same (ap (λ r. r >>= dots h (below h)) (number_leaf n s.0 at f s.1)))

read_truth : (b : Bool) (at : ℕ) → PostfixRead (TruthE b at)
unfolding postfix primary leaf
read_truth true at p h some xs f s c = at_list (postfix h (below h)) (ap (λ z. z ++ f) s) (same refl)
read_truth false at p h some xs f s c = at_list (postfix h (below h)) (ap (λ z. z ++ f) s) (same refl)

read_null : (at : ℕ) → PostfixRead (NullE at)
unfolding postfix primary leaf
read_null at p h some xs f s c = at_list (postfix h (below h)) (ap (λ z. z ++ f) s) (same refl)

read_this : (at : ℕ) → PostfixRead (ThisE at)
unfolding postfix primary leaf
read_this at p h some xs f s c = at_list (postfix h (below h)) (ap (λ z. z ++ f) s) (same refl)

read_var : (n : Name) → PostfixRead (VarE n)
unfolding postfix primary leaf
read_var n p h some xs f s c = at_list (postfix h (below h)) (ap (λ z. z ++ f) s) (same refl)

read_paren : (e : ExprTree) (at : ℕ) → Reads e → PostfixRead (ParenE e at)
unfolding postfix primary parenthesised
read_paren e at r p h some xs f s c =
    let close = token T.CloseParen s.1 in
    at_list (postfix h (below h)) (ap (λ z. z ++ f) s.3 ∙ ap (λ z. token T.OpenParen at ∷ z) (append_assoc s.0 (close ∷ []) f))
    (same_bind (dots h (below h)) (λ q. q) (λ q. q)
    (same_bind {low2 = height (ParenE e at) ≤ h} (λ e ts. take_one T.CloseParen ts >>= λ c ts. Ok (ParenE e at, ts)) (λ q. omega (arith, q)) (λ q. q)
    (reads_any e r h some s.0 (close ∷ f) s.2 (calm_close 6 s.1 f)) (same refl))
    (same refl))

-- arguments

pub ArgsRead : ExprTrees → Type 0
ArgsRead es = (h : ℕ) → 0 < h → (ys f : List Token) (c : ℕ) → SpellsArgs es ys
    → Same (heights es < h) (arguments h (below h) (ys ++ (token T.CloseParen c ∷ f)) >>= λ es ts. Ok (exprs_from es, ts)) (Ok (es, token T.CloseParen c ∷ f))

-- further arguments behind those so far
abbrev MoreRead : ExprTrees → Type 0
MoreRead es = (h : ℕ) → 0 < h → (so : List ExprTree) (ys f : List Token) (c : ℕ) → SpellsMoreArgs es ys
    → (more : List ExprTree) × (exprs_from more ≡ es) × Same (heights es < h) (loop (is T.Comma) (comma_step (below h 6)) so (ys ++ (token T.CloseParen c ∷ f))) (Ok (so ++ more, token T.CloseParen c ∷ f))

more_none : MoreRead no_exprs
more_none h some so ys f c s = (
  [],
  refl,
  at_list (loop (is T.Comma) (comma_step (below h 6)) so) (ap (λ z. z ++ (token T.CloseParen c ∷ f)) s)
      (same (loop_done (is T.Comma) (comma_step (below h 6)) so (token T.CloseParen c ∷ f) refl ∙ ap (λ z. Ok (z, token T.CloseParen c ∷ f)) (sym (append-nil so)))),
)

-- what follows an argument is calm
more_calm : (es : ExprTrees) (ys f : List Token) (c : ℕ) → SpellsMoreArgs es ys → Calm 6 (ys ++ (token T.CloseParen c ∷ f))
more_calm no_exprs ys f c s = subst (λ z. Calm 6 (z ++ (token T.CloseParen c ∷ f))) (sym s) (calm_close 6 c f)
more_calm (more_exprs e es) ys f c s = subst (λ z. Calm 6 (z ++ (token T.CloseParen c ∷ f))) (sym s.5) (calm_comma 6 s.2 ((s.0 ++ s.1) ++ (token T.CloseParen c ∷ f)))

more_some : (e : ExprTree) (es : ExprTrees) → Reads e → MoreRead es → MoreRead (more_exprs e es)
more_some e es r m h some so ys f c s =
    let end1 = token T.CloseParen c ∷ f in
    let rest = m h some (so ++ (e ∷ [])) s.1 f c s.4 in
    let go = loop (is T.Comma) (comma_step (below h 6)) in (
      e ∷ rest.0,
      ap (more_exprs e) rest.1,
      at_list (go so) (ap (λ z. z ++ end1) s.5 ∙ ap (λ z. token T.Comma s.2 ∷ z) (append_assoc s.0 s.1 end1))
          (same_along (loop_more (is T.Comma) (comma_step (below h 6)) (argument_takes h some) so (token T.Comma s.2 ∷ s.0 ++ (s.1 ++ end1)) refl)
          (same_then
          (same_bind {low2 = heights es < h} go (λ q. q) (λ q. omega (arith, q))
          (same_bind {low2 = heights (more_exprs e es) < h} (λ x ts. Ok (so ++ (x ∷ []), ts)) (λ q. omega (arith, q)) (λ q. q) (reads_any e r h some s.0 (s.1 ++ end1) s.3 (more_calm es s.1 f c s.4)) (same refl))
          rest.2)
          (ap (λ z. Ok (z, end1)) (shift so e rest.0)))),
    )

args_none : ArgsRead no_exprs
unfolding arguments ArgsRead
args_none h some ys f c s = at_list (λ ts. arguments h (below h) ts >>= λ es ts. Ok (exprs_from es, ts)) (ap (λ z. z ++ (token T.CloseParen c ∷ f)) s) (same refl)

args_some : (e : ExprTree) (es : ExprTrees) → Reads e → MoreRead es → ArgsRead (more_exprs e es)
unfolding arguments ArgsRead
args_some e es r m h some ys f c s =
    let end1 = token T.CloseParen c ∷ f in
    let rest = m h some (e ∷ []) s.1 f c s.3 in
    let p : List Token → Res ExprTrees = λ ts. arguments h (below h) ts >>= λ es ts. Ok (exprs_from es, ts) in
    at_list p (ap (λ z. z ++ end1) s.4 ∙ append_assoc s.0 s.1 end1)
    (same_bind {low2 = heights (more_exprs e es) < h} (λ es ts. Ok (exprs_from es, ts)) (λ q. q) (λ q. q)
    (same_along (cond-false (starts (is T.CloseParen) (s.0 ++ (s.1 ++ end1))) _ _ (no_close e s.0 (s.1 ++ end1) s.2))
    (same_bind {low2 = heights es < h} (λ x ts. loop (is T.Comma) (comma_step (below h 6)) (x ∷ []) ts) (λ q. omega (arith, q)) (λ q. omega (arith, q))
    (reads_any e r h some s.0 (s.1 ++ end1) s.2 (more_calm es s.1 f c s.3)) rest.2))
    (same (ap (λ z. Ok (more_exprs e z, end1)) rest.1)))

-- arguments in parentheses
pub call_read : (es : ExprTrees) → ArgsRead es → (h : ℕ) → 0 < h → (ys f : List Token) (o c : ℕ) → SpellsArgs es ys
    → Same (heights es < h) (call_arguments h (below h) (token T.OpenParen o ∷ ys ++ (token T.CloseParen c ∷ f)) >>= λ es ts. Ok (exprs_from es, ts)) (Ok (es, f))
unfolding call_arguments ArgsRead
call_read es r h some ys f o c s =
    same_along (turn (arguments h (below h) (ys ++ (token T.CloseParen c ∷ f))))
    (same_bind {low2 = heights es < h} (λ x ts. take_one T.CloseParen ts >>= λ c ts. Ok (x, ts)) (λ q. q) (λ q. q) (r h some ys f c s) (same refl))
  where
    close : (es : List ExprTree) (r : Res ℕ) → ((r >>= λ c ts. Ok (es, ts)) >>= λ es ts. Ok (exprs_from es, ts)) ≡ (r >>= λ c ts. Ok (exprs_from es, ts))
    close es (Ok y) = refl
    close es (Err e) = refl

    turn : (r : Res (List ExprTree)) → ((r >>= λ es ts. take_one T.CloseParen ts >>= λ c ts. Ok (es, ts)) >>= λ es ts. Ok (exprs_from es, ts))
        ≡ ((r >>= λ es ts. Ok (exprs_from es, ts)) >>= λ x ts. take_one T.CloseParen ts >>= λ c ts. Ok (x, ts))
    turn (Ok y) = close y.0 (take_one T.CloseParen y.1)
    turn (Err e) = refl

through : {A : Type 0} (g : ExprTrees → A) (r : Res (List ExprTree)) → (r >>= λ es ts. Ok (g (exprs_from es), ts)) ≡ ((r >>= λ es ts. Ok (exprs_from es, ts)) >>= λ x ts. Ok (g x, ts))
through g (Ok y) = refl
through g (Err e) = refl

-- what stands behind `new`
pub new_rest_read : (n : Name) (es : ExprTrees) (at : ℕ) → ArgsRead es → (h : ℕ) → 0 < h → (ys f : List Token) (o c : ℕ) → SpellsArgs es ys
    → Same (height (NewE n es at) ≤ h) (new_rest h (below h) at (name_token n ∷ token T.OpenParen o ∷ ys ++ (token T.CloseParen c ∷ f))) (Ok (NewE n es at, f))
unfolding new_rest
new_rest_read n es at r h some ys f o c s =
    same_along (through (λ z. NewE n z at) (call_arguments h (below h) (token T.OpenParen o ∷ ys ++ (token T.CloseParen c ∷ f))))
    (same_bind {low2 = height (NewE n es at) ≤ h} (λ x ts. Ok (NewE n x at, ts)) (λ q. omega (arith, q)) (λ q. q) (call_read es r h some ys f o c s) (same refl))

read_new : (n : Name) (es : ExprTrees) (at : ℕ) → ArgsRead es → PostfixRead (NewE n es at)
unfolding postfix primary
read_new n es at r p h some xs f s c =
    let close = token T.CloseParen s.2 in
    at_list (postfix h (below h)) (ap (λ z. z ++ f) s.4 ∙ ap (λ z. token T.New at ∷ name_token n ∷ token T.OpenParen s.1 ∷ z) (append_assoc s.0 (close ∷ []) f))
    (same_bind {low2 = height (NewE n es at) ≤ h} (dots h (below h)) (λ q. q) (λ q. q) (new_rest_read n es at r h some s.0 f s.1 s.2 s.3) (same refl))

not_lower : (a h : ℕ) → nat_lt a h ≡ false → 1 + a ≤ h → ⊥
not_lower a h i q = let k : h ≤ a = ltb-false a h i in omega (arith, k, q)

read_get : (e : ExprTree) (n : Name) → Reads e → PostfixRead (GetE e n)
unfolding dots member_step member_rest field_name
read_get e n r p h some xs f s c =
    let t = token T.Dot s.1 ∷ name_token n ∷ f in
    at_list (postfix h (below h)) (ap (λ z. z ++ f) s.4 ∙ append_assoc s.0 (token T.Dot s.1 ∷ name_token n ∷ []) f)
    (same_trans {low2 = height (GetE e n) ≤ h} (λ q. omega (arith, q)) (λ q. q) (r.postfix s.3 h some s.0 t s.2 refl)
    (same_along (member_more h some e t refl)
    (same_bind {low2 = height (GetE e n) ≤ h} (loop (is T.Dot) (member_step h (below h))) (λ q. q) (λ q. q)
    (same_allow (nat_lt (height e) h) t (λ i q. not_lower (height e) h i q) (λ i. same (cond-false (starts (is T.OpenParen) f) _ _ c)))
    (same refl))))

read_call : (e : ExprTree) (n : Name) (es : ExprTrees) → Reads e → ArgsRead es → PostfixRead (CallE e n es)
unfolding dots member_step member_rest field_name
read_call e n es r a p h some xs f s c =
    let close = token T.CloseParen s.4 in
    let u = token T.OpenParen s.3 ∷ s.1 ++ (close ∷ f) in
    let t = token T.Dot s.2 ∷ name_token n ∷ u in
    at_list (postfix h (below h)) (ap (λ z. z ++ f) s.8 ∙ append_assoc s.0 (token T.Dot s.2 ∷ name_token n ∷ token T.OpenParen s.3 ∷ s.1 ++ (close ∷ [])) f
    ∙ ap (λ z. s.0 ++ (token T.Dot s.2 ∷ name_token n ∷ token T.OpenParen s.3 ∷ z)) (append_assoc s.1 (close ∷ []) f))
    (same_trans {low2 = height (CallE e n es) ≤ h} (λ q. omega (arith, q)) (λ q. q) (r.postfix s.6 h some s.0 t s.5 refl)
    (same_along (member_more h some e t refl)
    (same_bind {low2 = height (CallE e n es) ≤ h} (loop (is T.Dot) (member_step h (below h))) (λ q. q) (λ q. q)
    (same_allow (nat_lt (height e) h) t (λ i q. let k : 1 + height e ≤ h = omega (arith, q) in not_lower (height e) h i k)
    (λ i. same_along (through (CallE e n) (call_arguments h (below h) u))
    (same_bind {low2 = height (CallE e n es) ≤ h} (λ x ts. Ok (CallE e n x, ts)) (λ q. omega (arith, q)) (λ q. q) (call_read es a h some s.1 f s.3 s.4 s.7) (same refl))))
    (same refl))))

read_not : (e : ExprTree) (at : ℕ) → Reads e → UnaryRead (NotE e at)
unfolding unary
read_not e at r l h some xs f s c =
    at_list (unary h (below h)) (ap (λ z. z ++ f) s.3)
    (same_bind {low2 = height (NotE e at) ≤ h} (λ e ts. Ok (NotE e at, ts)) (λ q. omega (arith, q)) (λ q. q)
    (reads_below e r h 0 some (omega arith) s.0 f (s.1, omega (arith, s.2)) c) (same refl))

read_neg : (e : ExprTree) (at : ℕ) → Reads e → UnaryRead (NegE e at)
unfolding unary negated
read_neg e at r l h some xs f s c =
    at_list (unary h (below h)) (ap (λ z. z ++ f) s.3)
    (same_along (cond-false (starts is_least (s.0 ++ f)) _ _ (no_least e s.0 f s.1))
    (same_bind {low2 = height (NegE e at) ≤ h} (λ e ts. Ok (NegE e at, ts)) (λ q. omega (arith, q)) (λ q. q)
    (reads_below e r h 0 some (omega arith) s.0 f (s.1, omega (arith, s.2)) c) (same refl)))

read_least : (at : ℕ) → UnaryRead (LeastE at)
unfolding unary negated
read_least at l h some xs f s c = at_list (unary h (below h)) (ap (λ z. z ++ f) s.2) (same refl)

level_some : (o : Op) → 0 < level o
level_some O.Or = omega arith
level_some O.And = omega arith
level_some O.Eq = omega arith
level_some O.Ne = omega arith
level_some O.Lt = omega arith
level_some O.Le = omega arith
level_some O.Gt = omega arith
level_some O.Ge = omega arith
level_some O.Add = omega arith
level_some O.Sub = omega arith
level_some O.Mul = omega arith
level_some O.Div = omega arith
level_some O.Rem = omega arith

read_binary : (o : Op) (e g : ExprTree) (at : ℕ) → Reads e → Reads g → (k : ℕ) → k < 6 → level o ≡ suc k → OpReadAt k (BinaryE o e g at)
unfolding op_step
read_binary o e g at r q k small own h some xs f s l c =
    let sign = token (sign_of o) at in
    let t = sign ∷ s.1 ++ f in
    let go = loop (is_op (suc k)) (op_step h (below h) k) in
    at_list (chain_with h (below h) (suc k)) (ap (λ z. z ++ f) s.6 ∙ append_assoc s.0 (sign ∷ s.1) f)
    (same_trans {low2 = height (BinaryE o e g at) ≤ h} (λ q. omega (arith, q)) (λ q. q)
    (r.op k small h some s.0 t s.2 (omega (arith, s.4, own)) (sign_calm o at k (s.1 ++ f) (omega (arith, own))))
    (same_along (loop_more (is_op (suc k)) (op_step h (below h) k) (op_takes h some (below h) (below_law h some) k small) e t (subst (λ z. starts (is_op z) t ≡ true) own (sign_is o at (s.1 ++ f))))
    (same_bind {low2 = height (BinaryE o e g at) ≤ h} go (λ q. q) (λ q. q)
    (same_allow (nat_lt (height e) h) t (λ i q. let k : 1 + height e ≤ h = omega (arith, q) in not_lower (height e) h i k)
    (λ i. same_along (ap (λ r. r >>= λ o ts. below h k ts >>= λ f ts. Ok (BinaryE o.0 e f o.1, ts)) (subst (λ z. first (an_op z) t ≡ Ok ((o, at), s.1 ++ f)) own (sign_first o at (s.1 ++ f))))
    (same_bind {low2 = height (BinaryE o e g at) ≤ h} (λ f ts. Ok (BinaryE o e f at, ts)) (λ q. omega (arith, q)) (λ q. q)
    (reads_below g q h k some (omega (arith, small)) s.1 f (s.3, omega (arith, s.5, own)) c) (same refl))))
    (same refl))))

reads_binary : (o : Op) (e g : ExprTree) (at : ℕ) → Reads e → Reads g → Reads (BinaryE o e g at)
reads_binary o e g at r q =
    let u : UnaryRead (BinaryE o e g at) = λ z. absurd (let k = level_some o in omega (arith, k, z)) in
    record {
      postfix = λ p. cc;
      unary = u;
      op = λ k small. climb (BinaryE o e g at) u (λ j i. read_binary o e g at r q j (let m = any_level (BinaryE o e g at) in omega (arith, m, i)) i) k small;
    }

mutual
  -- every expression that is spelled is read
  pub reads : (e : ExprTree) → Reads e
  reads (NumberE n at) = from_read (NumberE n at) refl refl (read_number n at)
  reads (LeastE at) = from_unary (LeastE at) refl refl (read_least at)
  reads (TruthE b at) = from_read (TruthE b at) refl refl (read_truth b at)
  reads (NullE at) = from_read (NullE at) refl refl (read_null at)
  reads (ThisE at) = from_read (ThisE at) refl refl (read_this at)
  reads (VarE n) = from_read (VarE n) refl refl (read_var n)
  reads (ParenE e at) = from_read (ParenE e at) refl refl (read_paren e at (reads e))
  reads (NotE e at) = from_unary (NotE e at) refl refl (read_not e at (reads e))
  reads (NegE e at) = from_unary (NegE e at) refl refl (read_neg e at (reads e))
  reads (BinaryE o e f at) = reads_binary o e f at (reads e) (reads f)
  reads (GetE e n) = from_read (GetE e n) refl refl (read_get e n (reads e))
  reads (CallE e n args) = from_read (CallE e n args) refl refl (read_call e n args (reads e) (reads_args args))
  reads (NewE n args at) = from_read (NewE n args at) refl refl (read_new n args at (reads_args args))

  pub reads_args : (es : ExprTrees) → ArgsRead es
  reads_args no_exprs = args_none
  reads_args (more_exprs e es) = args_some e es (reads e) (reads_more es)

  reads_more : (es : ExprTrees) → MoreRead es
  reads_more no_exprs = more_none
  reads_more (more_exprs e es) = more_some e es (reads e) (reads_more es)
