-- One turn of each loop, and its end, as the functions of the parser use them.
use Rattle.std.proofs.Common.{◌≡◌, ℕ, zero, suc, ◌<◌, ◌≤◌, ◌+◌, ◌-◌, true, false, List, [], ◌∷◌, ◌++◌, map, max, length, length-append, Option, Some, None, Ok, Err, is_some, ◌∙◌, refl, sym, ap, subst, arith}
use Rattle.lexer.specs.declared.tokens.Token.{Token}
use Rattle.syntax.specs.Heights.{height, heights}
use Rattle.syntax.specs.Views.{expr_tree, exprs_from}
use Rattle.syntax.specs.declared.tree.Expr.{Expr}
use Rattle.syntax.specs.declared.tree.Op.{Op}
use Rattle.syntax.specs.Trees.{ExprTree, VarE}
use Rattle.syntax.specs.Tokens.{is, name_token}
use Rattle.syntax.specs.declared.terminal.Terminal.{Terminal}
use Rattle.syntax.specs.declared.terminal.Terminal.TheVariants as T
use Rattle.parser.proofs.Expressions.{Below, Level, x_is, right_chain_at, member_takes, op_takes, level_long, spelled_long, All_below, more_below}
use Rattle.parser.proofs.LoopLaw.{loop_done, loop_more, Takes}
use Rattle.parser.proofs.Lists.{separated_takes}
use Rattle.parser.proofs.Parts.{x_name}
use Rattle.parser.proofs.Right.{RightAt, right_weaker}
use Rattle.parser.specs.Combine.{Res, ◌>>=◌, starts, loop, beyond, comma_step, got, first, take_one, at_of}
use Rattle.parser.specs.Words.{is_op, is_any_op, op_of, op_at}
use Rattle.parser.specs.Expressions.{op_step, member_step, chain_with, chain_at, levels_from, below, unary, begins_expression}

pub below_law : (h : ℕ) → 0 < h → Below h (below h)
below_law h some k small ts = right_weaker (λ zs b l. l) (λ b r q. omega (arith, q, some)) (right_chain_at (h - 1) k small ts)

pub member_more : (h : ℕ) → 0 < h → (e : ExprTree) (ts : List Token) → starts (is T.Dot) ts ≡ true
    → loop (is T.Dot) (member_step h (below h)) e ts ≡ (member_step h (below h) e ts >>= loop (is T.Dot) (member_step h (below h)))
member_more h some e ts g = loop_more (is T.Dot) (member_step h (below h)) (member_takes h some (below h) (below_law h some)) e ts g

pub member_done : (h : ℕ) (e : ExprTree) (ts : List Token) → starts (is T.Dot) ts ≡ false → loop (is T.Dot) (member_step h (below h)) e ts ≡ Ok (e, ts)
member_done h e ts g = loop_done (is T.Dot) (member_step h (below h)) e ts g

pub operation_more : (h : ℕ) → 0 < h → (k : ℕ) → 0 < k → k ≤ 6 → (e : ExprTree) (ts : List Token) → starts (is_op k) ts ≡ true
    → loop (is_op k) (op_step h (below h) (k - 1)) e ts ≡ (op_step h (below h) (k - 1) e ts >>= loop (is_op k) (op_step h (below h) (k - 1)))
operation_more h some zero pos small e ts g = absurd (omega (arith, pos))
operation_more h some (suc k) pos small e ts g =
    let same : suc k - 1 ≡ k = omega arith in
    subst (λ z. loop (is_op (suc k)) (op_step h (below h) z) e ts ≡ (op_step h (below h) z e ts >>= loop (is_op (suc k)) (op_step h (below h) z))) (sym same)
    (loop_more (is_op (suc k)) (op_step h (below h) k) (op_takes h some (below h) (below_law h some) k (omega (arith, small))) e ts g)

pub operation_done : (h k : ℕ) (e : ExprTree) (ts : List Token) → starts (is_op k) ts ≡ false → loop (is_op k) (op_step h (below h) (k - 1)) e ts ≡ Ok (e, ts)
operation_done h k e ts g = loop_done (is_op k) (op_step h (below h) (k - 1)) e ts g

pub levels_done : (h : ℕ) (inner : ℕ → List Token → Res ExprTree) (n k : ℕ) → (k < n → ⊥) → (e : ExprTree) (ts : List Token)
    → levels_from h inner (n - k) k e ts ≡ Ok (e, ts)
unfolding levels_from
levels_done h inner n k end e ts =
    let none : n - k ≡ 0 = omega (arith, end) in
    subst (λ z. levels_from h inner z k e ts ≡ Ok (e, ts)) (sym none) refl

pub levels_more : (h : ℕ) (inner : ℕ → List Token → Res ExprTree) (n k : ℕ) → k < n → (e : ExprTree) (ts : List Token)
    → levels_from h inner (n - k) k e ts ≡ (loop (is_op (k + 1)) (op_step h inner (k + 1 - 1)) e ts >>= levels_from h inner (n - (k + 1)) (k + 1))
unfolding levels_from
levels_more h inner n k some e ts =
    let more : n - k ≡ suc (n - (k + 1)) = omega (arith, some) in
    let next : k + 1 ≡ suc k = omega arith in
    let last : k + 1 - 1 ≡ k = omega arith in
    subst (λ z. levels_from h inner z k e ts ≡ (loop (is_op (k + 1)) (op_step h inner (k + 1 - 1)) e ts >>= levels_from h inner (n - (k + 1)) (k + 1))) (sym more)
    (subst (λ z. levels_from h inner (suc (n - (k + 1))) k e ts ≡ (loop (is_op (k + 1)) (op_step h inner z) e ts >>= levels_from h inner (n - (k + 1)) (k + 1))) (sym last)
    (subst (λ z. levels_from h inner (suc (n - (k + 1))) k e ts ≡ (loop (is_op z) (op_step h inner k) e ts >>= levels_from h inner (n - (k + 1)) z)) (sym next) refl))

quiet_op : (k : ℕ) (x : Token) (found : Option Op) → is_some found ≡ false → is_some (op_at k found x.at) ≡ false
quiet_op k x (Some o) q = absurd cc
quiet_op k x None q = refl

quiet_level : (k : ℕ) (ts : List Token) → starts is_any_op ts ≡ false → starts (is_op k) ts ≡ false
quiet_level k [] q = refl
quiet_level k (x ∷ xs) q = quiet_op k x (op_of x) q

pub levels_quiet : (h : ℕ) (inner : ℕ → List Token → Res ExprTree) (n k : ℕ) (e : ExprTree) (ts : List Token) → starts is_any_op ts ≡ false
    → levels_from h inner n k e ts ≡ Ok (e, ts)
unfolding levels_from
levels_quiet h inner zero k e ts q = refl
levels_quiet h inner (suc n) k e ts q =
    ap (λ z. z >>= levels_from h inner n (suc k)) (loop_done (is_op (suc k)) (op_step h inner k) e ts (quiet_level (suc k) ts q))
    ∙ levels_quiet h inner n (suc k) e ts q

bind_bind : {A B C : Type 0} (r : Res A) (f : A → List Token → Res B) (g : B → List Token → Res C) → ((r >>= f) >>= g) ≡ (r >>= (λ a ts. f a ts >>= g))
bind_bind (Ok y) f g = refl
bind_bind (Err e) f g = refl

bind_ok : {A : Type 0} (r : Res A) → r ≡ (r >>= (λ a ts. Ok (a, ts)))
bind_ok (Ok y) = refl
bind_ok (Err e) = refl

-- the levels from the tightest on, in place of the chain from the loosest down
chain_from : (h : ℕ) (inner : ℕ → List Token → Res ExprTree) (n k : ℕ) (ts : List Token)
    → chain_with h inner (n + k) ts ≡ (chain_with h inner k ts >>= levels_from h inner n k)
unfolding chain_with levels_from
chain_from h inner zero k ts =
    let same : 0 + k ≡ k = omega arith in
    ap (λ z. chain_with h inner z ts) same ∙ bind_ok (chain_with h inner k ts)
chain_from h inner (suc n) k ts =
    let same : suc n + k ≡ n + suc k = omega arith in
    ap (λ z. chain_with h inner z ts) same ∙ chain_from h inner n (suc k) ts
    ∙ bind_bind (chain_with h inner k ts) (λ e ts. loop (is_op (suc k)) (op_step h inner k) e ts) (levels_from h inner n (suc k))

pub chain_levels : (h n : ℕ) (ts : List Token) → chain_with h (below h) n ts ≡ (unary h (below h) ts >>= levels_from h (below h) n 0)
unfolding chain_with
chain_levels h n ts =
    let same : n + 0 ≡ n = omega arith in
    subst (λ z. chain_with h (below h) z ts ≡ (unary h (below h) ts >>= levels_from h (below h) n 0)) same (chain_from h (below h) n 0 ts)

pub chain_zero : (k : ℕ) (ts : List Token) → chain_at 0 k ts ≡ beyond begins_expression ts
unfolding chain_at
chain_zero k ts = refl

pub chain_positive : (h k : ℕ) → 0 < h → (ts : List Token) → chain_at h k ts ≡ chain_with h (below h) k ts
unfolding chain_at
chain_positive zero k pos ts = absurd (omega (arith, pos))
chain_positive (suc h) k pos ts =
    let same : suc h - 1 ≡ h = omega arith in
    subst (λ z. chain_with (suc h) (chain_at h) k ts ≡ chain_with (suc h) (chain_at z) k ts) (sym same) refl

pub argument_takes : (h : ℕ) → 0 < h → Takes (is T.Comma) (comma_step (below h 6))
argument_takes h some =
    separated_takes (below h 6) (Level 6) (λ e r. height e < h) (name_token x_name ∷ [], VarE x_name, x_is) level_long (All_below h) (more_below h)
    (below_law h some 6 (omega arith)) (λ es ys. Unit {0}) tt (λ a rest d xs ys p q. tt) (λ es ys. Unit {0}) (λ a rest xs ys p q. tt)

pub argument_more : (h : ℕ) → 0 < h → (es : List ExprTree) (ts : List Token) → starts (is T.Comma) ts ≡ true
    → loop (is T.Comma) (comma_step (below h 6)) es ts ≡ (comma_step (below h 6) es ts >>= loop (is T.Comma) (comma_step (below h 6)))
argument_more h some es ts g = loop_more (is T.Comma) (comma_step (below h 6)) (argument_takes h some) es ts g

pub argument_done : (h : ℕ) (es : List ExprTree) (ts : List Token) → starts (is T.Comma) ts ≡ false
    → loop (is T.Comma) (comma_step (below h 6)) es ts ≡ Ok (es, ts)
argument_done h es ts g = loop_done (is T.Comma) (comma_step (below h 6)) es ts g

ok_same : {A : Type 0} (y z : A × List Token) → (let r : Res A = Ok y in r ≡ Ok z) → y ≡ z
ok_same y z h = cc

-- what is taken shortens the rest
got_shorter : {A : Type 0} (o : Option A) (x : Token) (xs : List Token) (a : A) (r : List Token) → got o x xs ≡ Ok (a, r) → length r < length (x ∷ xs)
got_shorter (Some b) x xs a r h =
    let e : xs ≡ r = ap (λ v. v.1) (ok_same (b, xs) (a, r) h) in omega (arith, ap length e)
got_shorter None x xs a r h = cc

pub first_shorter : {A : Type 0} (test : Token → Option A) (ts : List Token) (a : A) (r : List Token) → first test ts ≡ Ok (a, r) → length r < length ts
first_shorter test [] a r h = cc
first_shorter test (x ∷ xs) a r h = got_shorter (test x) x xs a r h

pub take_shorter : (t : Terminal) (ts : List Token) (d : ℕ) (r : List Token) → take_one t ts ≡ Ok (d, r) → length r < length ts
take_shorter t ts d r h = first_shorter (at_of t) ts d r h

pub right_shorter : {A : Type 0} (p : List Token → Res A) (L : List Token → A → Type 0) (Post : A → List Token → Type 0) (ts : List Token) (a : A) (r : List Token)
    → ((zs : List Token) (b : A) → L zs b → 0 < length zs) → (s : Res A) → RightAt p L Post ts s → s ≡ Ok (a, r) → length r < length ts
right_shorter p L Post ts a r long (Ok y) g e =
    let i : y.1 ≡ r = ap (λ v. v.1) (ok_same y (a, r) e) in omega (arith, ap length g.whole, length-append g.front y.1, long g.front y.0 g.spelled, ap length i)
right_shorter p L Post ts a r long (Err y) g e = cc

pub chain_shorter : (h k : ℕ) → k ≤ 6 → (ts : List Token) (e : ExprTree) (r : List Token) → chain_at h k ts ≡ Ok (e, r) → length r < length ts
chain_shorter h k small ts e r i =
    right_shorter (chain_at h k) (Level k) (λ e r. height e ≤ h) ts e r (λ zs b l. spelled_long b zs l.0) (chain_at h k ts) (right_chain_at h k small ts).at i

pub heights_pushed : (items : List Expr) (e : Expr) → heights (exprs_from (map expr_tree (items ++ (e ∷ [])))) ≡ max (heights (exprs_from (map expr_tree items))) (height (expr_tree e))
heights_pushed [] e = omega arith
heights_pushed (x ∷ items) e = let i = heights_pushed items e in omega (arith, i)
