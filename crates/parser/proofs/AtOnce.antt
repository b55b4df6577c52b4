-- What is read at once: an operand that stands alone, and one field behind an expression.
use Rattle.std.proofs.Common.{◌≡◌, ℕ, ◌<◌, Bool, true, false, ◌||◌, List, [], ◌∷◌, Option, Some, None, Ok, Err, ◌∙◌, refl, sym, ap, subst}
use Rattle.std.specs.Prelude.{if◌then◌else◌}
use Rattle.std.proofs.lemmas.Bool.{cond-false, lt-ltb, or_parts, not-true}
use Rattle.lexer.specs.declared.tokens.Token.{Token}
use Rattle.syntax.specs.declared.terminal.Terminal.TheVariants as T
use Rattle.syntax.specs.declared.tree.Name.{Name}
use Rattle.syntax.specs.Heights.{height}
use Rattle.syntax.specs.Tokens.{is}
use Rattle.syntax.specs.Trees.{ExprTree, NumberE, TruthE, NullE, ThisE, VarE, GetE}
use Rattle.parser.proofs.LoopLaw.{loop_done}
use Rattle.parser.proofs.Loops.{chain_levels, chain_positive, levels_quiet, member_more, member_done}
use Rattle.parser.specs.Combine.{Res, ◌>>=◌, starts, allow, loop, first, got, take_one, at_of}
use Rattle.parser.specs.Words.{a_name, a_number, may_be_number, is_any_op, field_name}
use Rattle.parser.specs.Expressions.{below, chain_at, dots, leaf, levels_from, member_rest, member_step, postfix, primary, stands_alone, unary}

-- what is read, if anything is, leaves these tokens
abbrev Leaves : {A : Type 0} → List Token → Res A → Type 0
Leaves xs (Ok y) = y.1 ≡ xs
Leaves xs (Err e) = Unit {0}

got_leaves : {A : Type 0} (o : Option A) (x : Token) (xs : List Token) → Leaves xs (got o x xs)
got_leaves (Some a) x xs = refl
got_leaves None x xs = tt

first_leaves : {A : Type 0} (test : Token → Option A) (x : Token) (xs : List Token) → Leaves xs (first test (x ∷ xs))
first_leaves test x xs = got_leaves (test x) x xs

made_leaves : {A B : Type 0} (f : A → B) (r : Res A) (xs : List Token) → Leaves xs r → Leaves xs (r >>= λ a ts. Ok (f a, ts))
made_leaves f (Ok y) xs h = h
made_leaves f (Err e) xs h = tt

choice_leaves : {A : Type 0} (b : Bool) (r s : Res A) (xs : List Token) → Leaves xs r → Leaves xs s → Leaves xs (if b then r else s)
choice_leaves true r s xs h k = h
choice_leaves false r s xs h k = k

-- an expression without parts is one token
leaf_leaves : (x : Token) (xs : List Token) → Leaves xs (leaf (x ∷ xs))
unfolding leaf
leaf_leaves x xs =
    choice_leaves (starts may_be_number (x ∷ xs)) _ _ xs (made_leaves (λ n. NumberE n.0 n.1) (first a_number (x ∷ xs)) xs (first_leaves a_number x xs))
    (choice_leaves (starts (is T.True) (x ∷ xs)) _ _ xs (made_leaves (TruthE true) (take_one T.True (x ∷ xs)) xs (first_leaves (at_of T.True) x xs))
    (choice_leaves (starts (is T.False) (x ∷ xs)) _ _ xs (made_leaves (TruthE false) (take_one T.False (x ∷ xs)) xs (first_leaves (at_of T.False) x xs))
    (choice_leaves (starts (is T.Null) (x ∷ xs)) _ _ xs (made_leaves NullE (take_one T.Null (x ∷ xs)) xs (first_leaves (at_of T.Null) x xs))
    (choice_leaves (starts (is T.This) (x ∷ xs)) _ _ xs (made_leaves ThisE (take_one T.This (x ∷ xs)) xs (first_leaves (at_of T.This) x xs))
    (made_leaves VarE (first a_name (x ∷ xs)) xs (first_leaves a_name x xs))))))

-- what changes nothing in front of these tokens changes nothing
same_before : {A : Type 0} (r : Res A) (f : A → List Token → Res A) (xs : List Token) → Leaves xs r
    → ((a : A) → f a xs ≡ Ok (a, xs)) → (r >>= f) ≡ r
same_before (Ok y) f xs h quiet = subst (λ z. f y.0 z ≡ Ok (y.0, z)) (sym h) (quiet y.0)
same_before (Err e) f xs h quiet = refl

unary_alone : (h : ℕ) (inner : ℕ → List Token → Res ExprTree) (x : Token) (xs : List Token)
    → is T.Bang x ≡ false → is T.Minus x ≡ false → is T.OpenParen x ≡ false → is T.New x ≡ false → starts (is T.Dot) xs ≡ false
    → unary h inner (x ∷ xs) ≡ leaf (x ∷ xs)
unfolding unary postfix primary dots
unary_alone h inner x xs bang minus paren new dot =
    cond-false (is T.Bang x) _ _ bang ∙ cond-false (is T.Minus x) _ _ minus
    ∙ ap (λ r. r >>= dots h inner) (cond-false (is T.OpenParen x) _ _ paren ∙ cond-false (is T.New x) _ _ new)
    ∙ same_before (leaf (x ∷ xs)) (dots h inner) xs (leaf_leaves x xs) (λ e. loop_done (is T.Dot) (member_step h inner) e xs dot)

alone_at : (h k : ℕ) → 0 < h → (x : Token) (xs : List Token)
    → is T.Bang x ≡ false → is T.Minus x ≡ false → is T.OpenParen x ≡ false → is T.New x ≡ false → starts (is T.Dot) xs ≡ false
    → starts is_any_op xs ≡ false → chain_at h k (x ∷ xs) ≡ leaf (x ∷ xs)
alone_at h k some x xs bang minus paren new dot op =
    chain_positive h k some (x ∷ xs) ∙ chain_levels h k (x ∷ xs)
    ∙ ap (λ r. r >>= levels_from h (below h) k 0) (unary_alone h (below h) x xs bang minus paren new dot)
    ∙ same_before (leaf (x ∷ xs)) (levels_from h (below h) k 0) xs (leaf_leaves x xs) (λ e. levels_quiet h (below h) k 0 e xs op)

-- an operand that stands alone is the whole expression, whatever operators may follow operands
pub chain_alone : (h k : ℕ) → 0 < h → (ts : List Token) → stands_alone ts ≡ true → chain_at h k ts ≡ leaf ts
unfolding stands_alone
chain_alone h k some [] q = absurd cc
chain_alone h k some (x ∷ xs) q =
    let a = or_parts (is T.Bang x || is T.Minus x || is T.OpenParen x || is T.New x || starts (is T.Dot) xs) (starts is_any_op xs) (not-true _ q) in
    let b = or_parts (is T.Bang x || is T.Minus x || is T.OpenParen x || is T.New x) (starts (is T.Dot) xs) a.0 in
    let c = or_parts (is T.Bang x || is T.Minus x || is T.OpenParen x) (is T.New x) b.0 in
    let d = or_parts (is T.Bang x || is T.Minus x) (is T.OpenParen x) c.0 in
    let e = or_parts (is T.Bang x) (is T.Minus x) d.0 in
    alone_at h k some x xs e.0 e.1 d.1 c.1 b.1 a.1

-- one field behind an expression, with neither arguments nor another dot behind it
pub dots_field : (h : ℕ) → 0 < h → (e : ExprTree) (n : Name) (ts rest : List Token) → height e < h → starts (is T.Dot) ts ≡ true
    → field_name ts ≡ Ok (n, rest) → starts (is T.OpenParen) rest ≡ false → starts (is T.Dot) rest ≡ false
    → dots h (below h) e ts ≡ Ok (GetE e n, rest)
unfolding dots member_step member_rest
dots_field h some e n ts rest low dot field paren last =
    let step : member_step h (below h) e ts ≡ Ok (GetE e n, rest) =
    ap (λ b. allow b ts (field_name ts >>= λ m xs. member_rest h (below h) e m xs)) (lt-ltb (height e) h low)
    ∙ ap (λ r. r >>= λ m xs. member_rest h (below h) e m xs) field
    ∙ cond-false (starts (is T.OpenParen) rest) _ _ paren in
    member_more h some e ts dot ∙ ap (λ r. r >>= loop (is T.Dot) (member_step h (below h))) step ∙ member_done h (GetE e n) rest last
