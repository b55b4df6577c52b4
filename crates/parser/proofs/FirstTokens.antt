-- An answer, or too deep; the first tokens of expressions, and the tokens that may follow them.
use Rattle.std.proofs.Common.{◌≡◌, ◌≢◌, ℕ, ◌<◌, ◌≤◌, ◌==◌, ◌||◌, nat_lt, Bool, true, false, List, [], ◌∷◌, ◌++◌, Option, Some, Ok, Err, refl, sym, ◌∙◌, ap, subst, append_assoc, arith, is_some}
use Rattle.std.proofs.lemmas.Bool.{eq-eqb, ne_eqb, lt-ltb}
use Rattle.lexer.specs.declared.tokens.Token.{Token}
use Rattle.lexer.specs.Limits.{greatest_literal}
use Rattle.syntax.specs.declared.terminal.Terminal.{Terminal}
use Rattle.syntax.specs.declared.terminal.Terminal.TheVariants as T
use Rattle.syntax.specs.declared.tree.Name.{Name}
use Rattle.syntax.specs.declared.tree.Op.{Op}
use Rattle.syntax.specs.declared.tree.Op.TheVariants as O
use Rattle.syntax.specs.Grammar.{Spells, level, sign_of, is_postfix}
use Rattle.syntax.specs.Heights.{height}
use Rattle.syntax.specs.Tokens.{is, token, name_token, number_token}
use Rattle.syntax.specs.Trees.{ExprTree, NumberE, LeastE, TruthE, NullE, ThisE, VarE, ParenE, NotE, NegE, BinaryE, GetE, CallE, NewE}
use Rattle.parser.specs.Combine.{Res, ◌>>=◌, starts, first, when, allow}
use Rattle.parser.specs.Words.{is_least, op_of, op_at, an_op, is_op}
use Rattle.parser.specs.Expressions.{begins_expression}
use Rattle.parser.specs.declared.stop.SyntaxFault.TheVariants as F

-- an answer that is too deep
abbrev pub IsDeep : {A : Type 0} → Res A → Type 0
IsDeep (Ok y) = ⊥
IsDeep (Err e) = e.0 ≡ F.TooDeep

-- the answer, or too deep where it isn't low
pub data Same {A : Type 0} (low : Type 0) (r s : Res A) : Type 0 where
  same : r ≡ s → Same low r s
  deep : IsDeep r → (low → ⊥) → Same low r s

pub same_along : {A : Type 0} {low : Type 0} {r t s : Res A} → r ≡ t → Same low t s → Same low r s
same_along e (same f) = same (e ∙ f)
same_along e (deep d n) = deep (subst IsDeep (sym e) d) n

pub same_weaker : {A : Type 0} {low low2 : Type 0} {r s : Res A} → (low → low2) → Same low2 r s → Same low r s
same_weaker w (same f) = same f
same_weaker w (deep d n) = deep d (λ l. n (w l))

pub same_then : {A : Type 0} {low : Type 0} {r s t : Res A} → Same low r s → s ≡ t → Same low r t
same_then (same f) e = same (f ∙ e)
same_then (deep d n) e = deep d n

bind_deep : {A B : Type 0} (r : Res A) (k : A → List Token → Res B) → IsDeep r → IsDeep (r >>= k)
bind_deep (Ok y) k d = absurd d
bind_deep (Err e) k d = d

pub same_bind : {A B : Type 0} {low low1 low2 : Type 0} {r : Res A} (k : A → List Token → Res B) {y : A} {ts : List Token} {s : Res B}
    → (low → low1) → (low → low2) → Same low1 r (Ok (y, ts)) → Same low2 (k y ts) s → Same low (r >>= k) s
same_bind k l1 l2 (same e) g = same_along (ap (λ z. z >>= k) e) (same_weaker l2 g)
same_bind {r = r} k l1 l2 (deep d n) g = deep (bind_deep r k d) (λ l. n (l1 l))

-- reading one part, and then a loop that stays as it is
pub same_trans : {A : Type 0} {low low1 low2 : Type 0} {r t s : Res A} → (low → low1) → (low → low2) → Same low1 r t → Same low2 t s → Same low r s
same_trans l1 l2 (same e) g = same_along e (same_weaker l2 g)
same_trans l1 l2 (deep d n) g = deep d (λ l. n (l1 l))

pub same_allow : {A : Type 0} {low : Type 0} (b : Bool) (ts : List Token) {r s : Res A} → (b ≡ false → low → ⊥) → (b ≡ true → Same low r s) → Same low (allow b ts r) s
same_allow true ts n f = f refl
same_allow false ts n f = deep refl (n refl)

pub at_list : {A : Type 0} {low : Type 0} (p : List Token → Res A) {zs ts : List Token} {s : Res A} → zs ≡ ts → Same low (p ts) s → Same low (p zs) s
at_list p e g = same_along (ap p e) g

-- the first tokens of what is spelled

pub starts_append : (test : Token → Bool) (zs ts f : List Token) (v : Bool) → zs ≡ ts → starts test (ts ++ f) ≡ v → starts test (zs ++ f) ≡ v
starts_append test zs ts f v e h = ap (λ z. starts test (z ++ f)) e ∙ h

pub number_small : (n : ℕ) → n < greatest_literal → nat_lt n greatest_literal ≡ true
number_small n h = lt-ltb n greatest_literal h

-- a test that answers alike at each token that may begin a postfix
module _ (test : Token → Bool) (v : Bool)
    (number : (n : ℕ) (text : List ℕ) (at : ℕ) → n < greatest_literal → test (number_token n text at) ≡ v)
    (name : (n : Name) → test (name_token n) ≡ v)
    (yes : (d : ℕ) → test (token T.True d) ≡ v) (no : (d : ℕ) → test (token T.False d) ≡ v)
    (null : (d : ℕ) → test (token T.Null d) ≡ v) (this : (d : ℕ) → test (token T.This d) ≡ v)
    (paren : (d : ℕ) → test (token T.OpenParen d) ≡ v) (new : (d : ℕ) → test (token T.New d) ≡ v) where
  pub postfix_first : (e : ExprTree) (zs f : List Token) → Spells e zs → is_postfix e ≡ true → starts test (zs ++ f) ≡ v
  postfix_first (NumberE n at) zs f s p = starts_append test zs _ f v s.2 (number n s.0 at s.1)
  postfix_first (LeastE at) zs f s p = cc
  postfix_first (TruthE true at) zs f s p = starts_append test zs _ f v s (yes at)
  postfix_first (TruthE false at) zs f s p = starts_append test zs _ f v s (no at)
  postfix_first (NullE at) zs f s p = starts_append test zs _ f v s (null at)
  postfix_first (ThisE at) zs f s p = starts_append test zs _ f v s (this at)
  postfix_first (VarE n) zs f s p = starts_append test zs _ f v s (name n)
  postfix_first (ParenE e at) zs f s p = starts_append test zs _ f v s.3 (paren at)
  postfix_first (NotE e at) zs f s p = cc
  postfix_first (NegE e at) zs f s p = cc
  postfix_first (BinaryE o e g at) zs f s p = cc
  postfix_first (GetE e n) zs f s p =
      let t = token T.Dot s.1 ∷ name_token n ∷ [] in
      ap (λ z. starts test (z ++ f)) s.4 ∙ ap (starts test) (append_assoc s.0 t f) ∙ postfix_first e s.0 (t ++ f) s.2 s.3
  postfix_first (CallE e n args) zs f s p =
      let t = token T.Dot s.2 ∷ name_token n ∷ token T.OpenParen s.3 ∷ s.1 ++ (token T.CloseParen s.4 ∷ []) in
      ap (λ z. starts test (z ++ f)) s.8 ∙ ap (starts test) (append_assoc s.0 t f) ∙ postfix_first e s.0 (t ++ f) s.5 s.6
  postfix_first (NewE n args at) zs f s p = starts_append test zs _ f v s.4 (new at)

  module _ (bang : (d : ℕ) → test (token T.Bang d) ≡ v) (minus : (d : ℕ) → test (token T.Minus d) ≡ v) where
    pub expression_first : (e : ExprTree) (zs f : List Token) → Spells e zs → starts test (zs ++ f) ≡ v
    expression_first (NumberE n at) zs f s = postfix_first (NumberE n at) zs f s refl
    expression_first (LeastE at) zs f s = starts_append test zs _ f v s.2 (minus at)
    expression_first (TruthE b at) zs f s = postfix_first (TruthE b at) zs f s refl
    expression_first (NullE at) zs f s = postfix_first (NullE at) zs f s refl
    expression_first (ThisE at) zs f s = postfix_first (ThisE at) zs f s refl
    expression_first (VarE n) zs f s = postfix_first (VarE n) zs f s refl
    expression_first (ParenE e at) zs f s = postfix_first (ParenE e at) zs f s refl
    expression_first (NotE e at) zs f s = starts_append test zs _ f v s.3 (bang at)
    expression_first (NegE e at) zs f s = starts_append test zs _ f v s.3 (minus at)
    expression_first (BinaryE o e g at) zs f s =
        let t = token (sign_of o) at ∷ s.1 in
        ap (λ z. starts test (z ++ f)) s.6 ∙ ap (starts test) (append_assoc s.0 t f) ∙ expression_first e s.0 (t ++ f) s.2
    expression_first (GetE e n) zs f s = postfix_first (GetE e n) zs f s refl
    expression_first (CallE e n args) zs f s = postfix_first (CallE e n args) zs f s refl
    expression_first (NewE n args at) zs f s = postfix_first (NewE n args at) zs f s refl

-- a terminal that begins no expression
abbrev pub Foreign : Terminal → Type 0
Foreign t = (e : ExprTree) (zs f : List Token) → Spells e zs → starts (is t) (zs ++ f) ≡ false

begins_number : (n : ℕ) (text : List ℕ) (at : ℕ) → n < greatest_literal → begins_expression (number_token n text at) ≡ true
unfolding begins_expression
begins_number n text at h = let g : Bool → Option (ℕ × ℕ) = λ b. when b (n, at) in ap (λ b. is_some (g b) || false || false || false || false || false) (number_small n h)

pub expression_begins : (e : ExprTree) (zs f : List Token) → Spells e zs → starts begins_expression (zs ++ f) ≡ true
unfolding begins_expression
expression_begins = expression_first begins_expression true begins_number (λ n. refl) (λ d. refl) (λ d. refl) (λ d. refl) (λ d. refl) (λ d. refl) (λ d. refl) (λ d. refl) (λ d. refl)

pub no_close : Foreign T.CloseParen
no_close = expression_first (is T.CloseParen) false (λ n text at h. refl) (λ n. refl) (λ d. refl) (λ d. refl) (λ d. refl) (λ d. refl) (λ d. refl) (λ d. refl) (λ d. refl) (λ d. refl)

pub no_semicolon : Foreign T.Semicolon
no_semicolon = expression_first (is T.Semicolon) false (λ n text at h. refl) (λ n. refl) (λ d. refl) (λ d. refl) (λ d. refl) (λ d. refl) (λ d. refl) (λ d. refl) (λ d. refl) (λ d. refl)

pub no_least : (e : ExprTree) (zs f : List Token) → Spells e zs → starts is_least (zs ++ f) ≡ false
no_least = expression_first is_least false (λ n text at h. let k : n ≢ greatest_literal = omega (arith, h) in ne_eqb n greatest_literal k) (λ n. refl) (λ d. refl) (λ d. refl) (λ d. refl) (λ d. refl) (λ d. refl) (λ d. refl) (λ d. refl) (λ d. refl)

pub no_bang : (e : ExprTree) (zs f : List Token) → Spells e zs → is_postfix e ≡ true → starts (is T.Bang) (zs ++ f) ≡ false
no_bang = postfix_first (is T.Bang) false (λ n text at h. refl) (λ n. refl) (λ d. refl) (λ d. refl) (λ d. refl) (λ d. refl) (λ d. refl) (λ d. refl)

pub no_minus : (e : ExprTree) (zs f : List Token) → Spells e zs → is_postfix e ≡ true → starts (is T.Minus) (zs ++ f) ≡ false
no_minus = postfix_first (is T.Minus) false (λ n text at h. refl) (λ n. refl) (λ d. refl) (λ d. refl) (λ d. refl) (λ d. refl) (λ d. refl) (λ d. refl)

pub height_some : (e : ExprTree) → 0 < height e
height_some (NumberE n at) = omega arith
height_some (LeastE at) = omega arith
height_some (TruthE b at) = omega arith
height_some (NullE at) = omega arith
height_some (ThisE at) = omega arith
height_some (VarE n) = omega arith
height_some (ParenE e at) = omega arith
height_some (NotE e at) = omega arith
height_some (NegE e at) = omega arith
height_some (BinaryE o e f at) = omega arith
height_some (GetE e n) = omega arith
height_some (CallE e n args) = omega arith
height_some (NewE n args at) = omega arith

-- nothing that an expression of k levels could go on with
pub record Calm (k : ℕ) (f : List Token) : Type 0 where
  pub dot : starts (is T.Dot) f ≡ false
  pub open_paren : starts (is T.OpenParen) f ≡ false
  pub ops : (j : ℕ) → j ≤ k → starts (is_op j) f ≡ false

pub calm_less : (k j : ℕ) (f : List Token) → j ≤ k → Calm k f → Calm j f
calm_less k j f h c = record { dot = c.dot; open_paren = c.open_paren; ops = λ i l. c.ops i (omega (arith, h, l)) }

pub calm_close : (k d : ℕ) (f : List Token) → Calm k (token T.CloseParen d ∷ f)
unfolding op_of
calm_close k d f = record { dot = refl; open_paren = refl; ops = λ j l. refl }

pub calm_comma : (k d : ℕ) (f : List Token) → Calm k (token T.Comma d ∷ f)
unfolding op_of
calm_comma k d f = record { dot = refl; open_paren = refl; ops = λ j l. refl }

pub calm_semicolon : (k d : ℕ) (f : List Token) → Calm k (token T.Semicolon d ∷ f)
unfolding op_of
calm_semicolon k d f = record { dot = refl; open_paren = refl; ops = λ j l. refl }

sign_op : (o : Op) (d : ℕ) → op_of (token (sign_of o) d) ≡ Some o
unfolding op_of
sign_op O.Or d = refl
sign_op O.And d = refl
sign_op O.Eq d = refl
sign_op O.Ne d = refl
sign_op O.Lt d = refl
sign_op O.Le d = refl
sign_op O.Gt d = refl
sign_op O.Ge d = refl
sign_op O.Add d = refl
sign_op O.Sub d = refl
sign_op O.Mul d = refl
sign_op O.Div d = refl
sign_op O.Rem d = refl

sign_dot : (o : Op) (d : ℕ) → is T.Dot (token (sign_of o) d) ≡ false
sign_dot O.Or d = refl
sign_dot O.And d = refl
sign_dot O.Eq d = refl
sign_dot O.Ne d = refl
sign_dot O.Lt d = refl
sign_dot O.Le d = refl
sign_dot O.Gt d = refl
sign_dot O.Ge d = refl
sign_dot O.Add d = refl
sign_dot O.Sub d = refl
sign_dot O.Mul d = refl
sign_dot O.Div d = refl
sign_dot O.Rem d = refl

sign_paren : (o : Op) (d : ℕ) → is T.OpenParen (token (sign_of o) d) ≡ false
sign_paren O.Or d = refl
sign_paren O.And d = refl
sign_paren O.Eq d = refl
sign_paren O.Ne d = refl
sign_paren O.Lt d = refl
sign_paren O.Le d = refl
sign_paren O.Gt d = refl
sign_paren O.Ge d = refl
sign_paren O.Add d = refl
sign_paren O.Sub d = refl
sign_paren O.Mul d = refl
sign_paren O.Div d = refl
sign_paren O.Rem d = refl

when_false : {A : Type 0} (b : Bool) (a : A) → b ≡ false → is_some (when b a) ≡ false
when_false true a h = cc
when_false false a h = refl

pub sign_calm : (o : Op) (d k : ℕ) (f : List Token) → k < level o → Calm k (token (sign_of o) d ∷ f)
sign_calm o d k f h = record {
  dot = sign_dot o d;
  open_paren = sign_paren o d;
  ops = λ j l. let n : level o ≢ j = omega (arith, h, l) in ap (λ z. is_some (op_at j z d)) (sign_op o d) ∙ when_false (level o == j) (o, d) (ne_eqb (level o) j n);
}

pub sign_first : (o : Op) (d : ℕ) (f : List Token) → first (an_op (level o)) (token (sign_of o) d ∷ f) ≡ Ok ((o, d), f)
sign_first o d f =
    let t = token (sign_of o) d ∷ f in
    let g : Option (Op × ℕ) → Res (Op × ℕ) = λ z. first (λ x. z) t in
    ap (λ z. g (op_at (level o) z d)) (sign_op o d) ∙ ap (λ b. g (when b (o, d))) (eq-eqb (level o) (level o) refl)

pub sign_is : (o : Op) (d : ℕ) (f : List Token) → starts (is_op (level o)) (token (sign_of o) d ∷ f) ≡ true
sign_is o d f =
    let g : Bool → Option (Op × ℕ) = λ b. when b (o, d) in
    ap (λ z. is_some (op_at (level o) z d)) (sign_op o d) ∙ ap (λ b. is_some (g b)) (eq-eqb (level o) (level o) refl)
