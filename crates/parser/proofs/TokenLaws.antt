-- Tokens that mean something are read right.
use Rattle.std.proofs.Common.{◌≡◌, ℕ, zero, suc, ◌<◌, ◌==◌, nat_lt, Bool, true, false, List, [], ◌∷◌, ◌++◌, Option, Some, None, refl, sym, ◌∙◌, ap, subst, arith, if◌then◌else◌}
use Rattle.std.proofs.lemmas.Bool.{eqb-true, ltb-true}
use Rattle.lexer.specs.declared.tokens.Token.{Token}
use Rattle.lexer.specs.declared.tokens.TokenKind.{TokenKind}
use Rattle.lexer.specs.declared.tokens.TokenKind.TheVariants as K
use Rattle.lexer.specs.Limits.{greatest_literal}
use Rattle.syntax.specs.declared.terminal.Terminal.TheVariants as T
use Rattle.syntax.specs.declared.tree.Name.{Name}
use Rattle.syntax.specs.declared.tree.Op.{Op}
use Rattle.syntax.specs.declared.tree.Op.TheVariants as O
use Rattle.syntax.specs.Grammar.{level, sign_of}
use Rattle.syntax.specs.Tokens.{is, token, name_token, number_token}
use Rattle.parser.proofs.Right.{Right, Any, Some_of, right_seq, right_weaker}
use Rattle.parser.proofs.Parts.{One, right_first, right_tok, right_a_name, x_name, is_token, when_true}
use Rattle.parser.specs.Combine.{Res, ◌>>=◌, first}
use Rattle.parser.specs.Words.{a_number, number_if, small_number, a_least, is_least, least_number, op_of, op_at, an_op, field_name}

-- tokens that mean something
abbrev pub NumberToken : Token → (ℕ × ℕ) → Type 0
NumberToken x n = (text : List ℕ) × (n.0 < greatest_literal) × (x ≡ number_token n.0 text n.1)

pub number_is : (k : TokenKind) (text : List ℕ) (at : ℕ) (n : ℕ × ℕ) → small_number (number_if k) at ≡ Some n → NumberToken (record { kind = k; text = text; at = at }) n
number_is K.Name text at n h = cc
number_is K.Word text at n h = cc
number_is (K.Number m) text at n h =
    let w = when_true (nat_lt m greatest_literal) (m, at) n h in
    (text, subst (λ z. z.0 < greatest_literal) w.1 (ltb-true m greatest_literal w.0), ap (λ z. number_token z.0 text z.1) w.1)
number_is K.Sign text at n h = cc

pub right_number : (ts : List Token) → Right (first a_number) (One NumberToken) Any ts
right_number = right_first NumberToken (number_token 0 [] 0, (0, 0), ([], omega arith, refl)) (λ x n e. number_is x.kind x.text x.at n e)

abbrev pub LeastToken : Token → ℕ → Type 0
LeastToken x d = (text : List ℕ) × (x ≡ number_token greatest_literal text d)

least_is : (k : TokenKind) (text : List ℕ) (at : ℕ) → least_number (number_if k) ≡ true → LeastToken (record { kind = k; text = text; at = at }) at
least_is K.Name text at h = cc
least_is K.Word text at h = cc
least_is (K.Number m) text at h = (text, ap (λ z. number_token z text at) (eqb-true m greatest_literal h))
least_is K.Sign text at h = cc

pub right_least : (ts : List Token) → Right (first a_least) (One LeastToken) Any ts
right_least = right_first LeastToken (number_token greatest_literal [] 0, 0, ([], refl))
    (λ x d e. let w = when_true (is_least x) x.at d e in subst (λ z. LeastToken x z) w.1 (least_is x.kind x.text x.at w.0))

if_some : {A : Type 0} (b : Bool) (a : A) (o : Option A) (c : A) (P : Type 0) → (if b then Some a else o) ≡ Some c → (b ≡ true → a ≡ c → P) → (o ≡ Some c → P) → P
if_some true a o c P h f g = f refl cc
if_some false a o c P h f g = g h

none_some : {A : Type 0} (c : A) (P : Type 0) → None ≡ Some c → P
none_some c P h = cc

-- a sign is that of the operator that it means
pub op_is : (x : Token) (o : Op) → op_of x ≡ Some o → x ≡ token (sign_of o) x.at
unfolding op_of
op_is x o h =
    let P : Type 0 = x ≡ token (sign_of o) x.at in
    let found : (p : Op) → is (sign_of p) x ≡ true → p ≡ o → P = λ p b e. subst (λ z. x ≡ token (sign_of z) x.at) e (is_token (sign_of p) x b) in
    if_some (is T.Star x) O.Mul _ o P h (found O.Mul) (λ h.
    if_some (is T.Slash x) O.Div _ o P h (found O.Div) (λ h.
    if_some (is T.Percent x) O.Rem _ o P h (found O.Rem) (λ h.
    if_some (is T.Plus x) O.Add _ o P h (found O.Add) (λ h.
    if_some (is T.Minus x) O.Sub _ o P h (found O.Sub) (λ h.
    if_some (is T.Less x) O.Lt _ o P h (found O.Lt) (λ h.
    if_some (is T.LessEqual x) O.Le _ o P h (found O.Le) (λ h.
    if_some (is T.Greater x) O.Gt _ o P h (found O.Gt) (λ h.
    if_some (is T.GreaterEqual x) O.Ge _ o P h (found O.Ge) (λ h.
    if_some (is T.EqualTo x) O.Eq _ o P h (found O.Eq) (λ h.
    if_some (is T.NotEqual x) O.Ne _ o P h (found O.Ne) (λ h.
    if_some (is T.AndAnd x) O.And _ o P h (found O.And) (λ h.
    if_some (is T.OrOr x) O.Or None o P h (found O.Or) (λ h. none_some o P h)))))))))))))

abbrev pub OpToken : ℕ → Token → (Op × ℕ) → Type 0
OpToken k x o = (level o.0 ≡ k) × (x ≡ token (sign_of o.0) o.1)

pub op_token : (k : ℕ) (x : Token) (p : Option Op) (o : Op × ℕ) → op_of x ≡ p → op_at k p x.at ≡ Some o → OpToken k x o
op_token k x (Some q) o e h =
    let w = when_true (level q == k) (q, x.at) o h in
    (ap (λ z. level z.0) (sym w.1) ∙ eqb-true (level q) k w.0, op_is x q e ∙ ap (λ z. token (sign_of z.0) z.1) w.1)
op_token k x None o e h = cc

-- an example of an operator of a level below 6
example_op : (k : ℕ) → k < 6 → (o : Op) × (level o ≡ suc k)
example_op zero h = (O.Mul, refl)
example_op (suc zero) h = (O.Add, refl)
example_op (suc (suc zero)) h = (O.Lt, refl)
example_op (suc (suc (suc zero))) h = (O.Eq, refl)
example_op (suc (suc (suc (suc zero)))) h = (O.And, refl)
example_op (suc (suc (suc (suc (suc zero))))) h = (O.Or, refl)
example_op (suc (suc (suc (suc (suc (suc k)))))) h = absurd (omega (arith, h))

pub right_op : (k : ℕ) → k < 6 → (ts : List Token) → Right (first (an_op (suc k))) (One (OpToken (suc k))) Any ts
right_op k h = let o = example_op k h in
    right_first (OpToken (suc k)) (token (sign_of o.0) 0, (o.0, 0), (o.1, refl)) (λ x p e. op_token (suc k) x (op_of x) p refl e)

-- a dot and a name
pub field_law : (ts : List Token) → Right field_name (λ zs n. (d : ℕ) × (zs ≡ token T.Dot d ∷ name_token n ∷ [])) Any ts
unfolding field_name
field_law ts = right_tok T.Dot (λ d. (name_token x_name ∷ [], x_name, (d, refl)))
    (λ d r. right_weaker (λ zs n o. (d, ap (λ z. token T.Dot d ∷ z) (o.2 ∙ ap (λ z. z ∷ []) o.1))) (λ b s q. q) (right_a_name r))

pub right_field : {B : Type 0} {k : Name → List Token → Res B} {L : List Token → B → Type 0} {Post2 : B → List Token → Type 0} {ts : List Token}
    → ((n : Name) → Some_of (λ ys b. (d : ℕ) → L (token T.Dot d ∷ name_token n ∷ ys) b))
    → ((n : Name) (r : List Token) → Right (k n) (λ ys b. (d : ℕ) → L (token T.Dot d ∷ name_token n ∷ ys) b) Post2 r)
    → Right (λ ts. field_name ts >>= k) L Post2 ts
right_field {B} {k} {L} {Post2} {ts} some law =
    right_seq (field_law ts) (λ n. let s = some n in (s.0, s.1, λ xs f. subst (λ z. L (z ++ s.0) s.1) (sym f.1) (s.2 f.0)))
    (λ n r _. right_weaker (λ zs b m. λ xs f. subst (λ z. L (z ++ zs) b) (sym f.1) (m f.0)) (λ b s q. q) (law n r))
