-- Single tokens, choices, ends and limits are right.
use Rattle.std.proofs.Common.{◌≡◌, ℕ, Bool, true, false, List, [], ◌∷◌, ◌++◌, Option, Some, None, Ok, Err, if◌then◌else◌, refl, sym, ◌∙◌, ap, subst}
use Rattle.std.proofs.lemmas.Bool.{and_parts}
use Rattle.std.specs.Str.{bytes_eq}
use Rattle.std.proofs.lemmas.Slice.Eq.{bytes_eq-Decides}
use Rattle.lexer.specs.declared.tokens.Token.{Token}
use Rattle.lexer.specs.declared.tokens.TokenKind.{TokenKind}
use Rattle.lexer.specs.declared.tokens.TokenKind.TheVariants as K
use Rattle.syntax.specs.declared.terminal.Terminal.{Terminal}
use Rattle.syntax.specs.declared.tree.Name.{Name}
use Rattle.syntax.specs.Grammar.{IsFlag, offset}
use Rattle.syntax.specs.Tokens.{is, token, name_token, same_kind, terminal_kind, spelling}
use Rattle.parser.proofs.Right.{Meets, Goes, RightAt, Right, Any, Some_of, right_seq, right_along, right_weaker}
use Rattle.parser.specs.Combine.{Res, ◌>>=◌, starts, got, first, allow, take_one, when, flag, flagged, beyond}
use Rattle.parser.specs.Words.{a_name, name_if}
use Rattle.parser.specs.declared.stop.SyntaxFault.TheVariants as F

-- one token of which C says what it means
abbrev pub One : {A : Type 0} → (Token → A → Type 0) → List Token → A → Type 0
One C zs a = (x : Token) × C x a × (zs ≡ x ∷ [])

-- a token and what it means
abbrev pub Example : {A : Type 0} → (Token → A → Type 0) → Type 0
Example {A} C = (x : Token) × (a : A) × C x a

first_at : {A : Type 0} (test : Token → Option A) (C : Token → A → Type 0) → Example C → (x : Token) (xs : List Token)
    → (o : Option A) → test x ≡ o → ((a : A) → o ≡ Some a → C x a) → RightAt (first test) (One C) Any (x ∷ xs) (got o x xs)
first_at test C some x xs (Some a) e sound = record {
  front = x ∷ [];
  whole = refl;
  spelled = (x, sound a refl, refl);
  after = tt;
  again = λ w m. ap (λ z. got z x w) e;
}
first_at {A} test C some x xs None e sound = record {
  front = [];
  whole = refl;
  more = some.0 ∷ [];
  tree = some.1;
  spelled = (some.0, some.2, refl);
  goes = tt;
  again = again;
} where
  again : (w : List Token) → Meets (x ∷ xs) w → first test w ≡ Err (F.Unexpected, w)
  again [] m = absurd m
  again (y ∷ w) m = ap (λ z. got (test z) z w) (sym m) ∙ ap (λ z. got z x w) e ∙ ap (λ z. Err (F.Unexpected, z ∷ w)) m

pub right_first : {A : Type 0} {test : Token → Option A} (C : Token → A → Type 0) → Example C → ((x : Token) (a : A) → test x ≡ Some a → C x a)
    → (ts : List Token) → Right (first test) (One C) Any ts
right_first {A} {test} C some sound [] = record {
  at = record {
    front = [];
    whole = refl;
    more = some.0 ∷ [];
    tree = some.1;
    spelled = (some.0, some.2, refl);
    goes = tt;
    again = λ w m. let P : List Token → Type 0 = λ z. first test z ≡ Err (F.Unexpected, z) in subst P (sym m) refl;
  };
}
right_first {A} {test} C some sound (x ∷ xs) = record { at = first_at test C some x xs (test x) refl (λ a e. sound x a e) }

same_kind_is : (a b : TokenKind) → same_kind a b ≡ true → a ≡ b
same_kind_is K.Name K.Name h = refl
same_kind_is K.Name K.Word h = cc
same_kind_is K.Name (K.Number n) h = cc
same_kind_is K.Name K.Sign h = cc
same_kind_is K.Word K.Name h = cc
same_kind_is K.Word K.Word h = refl
same_kind_is K.Word (K.Number n) h = cc
same_kind_is K.Word K.Sign h = cc
same_kind_is (K.Number m) k h = cc
same_kind_is K.Sign K.Name h = cc
same_kind_is K.Sign K.Word h = cc
same_kind_is K.Sign (K.Number n) h = cc
same_kind_is K.Sign K.Sign h = refl

-- a token that passes a terminal's test is that terminal's
pub is_token : (t : Terminal) (x : Token) → is t x ≡ true → x ≡ token t x.at
is_token t x h =
    let b = and_parts (same_kind x.kind (terminal_kind t)) (bytes_eq x.text (spelling t)) h in
    let e : x.kind ≡ terminal_kind t = same_kind_is x.kind (terminal_kind t) b.0 in
    let d : x.text ≡ spelling t = (bytes_eq-Decides x.text (spelling t)).0 b.1 in
    let make : TokenKind → List ℕ → Token = λ k s. record { kind = k; text = s; at = x.at } in
    ap (λ k. make k x.text) e ∙ ap (λ s. make (terminal_kind t) s) d

pub when_true : {A : Type 0} (b : Bool) (a c : A) → when b a ≡ Some c → (b ≡ true) × (a ≡ c)
when_true true a c h = (refl, cc)
when_true false a c h = cc

pub right_take : (t : Terminal) (ts : List Token) → Right (take_one t) (One (λ x d. x ≡ token t d)) Any ts
right_take t = right_first (λ x d. x ≡ token t d) (token t 0, 0, refl) (λ x d e. let w = when_true (is t x) x.at d e in is_token t x w.0 ∙ ap (λ z. token t z) w.1)

pub name_if_is : (k : TokenKind) (text : List ℕ) (at : ℕ) (n : Name) → name_if k text at ≡ Some n → record { kind = k; text = text; at = at } ≡ name_token n
name_if_is K.Name text at n h = cc
name_if_is K.Word text at n h = cc
name_if_is (K.Number m) text at n h = cc
name_if_is K.Sign text at n h = cc

pub x_name : Name
x_name = record { text = 120 ∷ []; at = 0 }

pub right_a_name : (ts : List Token) → Right (first a_name) (One (λ x n. x ≡ name_token n)) Any ts
right_a_name = right_first (λ x n. x ≡ name_token n) (name_token x_name, x_name, refl) (λ x n e. name_if_is x.kind x.text x.at n e)

-- a token first, and then what its meaning asks for
pub right_one : {A B : Type 0} {p : List Token → Res A} {k : A → List Token → Res B} {C : Token → A → Type 0}
    {L : List Token → B → Type 0} {Post2 : B → List Token → Type 0} {ts : List Token}
    → Right p (One C) Any ts
    → ((a : A) → Some_of (λ ys b. (x : Token) → C x a → L (x ∷ ys) b))
    → ((a : A) (r : List Token) → Right (k a) (λ ys b. (x : Token) → C x a → L (x ∷ ys) b) Post2 r)
    → Right (λ ts. p ts >>= k) L Post2 ts
right_one {A} {B} {p} {k} {C} {L} {Post2} {ts} g some law =
    right_seq g (λ a. let s = some a in (s.0, s.1, λ xs e. subst (λ z. L (z ++ s.0) s.1) (sym e.2) (s.2 e.0 e.1)))
    (λ a r _. right_weaker (λ zs b m. λ xs e. subst (λ z. L (z ++ zs) b) (sym e.2) (m e.0 e.1)) (λ b s q. q) (law a r))

pub right_tok : {B : Type 0} (t : Terminal) {k : ℕ → List Token → Res B}
    {L : List Token → B → Type 0} {Post2 : B → List Token → Type 0} {ts : List Token}
    → ((d : ℕ) → Some_of (λ ys b. L (token t d ∷ ys) b))
    → ((d : ℕ) (r : List Token) → Right (k d) (λ ys b. L (token t d ∷ ys) b) Post2 r)
    → Right (λ ts. take_one t ts >>= k) L Post2 ts
right_tok {B} t {k} {L} {Post2} {ts} some law =
    right_one (right_take t ts) (λ d. let s = some d in (s.0, s.1, λ x e. subst (λ z. L (z ∷ s.0) s.1) (sym e) s.2))
    (λ d r. right_weaker (λ zs b m. λ x e. subst (λ z. L (z ∷ zs) b) (sym e) m) (λ b s q. q) (law d r))

pub right_name : {B : Type 0} {k : Name → List Token → Res B}
    {L : List Token → B → Type 0} {Post2 : B → List Token → Type 0} {ts : List Token}
    → ((n : Name) → Some_of (λ ys b. L (name_token n ∷ ys) b))
    → ((n : Name) (r : List Token) → Right (k n) (λ ys b. L (name_token n ∷ ys) b) Post2 r)
    → Right (λ ts. first a_name ts >>= k) L Post2 ts
right_name {B} {k} {L} {Post2} {ts} some law =
    right_one (right_a_name ts) (λ d. let s = some d in (s.0, s.1, λ x e. subst (λ z. L (z ∷ s.0) s.1) (sym e) s.2))
    (λ d r. right_weaker (λ zs b m. λ x e. subst (λ z. L (z ∷ zs) b) (sym e) m) (λ b s q. q) (law d r))

-- nothing more
pub right_done : {B : Type 0} {b : B} {L : List Token → B → Type 0} {Post : B → List Token → Type 0} {ts : List Token}
    → L [] b → Post b ts → Right (λ ts. Ok (b, ts)) L Post ts
right_done l q = record { at = record { front = []; whole = refl; spelled = l; after = q; again = λ w m. refl } }

-- no token can go on here
pub right_fail : {B : Type 0} {L : List Token → B → Type 0} {Post : B → List Token → Type 0} {ts : List Token}
    → Some_of L → Right (λ ts. Err (F.Unexpected, ts)) L Post ts
right_fail some = record { at = record { front = []; whole = refl; more = some.0; tree = some.1; spelled = some.2; goes = tt; again = λ w m. refl } }

pub starts_meets : (test : Token → Bool) (ts w : List Token) → Meets ts w → starts test w ≡ starts test ts
starts_meets test [] w m = ap (starts test) m
starts_meets test (x ∷ xs) [] m = absurd m
starts_meets test (x ∷ xs) (y ∷ w) m = sym (ap test m)

meets_one : (x : Token) (xs w : List Token) → Meets (x ∷ xs) w → Meets (x ∷ []) w
meets_one x xs [] m = m
meets_one x xs (y ∷ w) m = m

-- a choice by the next token
pub right_if : {B : Type 0} {test : Token → Bool} {p q : List Token → Res B} {L : List Token → B → Type 0} {Post : B → List Token → Type 0} {ts : List Token}
    → (starts test ts ≡ true → Right p L Post ts) → (starts test ts ≡ false → Right q L Post ts)
    → Right (λ ts. if starts test ts then p ts else q ts) L Post ts
right_if {B} {test} {p} {q} {L} {Post} {ts} f g =
    elim (starts test ts) as (λ b. starts test ts ≡ b → Right (λ ts. if starts test ts then p ts else q ts) L Post ts) [
      | true ↦ λ e. right_along (λ w m. ap (λ b. if b then p w else q w) (starts_meets test ts w m ∙ e)) (f e)
      | false ↦ λ e. right_along (λ w m. ap (λ b. if b then p w else q w) (starts_meets test ts w m ∙ e)) (g e)
    ] refl

-- a choice by what is known
pub right_choice : {B : Type 0} (b : Bool) {p q : List Token → Res B} {L : List Token → B → Type 0} {Post : B → List Token → Type 0} {ts : List Token}
    → (b ≡ true → Right p L Post ts) → (b ≡ false → Right q L Post ts)
    → Right (λ ts. if b then p ts else q ts) L Post ts
right_choice true f g = f refl
right_choice false f g = g refl

-- too deep, where some completion goes through the next token
abbrev pub Through_next : {B : Type 0} → (List Token → B → Type 0) → List Token → Type 0
Through_next {B} L ts = (more : List Token) × (b : B) × L more b × Goes F.TooDeep ts more

pub right_deep : {B : Type 0} {L : List Token → B → Type 0} {Post : B → List Token → Type 0} {ts : List Token}
    → Through_next L ts → Right (λ ts. Err (F.TooDeep, ts)) L Post ts
right_deep some = record { at = record { front = []; whole = refl; more = some.0; tree = some.1; spelled = some.2; goes = some.3; again = λ w m. refl } }

pub right_allow : {B : Type 0} (b : Bool) {p : List Token → Res B} {L : List Token → B → Type 0} {Post : B → List Token → Type 0} {ts : List Token}
    → Through_next L ts → (b ≡ true → Right p L Post ts) → Right (λ ts. allow b ts (p ts)) L Post ts
right_allow true some f = f refl
right_allow false some f = right_deep some

-- where no height is left
pub right_beyond : {B : Type 0} {test : Token → Bool} {L : List Token → B → Type 0} {Post : B → List Token → Type 0} {ts : List Token}
    → (starts test ts ≡ true → Through_next L ts) → Some_of L → Right (beyond test) L Post ts
right_beyond some other = right_if (λ e. right_deep (some e)) (λ e. right_fail other)

pub offset_meets : (ts w : List Token) → Meets ts w → offset w ≡ offset ts
offset_meets [] w m = ap offset m
offset_meets (x ∷ xs) [] m = absurd m
offset_meets (x ∷ xs) (y ∷ w) m = ap (λ z. z.at) (sym m)

-- a terminal that may stand
flag_yes : (t : Terminal) (x : Token) → is t x ≡ true → (w : List Token) → Meets (x ∷ []) w → Ok (flag t w) ≡ (take_one t w >>= λ d ts. Ok (true, ts))
flag_yes t x e [] m = absurd m
flag_yes t x e (y ∷ w) m =
    let f : is t y ≡ true = ap (is t) (sym m) ∙ e in
    let one : Res Bool = Ok (true, w) in
    ap (λ b. let r : Res Bool = Ok (flagged b (y ∷ w)) in r) f ∙ sym (ap (λ b. got (when b y.at) y w >>= λ d ts. Ok (true, ts)) f)

flag_no : (t : Terminal) (x : Token) → is t x ≡ false → (w : List Token) → Meets (x ∷ []) w → let r : Res Bool = Ok (flag t w) in r ≡ Ok (false, w)
flag_no t x e [] m = absurd m
flag_no t x e (y ∷ w) m =
    let f : is t y ≡ false = ap (is t) (sym m) ∙ e in
    ap (λ b. let r : Res Bool = Ok (flagged b (y ∷ w)) in r) f

flag_end : (t : Terminal) (w : List Token) → Meets [] w → let r : Res Bool = Ok (flag t w) in r ≡ Ok (false, w)
flag_end t [] m = refl
flag_end t (x ∷ w) m = cc

flag_law : (t : Terminal) (ts : List Token) → (b : Bool) → starts (is t) ts ≡ b → Right (λ ts. Ok (flag t ts)) (λ zs f. IsFlag t f zs) Any ts
flag_law t [] b e = right_along (flag_end t) (right_done refl tt)
flag_law t (x ∷ xs) true e = right_along (λ w m. flag_yes t x e w (meets_one x xs w m)) (right_tok t (λ d. ([], true, (d, refl))) (λ d r. right_done (d, refl) tt))
flag_law t (x ∷ xs) false e = right_along (λ w m. flag_no t x e w (meets_one x xs w m)) (right_done refl tt)

pub right_flag : (t : Terminal) (ts : List Token) → Right (λ ts. Ok (flag t ts)) (λ zs f. IsFlag t f zs) Any ts
right_flag t ts = flag_law t ts (starts (is t) ts) refl
