-- What is read is right, and no token past the next one was looked at.
use Rattle.std.proofs.Common.{◌≡◌, List, [], ◌∷◌, ◌++◌, Ok, Err, refl, sym, ◌∙◌, ap, subst, append_assoc}
use Rattle.lexer.specs.declared.tokens.Token.{Token}
use Rattle.parser.specs.Combine.{Res, ◌>>=◌}
use Rattle.parser.specs.declared.stop.SyntaxFault.{SyntaxFault}
use Rattle.parser.specs.declared.stop.SyntaxFault.TheVariants as F

-- the same next token, or both at the end
abbrev pub Meets : List Token → List Token → Type 0
Meets [] w = w ≡ []
Meets (x ∷ xs) [] = ⊥
Meets (x ∷ xs) (y ∷ ys) = x ≡ y

-- the completion of what was read goes through the token that is too deep
abbrev pub Goes : SyntaxFault → List Token → List Token → Type 0
Goes F.Unexpected r more = Unit {0}
Goes F.TooDeep [] more = ⊥
Goes F.TooDeep (x ∷ xs) [] = ⊥
Goes F.TooDeep (x ∷ xs) (y ∷ ys) = x ≡ y

-- p answers Ok (t, r) on ts
pub record RightOk {A : Type 0} (p : List Token → Res A) (L : List Token → A → Type 0) (Post : A → List Token → Type 0) (ts : List Token) (t : A) (r : List Token) : Type 0 where
  pub front : List Token
  pub whole : ts ≡ front ++ r
  pub spelled : L front t
  pub after : Post t r
  pub again : (w : List Token) → Meets r w → p (front ++ w) ≡ Ok (t, w)

-- p answers Err (f, r) on ts
pub record RightErr {A : Type 0} (p : List Token → Res A) (L : List Token → A → Type 0) (ts : List Token) (f : SyntaxFault) (r : List Token) : Type 0 where
  pub front : List Token
  pub whole : ts ≡ front ++ r
  pub more : List Token
  pub tree : A
  pub spelled : L (front ++ more) tree
  pub goes : Goes f r more
  pub again : (w : List Token) → Meets r w → p (front ++ w) ≡ Err (f, w)

abbrev pub RightAt : {A : Type 0} → (List Token → Res A) → (List Token → A → Type 0) → (A → List Token → Type 0) → List Token → Res A → Type 0
RightAt p L Post ts (Ok y) = RightOk p L Post ts y.0 y.1
RightAt p L Post ts (Err e) = RightErr p L ts e.0 e.1

-- what p answers on ts is right
pub record Right {A : Type 0} (p : List Token → Res A) (L : List Token → A → Type 0) (Post : A → List Token → Type 0) (ts : List Token) : Type 0 where
  pub at : RightAt p L Post ts (p ts)

abbrev pub Any : {A : Type 0} → A → List Token → Type 0
Any a r = Unit {0}

-- some completion
abbrev pub Some_of : {A : Type 0} → (List Token → A → Type 0) → Type 0
Some_of {A} M = (ys : List Token) × (b : A) × M ys b

pub meets_append : (f r w : List Token) → Meets r w → Meets (f ++ r) (f ++ w)
meets_append [] r w m = m
meets_append (x ∷ f) r w m = refl

goes_append : (f : SyntaxFault) (r more ys : List Token) → Goes f r more → Goes f r (more ++ ys)
goes_append F.Unexpected r more ys g = tt
goes_append F.TooDeep [] more ys g = absurd g
goes_append F.TooDeep (x ∷ xs) [] ys g = absurd g
goes_append F.TooDeep (x ∷ xs) (y ∷ more) ys g = g

-- a law carries over to what answers the same at each list with the same next token
along_at : {A : Type 0} (p q : List Token → Res A) (L : List Token → A → Type 0) (Post : A → List Token → Type 0) (ts : List Token) (r : Res A)
    → ((w : List Token) → Meets ts w → q w ≡ p w) → RightAt p L Post ts r → RightAt q L Post ts r
along_at p q L Post ts (Ok y) same g = record {
  front = g.front;
  whole = g.whole;
  spelled = g.spelled;
  after = g.after;
  again = λ w m. same (g.front ++ w) (subst (λ z. Meets z (g.front ++ w)) (sym g.whole) (meets_append g.front y.1 w m)) ∙ g.again w m;
}
along_at p q L Post ts (Err e) same g = record {
  front = g.front;
  whole = g.whole;
  more = g.more;
  tree = g.tree;
  spelled = g.spelled;
  goes = g.goes;
  again = λ w m. same (g.front ++ w) (subst (λ z. Meets z (g.front ++ w)) (sym g.whole) (meets_append g.front e.1 w m)) ∙ g.again w m;
}

meets_self : (ts : List Token) → Meets ts ts
meets_self [] = refl
meets_self (x ∷ xs) = refl

pub right_along : {A : Type 0} {p : List Token → Res A} {q : List Token → Res A} {L : List Token → A → Type 0} {Post : A → List Token → Type 0} {ts : List Token}
    → ((w : List Token) → Meets ts w → q w ≡ p w) → Right p L Post ts → Right q L Post ts
right_along {A} {p} {q} {L} {Post} {ts} same g =
    record { at = subst (λ z. RightAt q L Post ts z) (sym (same ts (meets_self ts))) (along_at p q L Post ts (p ts) same g.at) }

weaker_at : {A : Type 0} (p : List Token → Res A) (L M : List Token → A → Type 0) (Post Post2 : A → List Token → Type 0) (ts : List Token) (r : Res A)
    → ((zs : List Token) (b : A) → L zs b → M zs b) → ((b : A) (s : List Token) → Post b s → Post2 b s) → RightAt p L Post ts r → RightAt p M Post2 ts r
weaker_at p L M Post Post2 ts (Ok y) f g a = record {
  front = a.front;
  whole = a.whole;
  spelled = f a.front y.0 a.spelled;
  after = g y.0 y.1 a.after;
  again = a.again;
}
weaker_at p L M Post Post2 ts (Err e) f g a = record {
  front = a.front;
  whole = a.whole;
  more = a.more;
  tree = a.tree;
  spelled = f (a.front ++ a.more) a.tree a.spelled;
  goes = a.goes;
  again = a.again;
}

pub right_weaker : {A : Type 0} {p : List Token → Res A} {L M : List Token → A → Type 0} {Post Post2 : A → List Token → Type 0} {ts : List Token}
    → ((zs : List Token) (b : A) → L zs b → M zs b) → ((b : A) (s : List Token) → Post b s → Post2 b s) → Right p L Post ts → Right p M Post2 ts
right_weaker {A} {p} {L} {M} {Post} {Post2} {ts} f g a = record { at = weaker_at p L M Post Post2 ts (p ts) f g a.at }

-- one part, and then another
seq_ok : {A B : Type 0} (p : List Token → Res A) (k : A → List Token → Res B) (Le : List Token → A → Type 0) (Post : A → List Token → Type 0)
    (L : List Token → B → Type 0) (Post2 : B → List Token → Type 0) (ts : List Token) (a : A) (r : List Token)
    → RightOk p Le Post ts a r
    → (s : Res B) → RightAt (k a) (λ ys b. (xs : List Token) → Le xs a → L (xs ++ ys) b) Post2 r s
    → RightAt (λ ts. p ts >>= k) L Post2 ts s
seq_ok p k Le Post L Post2 ts a r g (Ok y) h =
    let assoc = append_assoc g.front h.front y.1 in
    record {
      front = g.front ++ h.front;
      whole = g.whole ∙ ap (λ z. g.front ++ z) h.whole ∙ sym assoc;
      spelled = h.spelled g.front g.spelled;
      after = h.after;
      again = λ w m.
          let e1 : (g.front ++ h.front) ++ w ≡ g.front ++ (h.front ++ w) = append_assoc g.front h.front w in
          let m1 : Meets r (h.front ++ w) = subst (λ z. Meets z (h.front ++ w)) (sym h.whole) (meets_append h.front y.1 w m) in
          ap (λ z. p z >>= k) e1 ∙ ap (λ z. z >>= k) (g.again (h.front ++ w) m1) ∙ h.again w m;
    }
seq_ok p k Le Post L Post2 ts a r g (Err e) h =
    let assoc = append_assoc g.front h.front e.1 in
    record {
      front = g.front ++ h.front;
      whole = g.whole ∙ ap (λ z. g.front ++ z) h.whole ∙ sym assoc;
      more = h.more;
      tree = h.tree;
      spelled = subst (λ z. L z h.tree) (sym (append_assoc g.front h.front h.more)) (h.spelled g.front g.spelled);
      goes = h.goes;
      again = λ w m.
          let e1 : (g.front ++ h.front) ++ w ≡ g.front ++ (h.front ++ w) = append_assoc g.front h.front w in
          let m1 : Meets r (h.front ++ w) = subst (λ z. Meets z (h.front ++ w)) (sym h.whole) (meets_append h.front e.1 w m) in
          ap (λ z. p z >>= k) e1 ∙ ap (λ z. z >>= k) (g.again (h.front ++ w) m1) ∙ h.again w m;
    }

seq_at : {A B : Type 0} (p : List Token → Res A) (k : A → List Token → Res B) (Le : List Token → A → Type 0) (Post : A → List Token → Type 0)
    (L : List Token → B → Type 0) (Post2 : B → List Token → Type 0) (ts : List Token)
    → ((a : A) → Some_of (λ ys b. (xs : List Token) → Le xs a → L (xs ++ ys) b))
    → ((a : A) (r : List Token) → p ts ≡ Ok (a, r) → Post a r → Right (k a) (λ ys b. (xs : List Token) → Le xs a → L (xs ++ ys) b) Post2 r)
    → (s : Res A) → p ts ≡ s → RightAt p Le Post ts s
    → RightAt (λ ts. p ts >>= k) L Post2 ts (s >>= k)
seq_at p k Le Post L Post2 ts some law (Ok y) is g = seq_ok p k Le Post L Post2 ts y.0 y.1 g (k y.0 y.1) (law y.0 y.1 is g.after).at
seq_at p k Le Post L Post2 ts some law (Err e) is g =
    let c = some g.tree in
    record {
      front = g.front;
      whole = g.whole;
      more = g.more ++ c.0;
      tree = c.1;
      spelled = subst (λ z. L z c.1) (append_assoc g.front g.more c.0) (c.2 (g.front ++ g.more) g.spelled);
      goes = goes_append e.0 e.1 g.more c.0 g.goes;
      again = λ w m. ap (λ z. z >>= k) (g.again w m);
    }

pub right_seq_at : {A B : Type 0} {p : List Token → Res A} {k : A → List Token → Res B} {Le : List Token → A → Type 0} {Post : A → List Token → Type 0}
    {L : List Token → B → Type 0} {Post2 : B → List Token → Type 0} {ts : List Token}
    → Right p Le Post ts
    → ((a : A) → Some_of (λ ys b. (xs : List Token) → Le xs a → L (xs ++ ys) b))
    → ((a : A) (r : List Token) → p ts ≡ Ok (a, r) → Post a r → Right (k a) (λ ys b. (xs : List Token) → Le xs a → L (xs ++ ys) b) Post2 r)
    → Right (λ ts. p ts >>= k) L Post2 ts
right_seq_at {A} {B} {p} {k} {Le} {Post} {L} {Post2} {ts} g some law = record { at = seq_at p k Le Post L Post2 ts some law (p ts) refl g.at }

pub right_seq : {A B : Type 0} {p : List Token → Res A} {k : A → List Token → Res B} {Le : List Token → A → Type 0} {Post : A → List Token → Type 0}
    {L : List Token → B → Type 0} {Post2 : B → List Token → Type 0} {ts : List Token}
    → Right p Le Post ts
    → ((a : A) → Some_of (λ ys b. (xs : List Token) → Le xs a → L (xs ++ ys) b))
    → ((a : A) (r : List Token) → Post a r → Right (k a) (λ ys b. (xs : List Token) → Le xs a → L (xs ++ ys) b) Post2 r)
    → Right (λ ts. p ts >>= k) L Post2 ts
right_seq g some law = right_seq_at g some (λ a r _ q. law a r q)
