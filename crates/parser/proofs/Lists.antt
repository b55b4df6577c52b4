-- Items one after another, and items with commas between them, are right.
use Rattle.std.proofs.Common.{◌≡◌, ℕ, ◌<◌, Bool, true, false, List, [], ◌∷◌, ◌++◌, length, refl, sym, ◌∙◌, ap, subst, append_assoc, append-nil, arith, length-append}
use Rattle.lexer.specs.declared.tokens.Token.{Token}
use Rattle.syntax.specs.declared.terminal.Terminal.TheVariants as T
use Rattle.syntax.specs.Tokens.{is, token}
use Rattle.parser.proofs.Right.{Right, Some_of, right_seq, right_weaker}
use Rattle.parser.proofs.Parts.{right_done, right_tok}
use Rattle.parser.proofs.LoopLaw.{right_loop, loop_takes, Takes}
use Rattle.parser.specs.Combine.{Res, starts, item_step, comma_step, several, separated}

pub shift : {A : Type 0} (so : List A) (a : A) (rest : List A) → (so ++ (a ∷ [])) ++ rest ≡ so ++ (a ∷ rest)
shift so a rest = append_assoc so (a ∷ []) rest

pub longer : (xs ys : List Token) → 0 < length xs → 0 < length (xs ++ ys)
longer xs ys h = omega (arith, length-append xs ys)

-- P: what an item spells; Rep: what several do
module _ {A : Type 0} (item : List Token → Res A) (P : List Token → A → Type 0) (Post : A → List Token → Type 0)
    (example : Some_of P) (pos : (zs : List Token) (a : A) → P zs a → 0 < length zs)
    (Q : List A → Type 0) (more : (so : List A) (a : A) (r : List Token) → Post a r → Q so → Q (so ++ (a ∷ []))) where
  module _ (go : Token → Bool) (law : (x : Token) (xs : List Token) → go x ≡ true → Right item P Post (x ∷ xs))
      (Rep : List A → List Token → Type 0) (nil : Rep [] [])
      (cons : (a : A) (rest : List A) (xs ys : List Token) → P xs a → Rep rest ys → Rep (a ∷ rest) (xs ++ ys)) where
    abbrev S : List A → List Token → List A → Type 0
    S so zs b = (a : A) × (xs : List Token) × P xs a × (zs ≡ xs ++ []) × (b ≡ so ++ (a ∷ []))

    abbrev M : List A → List Token → List A → Type 0
    M so ys b = (rest : List A) × Rep rest ys × (b ≡ so ++ rest)

    step : (so : List A) (x : Token) (xs : List Token) → go x ≡ true → Right (item_step item so) (S so) (λ b r. Q so → Q b) (x ∷ xs)
    step so x xs g =
        right_seq (law x xs g) (λ a. ([], so ++ (a ∷ []), λ zs p. (a, zs, p, refl, refl)))
        (λ a r q. right_done (λ zs p. (a, zs, p, refl, refl)) (λ k. more so a r q k))

    step_pos : (so : List A) (zs : List Token) (b : List A) → S so zs b → 0 < length zs
    step_pos so zs b s = subst (λ z. 0 < length z) (sym s.3) (longer s.1 [] (pos s.1 s.0 s.2))

    none : (so : List A) → M so [] so
    none so = ([], nil, sym (append-nil so))

    one_more : (so b c : List A) (xs ys : List Token) → S so xs b → M b ys c → M so (xs ++ ys) c
    one_more so b c xs ys s m =
        let e : xs ≡ s.1 = s.3 ∙ append-nil s.1 in (
          s.0 ∷ m.0,
          subst (λ z. Rep (s.0 ∷ m.0) (z ++ ys)) (sym e) (cons s.0 m.0 s.1 ys s.2 m.1),
          m.2 ∙ ap (λ z. z ++ m.0) s.4 ∙ shift so s.0 m.0,
        )

    pub several_takes : Takes go (item_step item)
    several_takes = loop_takes go (item_step item) S M Q step step_pos none one_more

    pub right_several : Q [] → (ts : List Token) → Right (several go item) (λ zs b. Rep b zs) (λ b r. Q b × (starts go r ≡ false)) ts
    right_several q ts =
        right_weaker (λ zs b m. subst (λ z. Rep z zs) (sym m.2) m.1) (λ b r k. (k.0 q, k.1))
        (right_loop go (item_step item) S M Q step step_pos none one_more [] ts)

  module _ (law : (ts : List Token) → Right item P Post ts)
      (Rep : List A → List Token → Type 0) (nil : Rep [] [])
      (cons : (a : A) (rest : List A) (d : ℕ) (xs ys : List Token) → P xs a → Rep rest ys → Rep (a ∷ rest) (token T.Comma d ∷ xs ++ ys))
      (Sep : List A → List Token → Type 0)
      (begin : (a : A) (rest : List A) (xs ys : List Token) → P xs a → Rep rest ys → Sep (a ∷ rest) (xs ++ ys)) where
    abbrev S2 : List A → List Token → List A → Type 0
    S2 so zs b = (a : A) × (d : ℕ) × (xs : List Token) × P xs a × (zs ≡ token T.Comma d ∷ xs ++ []) × (b ≡ so ++ (a ∷ []))

    abbrev M2 : List A → List Token → List A → Type 0
    M2 so ys b = (rest : List A) × Rep rest ys × (b ≡ so ++ rest)

    step2 : (so : List A) (x : Token) (xs : List Token) → is T.Comma x ≡ true → Right (comma_step item so) (S2 so) (λ b r. Q so → Q b) (x ∷ xs)
    step2 so x xs g =
        right_tok T.Comma (λ d. (example.0 ++ [], so ++ (example.1 ∷ []), (example.1, d, example.0, example.2, refl, refl)))
        (λ d r. right_seq (law r) (λ a. ([], so ++ (a ∷ []), λ zs p. (a, d, zs, p, refl, refl)))
        (λ a r q. right_done (λ zs p. (a, d, zs, p, refl, refl)) (λ k. more so a r q k)))

    step_pos2 : (so : List A) (zs : List Token) (b : List A) → S2 so zs b → 0 < length zs
    step_pos2 so zs b s = let k : 0 < length (token T.Comma s.1 ∷ s.2 ++ []) = omega arith in subst (λ z. 0 < length z) (sym s.4) k

    none2 : (so : List A) → M2 so [] so
    none2 so = ([], nil, sym (append-nil so))

    one_more2 : (so b c : List A) (xs ys : List Token) → S2 so xs b → M2 b ys c → M2 so (xs ++ ys) c
    one_more2 so b c xs ys s m =
        let e : xs ≡ token T.Comma s.1 ∷ s.2 = s.4 ∙ ap (λ z. token T.Comma s.1 ∷ z) (append-nil s.2) in (
          s.0 ∷ m.0,
          subst (λ z. Rep (s.0 ∷ m.0) (z ++ ys)) (sym e) (cons s.0 m.0 s.1 s.2 ys s.3 m.1),
          m.2 ∙ ap (λ z. z ++ m.0) s.5 ∙ shift so s.0 m.0,
        )

    pub separated_takes : Takes (is T.Comma) (comma_step item)
    separated_takes = loop_takes (is T.Comma) (comma_step item) S2 M2 Q step2 step_pos2 none2 one_more2

    pub right_separated : Q [] → (ts : List Token) → Right (separated item) (λ zs b. Sep b zs) (λ b r. Q b) ts
    right_separated q ts =
        right_seq (law ts) (λ a. ([], a ∷ [], λ xs p. begin a [] xs [] p nil))
        (λ a r k. right_weaker (λ zs b m. λ xs p. subst (λ z. Sep z (xs ++ zs)) (sym m.2) (begin a m.0 xs zs p m.1)) (λ b u j. j.0 (more [] a r k q))
        (right_loop (is T.Comma) (comma_step item) S2 M2 Q step2 step_pos2 none2 one_more2 (a ∷ []) r))
