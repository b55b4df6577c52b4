-- Bytes that stand one behind another.
use Rattle.std.proofs.Common.{◌≡◌, ℕ, ◌==◌, Bool, true, false, List, [], ◌∷◌, ◌++◌, codes, Ok, Err, if◌then◌else◌, refl, sym, ap, ◌∙◌}
use Rattle.algebra.specs.declared.basic.Basic.{Basic}
use Rattle.algebra.specs.Basics.{name_of}
use Rattle.books.specs.declared.stop.Kind.TheVariants.{Form}
use Rattle.books.specs.declared.word.Word.{Word}
use Rattle.books.specs.Derivations.{word_text}
use Rattle.books.specs.Combine.{Res, ◌>>=◌, expect}
use Rattle.books.specs.Reading.{leaf_at, word_at_front}
use Rattle.books.proofs.Sound.{SoundAt, Bytes, sound_expect}
use Rattle.books.proofs.Complete.{complete_leaf, complete_word}

choice_bind : {A B : Type 0} (b : Bool) (p q : Res A) (f : A → List ℕ → Res B) → ((if b then p else q) >>= f) ≡ (if b then (p >>= f) else (q >>= f))
choice_bind true p q f = refl
choice_bind false p q f = refl

-- what is expected in two parts
pub expect_both : (ws vs ts : List ℕ) → expect (ws ++ vs) ts ≡ (expect ws ts >>= λ u r. expect vs r)
expect_both [] vs ts = refl
expect_both (w ∷ ws) vs [] = refl
expect_both (w ∷ ws) vs (b ∷ ts) =
    ap (λ z. if b == w then z else Err (Form, b ∷ ts)) (expect_both ws vs ts)
    ∙ sym (choice_bind (b == w) (expect ws ts) (Err (Form, b ∷ ts)) (λ u r. expect vs r))

-- a text with these bytes at its front
taken : (ws ts r : List ℕ) (p : Res (Unit {0})) → SoundAt (Bytes ws) ts p → p ≡ Ok (tt, r) → ts ≡ ws ++ r
taken ws ts r (Ok y) s e = s.1 ∙ (λ i. s.2 i ++ rest y e i)
  where
    same : (y z : Unit {0} × List ℕ) → (let p : Res (Unit {0}) = Ok y in p ≡ Ok z) → y ≡ z
    same y z h = cc

    rest : (y : Unit {0} × List ℕ) → (let p : Res (Unit {0}) = Ok y in p ≡ Ok (tt, r)) → y.1 ≡ r
    rest y h = ap (λ z. z.1) (same y (tt, r) h)
taken ws ts r (Err d) s e = absurd (cc)

pub front_word : (x : Word) (ts r : List ℕ) → expect (word_text x ++ codes " ") ts ≡ Ok (tt, r) → word_at_front ts ≡ Ok (x, r)
front_word x ts r e =
    let ws = word_text x ++ codes " " in
    ap word_at_front (taken ws ts r (expect ws ts) (sound_expect ws ts) e) ∙ complete_word x r

pub front_leaf : (x : Basic) (ts r : List ℕ) → expect (name_of x) ts ≡ Ok (tt, r) → leaf_at ts ≡ Ok (x, r)
front_leaf x ts r e =
    ap leaf_at (taken (name_of x) ts r (expect (name_of x) ts) (sound_expect (name_of x) ts) e) ∙ complete_leaf x r
