-- Passing over trees and nodes gives what reading them gives, seen by less.
use Rattle.std.proofs.Common.{◌≡◌, ℕ, zero, suc, ◌-◌, ◌<◌, ◌≤◌, ◌^◌, ◌==◌, Bool, true, false, List, [], ◌∷◌, ◌++◌, length, length-append, take, codes, Ok, Err, if◌then◌else◌, refl, sym, ◌∙◌, ap, subst, arith}
use Rattle.std.proofs.Math.Seq.{take-append_seam}
use Rattle.base.proofs.Options.{choice_same}
use Rattle.conditions.specs.Conditions.{Cond}
use Rattle.conditions.specs.Texts.{text_of}
use Rattle.books.specs.declared.stop.Kind.TheVariants.{Form, TooDeep}
use Rattle.books.specs.Derivations.{Node}
use Rattle.books.specs.Books.{HasPaths}
use Rattle.books.specs.Combine.{Res, ◌>>=◌, seen, unread, begins, expect, at_most, several}
use Rattle.books.specs.Reading.{word_at_front, number_at, premise_with, node_at}
use Rattle.books.specs.Passing.{pass_premise, pass_at_most, pass_several, pass_node}
use Rattle.books.proofs.Sound.{SoundAt}
use Rattle.books.proofs.SoundTrees.{ReadsTree, ReadsNode, sound_node}
use Rattle.books.proofs.Several.{next_same, unseen, Takes}

-- a part that is passed over in place of a part that is read, and then what follows
pub pass_seq : {A B C D : Type 0} (f : A → B) (g : C → D) (p : Res A) (q : Res B) (h : A → List ℕ → Res C) (k : B → List ℕ → Res D) → q ≡ seen f p →
    ((a : A) (r : List ℕ) → p ≡ Ok (a, r) → k (f a) r ≡ seen g (h a r)) → (q >>= k) ≡ seen g (p >>= h)
pass_seq f g (Ok y) q h k is rest = ap (λ z. z >>= k) is ∙ rest y.0 y.1 refl
pass_seq f g (Err e) q h k is rest = ap (λ z. z >>= k) is

-- a part that both read
pub pass_same : {A C D : Type 0} (g : C → D) (p : Res A) (h : A → List ℕ → Res C) (k : A → List ℕ → Res D) →
    ((a : A) (r : List ℕ) → p ≡ Ok (a, r) → k a r ≡ seen g (h a r)) → (p >>= k) ≡ seen g (p >>= h)
pass_same g (Ok y) h k rest = rest y.0 y.1 refl
pass_same g (Err e) h k rest = refl

pub pass_if : {C D : Type 0} (g : C → D) (b : Bool) (x y : Res D) (u v : Res C) → x ≡ seen g u → y ≡ seen g v → (if b then x else y) ≡ seen g (if b then u else v)
pass_if g true x y u v e d = e
pass_if g false x y u v e d = d

-- what a text of a tree is that was read
pub front_of : (room : ℕ) (ts : List ℕ) (t : Cond) (r : List ℕ) → (s : Res Cond) → SoundAt (ReadsTree room) ts s → s ≡ Ok (t, r) → (ts ≡ text_of t ++ r) × HasPaths t
front_of room ts t r (Ok y) s e =
    let same : (y.0 ≡ t) × (y.1 ≡ r) = pair y t r e in
    (s.1 ∙ (λ i. s.2.0 i ++ same.1 i) ∙ ap (λ z. text_of z ++ r) same.0, subst HasPaths same.0 s.2.1)
  where
    ok_same : (y z : Cond × List ℕ) → (let r : Res Cond = Ok y in r ≡ Ok z) → y ≡ z
    ok_same y z h = cc

    pair : (y : Cond × List ℕ) (t : Cond) (r : List ℕ) → (let s : Res Cond = Ok y in s ≡ Ok (t, r)) → (y.0 ≡ t) × (y.1 ≡ r)
    pair y t r e = (ap (λ z. z.0) (ok_same y (t, r) e), ap (λ z. z.1) (ok_same y (t, r) e))
front_of room ts t r (Err e) s d = absurd (cc)

-- the texts of two trees differ exactly where the trees do
pub front_taken : (front r : List ℕ) → take (length (front ++ r) - length r) (front ++ r) ≡ front
front_taken front r =
    let size : length (front ++ r) - length r ≡ length front = omega (arith, length-append front r) in
    ap (λ n. take n (front ++ r)) size ∙ take-append_seam front r

pub same_test : (a b : Bool) → (a ≡ true → b ≡ true) → (b ≡ true → a ≡ true) → a ≡ b
same_test true true to from = refl
same_test true false to from = sym (to refl)
same_test false true to from = from refl
same_test false false to from = refl

-- items that are passed over
pub pass_at_most-is : {A : Type 0} (byte : ℕ) (item : List ℕ → Res A) (pass : List ℕ → Res (Unit {0})) → ((ts : List ℕ) → pass ts ≡ unread (item ts)) →
    (n : ℕ) (ts : List ℕ) → pass_at_most n byte pass ts ≡ unread (at_most n byte item ts)
pass_at_most-is byte item pass same zero ts = refl
pass_at_most-is {A} byte item pass same (suc n) ts =
    pass_if (λ xs. tt {0}) (begins byte ts) (pass ts >>= λ u ts. pass_at_most n byte pass ts) (Ok (tt, ts)) (item ts >>= λ x ts. at_most n byte item ts >>= λ xs ts. Ok (x ∷ xs, ts)) (Ok ([], ts))
    (pass_seq (λ x. tt {0}) (λ xs. tt {0}) (item ts) (pass ts) (λ x ts. at_most n byte item ts >>= λ xs ts. Ok (x ∷ xs, ts)) (λ u ts. pass_at_most n byte pass ts) (same ts)
    (λ x r e. pass_at_most-is byte item pass same n r ∙ kept x (at_most n byte item r)))
    refl
  where
    kept : (x : A) (p : Res (List A)) → unread p ≡ unread (p >>= λ xs ts. Ok (x ∷ xs, ts))
    kept x (Ok y) = refl
    kept x (Err e) = refl

pub pass_several-is : {A : Type 0} (byte : ℕ) (item : List ℕ → Res A) (pass : List ℕ → Res (Unit {0})) → ((ts : List ℕ) → pass ts ≡ unread (item ts)) →
    (ts : List ℕ) → pass_several byte pass ts ≡ unread (several byte item ts)
unfolding pass_several several
pass_several-is byte item pass same ts = pass_at_most-is byte item pass same (length ts) ts

pass_premise-is : (inner : List ℕ → Res Node) (pass : List ℕ → Res (Unit {0})) → ((ts : List ℕ) → pass ts ≡ unread (inner ts)) →
    (ts : List ℕ) → pass_premise pass ts ≡ unread (premise_with inner ts)
pass_premise-is inner pass same ts = pass_same (λ d. tt {0}) (expect (codes " ") ts) (λ u ts. inner ts) (λ u ts. pass ts) (λ u r e. same r)

pub pass_node-is : (count room : ℕ) (ts : List ℕ) → pass_node count room ts ≡ unread (node_at count room ts)
unfolding pass_node node_at
pass_node-is count zero ts = pass_if (λ d. tt {0}) (begins 40 ts) (Err (TooDeep, ts)) (Err (Form, ts)) (Err (TooDeep, ts)) (Err (Form, ts)) refl refl
pass_node-is count (suc room) ts =
    pass_same (λ d. tt {0}) (expect (codes "(") ts) _ _ λ u r e.
    pass_same (λ d. tt {0}) (word_at_front r) _ _ λ w r e.
    pass_same (λ d. tt {0}) (number_at count r) _ _ λ n r e.
    pass_seq (λ ds. tt {0}) (λ d. tt {0}) (several 32 (premise_with (node_at count room)) r) (pass_several 32 (pass_premise (pass_node count room)) r) _ _
    (pass_several-is 32 (premise_with (node_at count room)) (pass_premise (pass_node count room)) (pass_premise-is (node_at count room) (pass_node count room) (λ z. pass_node-is count room z)) r) λ ds r e.
    pass_same (λ d. tt {0}) (expect (codes ")") r) _ _ λ u r e. refl

-- a node takes a byte
node_takes : (s : Res Node) (count room : ℕ) (ts : List ℕ) (d : Node) (r : List ℕ) → SoundAt (ReadsNode count room) ts s → s ≡ Ok (d, r) → length r ≤ length ts
node_takes (Ok y) count room ts d r s e =
    let same : y.1 ≡ r = rest y e in
    omega (arith, ap length s.1, length-append s.0 y.1, ap length same)
  where
    ok_same : (y z : Node × List ℕ) → (let r : Res Node = Ok y in r ≡ Ok z) → y ≡ z
    ok_same y z h = cc

    rest : (y : Node × List ℕ) → (let s : Res Node = Ok y in s ≡ Ok (d, r)) → y.1 ≡ r
    rest y e = ap (λ z. z.1) (ok_same y (d, r) e)
node_takes (Err e) count room ts d r s h = absurd (cc)

premise_step : (inner : List ℕ → Res Node) (b : ℕ) (ts : List ℕ) (same : Bool) (d : Node) (r : List ℕ) → ((z : List ℕ) → inner z ≡ Ok (d, r) → length r ≤ length z) →
    (let p : Res (Unit {0}) = if same then Ok (tt, ts) else Err (Form, b ∷ ts) in (p >>= λ u ts. inner ts) ≡ Ok (d, r)) → length r < length (b ∷ ts)
premise_step inner b ts true d r law e = omega (arith, law ts e)
premise_step inner b ts false d r law e = absurd (cc)

pub premise_takes : (count : ℕ) → count ≤ 2 ^ 64 → (room : ℕ) (ts : List ℕ) (d : Node) (r : List ℕ) → premise_with (node_at count room) ts ≡ Ok (d, r) → length r < length ts
premise_takes count small room [] d r e = absurd (cc)
premise_takes count small room (b ∷ ts) d r e =
    premise_step (node_at count room) b ts (b == 32) d r (λ z is. node_takes (node_at count room z) count room z d r (sound_node count small room z) is) e

-- one premise more, and the end
pub pass_takes : (count : ℕ) → count ≤ 2 ^ 64 → (room : ℕ) (ts : List ℕ) (u : Unit {0}) (r : List ℕ) → pass_premise (pass_node count room) ts ≡ Ok (u, r) → length r < length ts
pass_takes count small room ts u r e =
    let read = unseen (λ d. tt {0}) (premise_with (node_at count room) ts) u r (sym (pass_premise-is (node_at count room) (pass_node count room) (λ z. pass_node-is count room z) ts) ∙ e) in
    premise_takes count small room ts read.0 r read.1

pass_fuel : (byte : ℕ) (item : List ℕ → Res (Unit {0})) → Takes item → (n m : ℕ) (ts : List ℕ) → length ts ≤ n → length ts ≤ m →
    pass_at_most n byte item ts ≡ pass_at_most m byte item ts
pass_fuel byte item takes zero zero ts h k = refl
pass_fuel byte item takes zero (suc m) [] h k = refl
pass_fuel byte item takes zero (suc m) (b ∷ ts) h k = absurd (omega (arith, h))
pass_fuel byte item takes (suc n) zero [] h k = refl
pass_fuel byte item takes (suc n) zero (b ∷ ts) h k = absurd (omega (arith, k))
pass_fuel byte item takes (suc n) (suc m) ts h k =
    choice_same (begins byte ts) (item ts >>= λ x ts. pass_at_most n byte item ts) (item ts >>= λ x ts. pass_at_most m byte item ts) (Ok (tt, ts))
    (λ go. next_same (λ x ts. pass_at_most n byte item ts) (λ x ts. pass_at_most m byte item ts) (item ts)
    (λ x r is. let shorter = takes ts x r is in pass_fuel byte item takes n m r (omega (arith, h, shorter)) (omega (arith, k, shorter))))

pub several_pass_done : (byte : ℕ) (item : List ℕ → Res (Unit {0})) (ts : List ℕ) → begins byte ts ≡ false → pass_several byte item ts ≡ Ok (tt, ts)
unfolding pass_several
several_pass_done byte item [] e = refl
several_pass_done byte item (b ∷ ts) e = rw e refl

pub several_pass_more : (byte : ℕ) (item : List ℕ → Res (Unit {0})) → Takes item → (ts : List ℕ) → begins byte ts ≡ true →
    pass_several byte item ts ≡ (item ts >>= λ u ts. pass_several byte item ts)
unfolding pass_several
several_pass_more byte item takes [] e = absurd (let no : false ≡ true = e in cc)
several_pass_more byte item takes (b ∷ ts) e =
    let step : pass_at_most (suc (length ts)) byte item (b ∷ ts) ≡ (item (b ∷ ts) >>= λ u r. pass_at_most (length ts) byte item r) = rw e refl in
    step ∙ next_same (λ u r. pass_at_most (length ts) byte item r) (λ u r. pass_at_most (length r) byte item r) (item (b ∷ ts))
    (λ u r is. let shorter = takes (b ∷ ts) u r is in pass_fuel byte item takes (length ts) (length r) r (omega (arith, shorter)) (omega arith))

pub premises_more : (count room : ℕ) (ts : List ℕ) → count ≤ 2 ^ 32 → begins 32 ts ≡ true →
    pass_several 32 (pass_premise (pass_node count room)) ts ≡ (pass_premise (pass_node count room) ts >>= λ u ts. pass_several 32 (pass_premise (pass_node count room)) ts)
premises_more count room ts small e =
    several_pass_more 32 (pass_premise (pass_node count room)) (λ ts u r is. pass_takes count (omega (arith, small)) room ts u r is) ts e

pub premises_done : (count room : ℕ) (ts : List ℕ) → begins 32 ts ≡ false → pass_several 32 (pass_premise (pass_node count room)) ts ≡ Ok (tt, ts)
premises_done count room ts e = several_pass_done 32 (pass_premise (pass_node count room)) ts e

pub premises_shorter : (count room : ℕ) (ts : List ℕ) (u : Unit {0}) (r : List ℕ) → count ≤ 2 ^ 32 → pass_premise (pass_node count room) ts ≡ Ok (u, r) → length r < length ts
premises_shorter count room ts u r small e = pass_takes count (omega (arith, small)) room ts u r e
