-- Words and names of basics: one of some texts.
use Rattle.std.proofs.Common.{◌≡◌, inl, inr, ℕ, zero, suc, ◌+◌, ◌<◌, ◌≤◌, Bool, true, false, List, [], ◌∷◌, ◌++◌, length, length-append, nat_le, codes, if◌then◌else◌, Ok, Err, refl, sym, ◌∙◌, ap, arith}
use Rattle.std.proofs.lemmas.Bool.{leb-true, le-leb, leb-false, lt-leb}
use Rattle.algebra.specs.Basics.{name_of}
use Rattle.books.specs.declared.stop.Kind.{Kind}
use Rattle.books.specs.declared.stop.Kind.TheVariants.{Form}
use Rattle.books.specs.Derivations.{word_text, words}
use Rattle.books.specs.Combine.{Res, ◌>>=◌, expect, further, one_of}
use Rattle.books.specs.Reading.{basics, leaf_at, word_at_front}
use Rattle.books.proofs.Sound.{SoundAt, Spells, sound_one_of}
use Rattle.books.proofs.Complete.{complete_leaf, complete_word}
use Rattle.books.proofs.Locals.{AfterOk, AfterErr, IsLocal, Local, local_seq, local_done, local_expect}

-- where nothing is read, it goes wrong in the same way in any text with this front and the same next byte
abbrev Stuck : {A : Type 0} → (List ℕ → Res A) → (front : List ℕ) → Kind → (rest : List ℕ) → Type 0
Stuck p front k [] = Unit {0}
Stuck p front k (b ∷ r) = (more : List ℕ) → p (front ++ (b ∷ more)) ≡ Err (k, b ∷ more)

abbrev IsStuck : {A : Type 0} → (List ℕ → Res A) → List ℕ → Res A → Type 0
IsStuck p ts (Ok y) = Unit {0}
IsStuck p ts (Err e) = (front : List ℕ) × (ts ≡ front ++ e.1) × Stuck p front e.0 e.1

stuck_err : {A : Type 0} (p : List ℕ → Res A) (front : List ℕ) (k : Kind) (rest : List ℕ) → AfterErr (λ z. ⊥) p front k rest → Stuck p front k rest
stuck_err p front k [] s = tt
stuck_err p front k (b ∷ r) (inl s) = s
stuck_err p front k (b ∷ r) (inr s) = absurd s

stuck_of : {A : Type 0} (p : List ℕ → Res A) (ts : List ℕ) (x : Res A) → IsLocal (λ z. ⊥) p ts x → IsStuck p ts x
stuck_of p ts (Ok y) s = tt
stuck_of p ts (Err e) s = (s.0, s.1, stuck_err p s.0 e.0 e.1 s.2)

err_of : {A : Type 0} (B : List ℕ → Type 0) (p : List ℕ → Res A) (front : List ℕ) (k : Kind) (rest : List ℕ) → Stuck p front k rest → AfterErr B p front k rest
err_of B p front k [] s = tt
err_of B p front k (b ∷ r) s = inl s

-- of two faults in a text, a text that is the same up to the further one is the same up to the other one too
record Both (front : List ℕ) (b : ℕ) (more other : List ℕ) (c : ℕ) (ahead : ℕ) : Type 0 where
  behind : List ℕ
  same : front ++ (b ∷ more) ≡ other ++ (c ∷ behind)
  long : length behind ≡ length more + ahead

both : (front : List ℕ) (b : ℕ) (r more other : List ℕ) (c : ℕ) (l : List ℕ) (ahead : ℕ) → front ++ (b ∷ r) ≡ other ++ (c ∷ l) → length l ≡ length r + ahead → Both front b more other c ahead
both [] b r more [] c l ahead e long =
    let same : b ≡ c = cc in
    let rest : r ≡ l = cc in
    let none : ahead ≡ 0 = omega (arith, long, ap length rest) in
    record { behind = more; same = ap (λ z. z ∷ more) same; long = omega (arith, none) }
both [] b r more (y ∷ other) c l ahead e long =
    let rest : r ≡ other ++ (c ∷ l) = cc in
    absurd (omega (arith, long, ap length rest ∙ length-append other (c ∷ l)))
both (x ∷ front) b r more [] c l ahead e long =
    let same : x ≡ c = cc in
    let rest : front ++ (b ∷ r) ≡ l = cc in
    record {
      behind = front ++ (b ∷ more);
      same = ap (λ z. z ∷ (front ++ (b ∷ more))) same;
      long = omega (arith, long, sym (length-append front (b ∷ r)) ∙ ap length rest, length-append front (b ∷ more));
    }
both (x ∷ front) b r more (y ∷ other) c l ahead e long =
    let same : x ≡ y = cc in
    let rest : front ++ (b ∷ r) ≡ other ++ (c ∷ l) = cc in
    let s = both front b r more other c l ahead rest long in
    record { behind = s.behind; same = (λ i. same i ∷ s.same i); long = s.long }

-- how much longer one list is
ahead_of : (m n : ℕ) → m ≤ n → (k : ℕ) × (n ≡ m + k)
ahead_of zero n e = (n, omega arith)
ahead_of (suc m) zero e = absurd (omega (arith, e))
ahead_of (suc m) (suc n) e = let rest = ahead_of m n (omega (arith, e)) in (rest.0, omega (arith, rest.1))

first_stuck : {A : Type 0} (p q : List ℕ → Res A) (ts front other : List ℕ) (k j : Kind) (rest l : List ℕ) → ts ≡ front ++ rest → ts ≡ other ++ l → length rest ≤ length l → Stuck p front k rest → Stuck q other j l →
    Stuck (λ z. further (p z) (q z)) front k rest
first_stuck p q ts front other k j [] l is at shorter s t = tt
first_stuck p q ts front other k j (b ∷ r) [] is at shorter s t = absurd (omega (arith, shorter))
first_stuck p q ts front other k j (b ∷ r) (c ∷ l) is at shorter s t = λ more.
    let ahead = ahead_of (length r) (length l) (omega (arith, shorter)) in
    let w = both front b r more other c l ahead.0 (sym is ∙ at) ahead.1 in
    let second : q (front ++ (b ∷ more)) ≡ Err (j, c ∷ w.behind) = ap q w.same ∙ t w.behind in
    let test : nat_le (length (b ∷ more)) (length (c ∷ w.behind)) ≡ true = le-leb (length (b ∷ more)) (length (c ∷ w.behind)) (omega (arith, w.long)) in
    (λ i. further (s more i) (second i)) ∙ ap (λ x. if x then Err (k, b ∷ more) else Err (j, c ∷ w.behind)) test

second_stuck : {A : Type 0} (p q : List ℕ → Res A) (ts front other : List ℕ) (k j : Kind) (rest l : List ℕ) → ts ≡ front ++ rest → ts ≡ other ++ l → length l < length rest → Stuck p front k rest → Stuck q other j l →
    Stuck (λ z. further (p z) (q z)) other j l
second_stuck p q ts front other k j rest [] is at shorter s t = tt
second_stuck p q ts front other k j [] (c ∷ l) is at shorter s t = absurd (omega (arith, shorter))
second_stuck p q ts front other k j (b ∷ r) (c ∷ l) is at shorter s t = λ more.
    let ahead = ahead_of (suc (length l)) (length r) (omega (arith, shorter)) in
    let w = both other c l more front b r (suc ahead.0) (sym at ∙ is) (omega (arith, ahead.1)) in
    let first : p (other ++ (c ∷ more)) ≡ Err (k, b ∷ w.behind) = ap p w.same ∙ s w.behind in
    let test : nat_le (length (b ∷ w.behind)) (length (c ∷ more)) ≡ false = lt-leb (length (b ∷ w.behind)) (length (c ∷ more)) (omega (arith, w.long)) in
    (λ i. further (first i) (t more i)) ∙ ap (λ x. if x then Err (k, b ∷ w.behind) else Err (j, c ∷ more)) test

stuck_both : {A : Type 0} (p q : List ℕ → Res A) (ts : List ℕ) (e d : Kind × List ℕ) (t : Bool) → nat_le (length e.1) (length d.1) ≡ t → IsStuck p ts (Err e) → IsStuck q ts (Err d) →
    IsStuck (λ z. further (p z) (q z)) ts (if t then Err e else Err d)
stuck_both p q ts e d true is s u = (s.0, s.1, first_stuck p q ts s.0 u.0 e.0 d.0 e.1 d.1 s.1 u.1 (leb-true (length e.1) (length d.1) is) s.2 u.2)
stuck_both p q ts e d false is s u = (u.0, u.1, second_stuck p q ts s.0 u.0 e.0 d.0 e.1 d.1 s.1 u.1 (leb-false (length e.1) (length d.1) is) s.2 u.2)

stuck_further : {A : Type 0} (p q : List ℕ → Res A) (ts : List ℕ) (x y : Res A) → IsStuck p ts x → IsStuck q ts y → IsStuck (λ z. further (p z) (q z)) ts (further x y)
stuck_further p q ts (Ok x) y s t = tt
stuck_further p q ts (Err e) (Ok y) s t = tt
stuck_further p q ts (Err e) (Err d) s t = stuck_both p q ts e d (nat_le (length e.1) (length d.1)) refl s t

stuck_one_of : {A : Type 0} (spell : A → List ℕ) (xs : List A) (ts : List ℕ) → IsStuck (one_of spell xs) ts (one_of spell xs ts)
stuck_one_of spell [] ts = ([], refl, stop ts)
  where
    stop : (ts : List ℕ) → Stuck (one_of spell []) [] Form ts
    stop [] = tt
    stop (b ∷ ts) = λ more. refl
stuck_one_of spell (x ∷ xs) ts =
    let p : List ℕ → Res _ = λ z. expect (spell x) z >>= λ u r. Ok (x, r) in
    stuck_further p (one_of spell xs) ts (p ts) (one_of spell xs ts)
    (stuck_of p ts (p ts) (local_seq (λ z. ⊥) (expect (spell x)) (λ u r. Ok (x, r)) ts (local_expect (λ z. ⊥) (spell x) ts) (λ u r. local_done (λ z. ⊥) x r)).at) (stuck_one_of spell xs ts)

-- where each text is read whatever stands behind it
one_ok : {A : Type 0} (spell : A → List ℕ) (xs : List A) → ((x : A) (more : List ℕ) → one_of spell xs (spell x ++ more) ≡ Ok (x, more)) → (front : List ℕ) (x : A) (rest : List ℕ) → front ≡ spell x →
    AfterOk (one_of spell xs) front x rest
one_ok spell xs whole front x [] e = tt
one_ok spell xs whole front x (b ∷ r) e = λ more. ap (λ z. one_of spell xs (z ++ (b ∷ more))) e ∙ whole x (b ∷ more)

one_by : {A : Type 0} (B : List ℕ → Type 0) (spell : A → List ℕ) (xs : List A) → ((x : A) (more : List ℕ) → one_of spell xs (spell x ++ more) ≡ Ok (x, more)) → (ts : List ℕ) (r : Res A) → SoundAt (Spells spell) ts r →
    IsStuck (one_of spell xs) ts r → IsLocal B (one_of spell xs) ts r
one_by B spell xs whole ts (Ok y) s t = (s.0, s.1, one_ok spell xs whole s.0 y.0 y.1 s.2)
one_by B spell xs whole ts (Err e) s t = (t.0, t.1, err_of B (one_of spell xs) t.0 e.0 e.1 t.2)

local_one_of : {A : Type 0} (B : List ℕ → Type 0) (spell : A → List ℕ) (xs : List A) → ((x : A) (more : List ℕ) → one_of spell xs (spell x ++ more) ≡ Ok (x, more)) → (ts : List ℕ) → Local B (one_of spell xs) ts
local_one_of B spell xs whole ts = record { at = one_by B spell xs whole ts (one_of spell xs ts) (sound_one_of spell xs ts) (stuck_one_of spell xs ts) }

pub local_leaf : (B : List ℕ → Type 0) (ts : List ℕ) → Local B leaf_at ts
unfolding leaf_at
local_leaf B ts = local_one_of B name_of basics (λ x more. complete_leaf x more) ts

pub local_word : (B : List ℕ → Type 0) (ts : List ℕ) → Local B word_at_front ts
unfolding word_at_front
local_word B ts = local_one_of B (λ w. word_text w ++ codes " ") words (λ x more. complete_word x more) ts
