-- How a part of a text is judged: what is read of it, or where it stops, and that so it is in each text that goes on alike.
use Rattle.std.proofs.Common.{◌≡◌, ◌⊎◌, inl, inr, ℕ, ◌==◌, ◌-◌, ◌≤◌, Bool, true, false, List, [], ◌∷◌, ◌++◌, length, length-append, if◌then◌else◌, Ok, Err, refl, sym, ◌∙◌, ap, subst, arith, append_assoc}
use Rattle.std.proofs.lemmas.Bool.Decides.{nat_tests}
use Rattle.books.specs.declared.stop.Kind.TheVariants.{Form}
use Rattle.books.specs.Combine.{Res, ◌>>=◌, begins, expect}
use Rattle.books.proofs.Locals.{AfterOk, along_ok, goes_on, both_ok, same_first, under_ok}
use Rattle.books.proofs.Sound.{Bytes}

-- nothing is read
abbrev pub Fails : {A : Type 0} → Res A → Type 0
Fails (Ok y) = ⊥
Fails (Err e) = Unit {0}

-- with this front and the same next byte, nothing is read of any text
abbrev pub StopsOn : {A : Type 0} → (List ℕ → Res A) → (front rest : List ℕ) → Type 0
StopsOn q front [] = Unit {0}
StopsOn q front (b ∷ r) = (more : List ℕ) → Fails (q (front ++ (b ∷ more)))

-- some text that L relates to a value begins so
pub record Begun {A : Type 0} (L : List ℕ → A → Type 0) (front : List ℕ) : Type 0 where
  pub more : List ℕ
  pub value : A
  pub is : L (front ++ more) value

-- a value was read: L relates its text to it, and so does M, which asks for less
pub record ReadOf {A : Type 0} (L M : List ℕ → A → Type 0) (q : List ℕ → Res A) (ts : List ℕ) (value : A) (rest : List ℕ) : Type 0 where
  pub front : List ℕ
  pub whole : ts ≡ front ++ rest
  pub is : L front value
  pub fits : M front value
  pub on : AfterOk q front value rest

-- nothing was read: either nothing is read of any text that goes on alike, or B relates what stands before and behind the place
pub record StoppedAt {A : Type 0} (M : List ℕ → A → Type 0) (B : List ℕ → List ℕ → Type 0) (q : List ℕ → Res A) (ts rest : List ℕ) : Type 0 where
  pub front : List ℕ
  pub whole : ts ≡ front ++ rest
  pub begun : Begun M front
  pub why : StopsOn q front rest ⊎ B front rest

abbrev pub IsJudged : {A : Type 0} → (L M : List ℕ → A → Type 0) → (List ℕ → List ℕ → Type 0) → (List ℕ → Res A) → List ℕ → Res A → Type 0
IsJudged L M B q ts (Ok y) = ReadOf L M q ts y.0 y.1
IsJudged L M B q ts (Err e) = StoppedAt M B q ts e.1

-- what was read of a text, and what another reader, which asks for less, reads of texts that go on alike
pub record Judged {A : Type 0} (L M : List ℕ → A → Type 0) (B : List ℕ → List ℕ → Type 0) (q : List ℕ → Res A) (ts : List ℕ) (x : Res A) : Type 0 where
  pub at : IsJudged L M B q ts x

-- nothing breaks a rule
abbrev pub Never : List ℕ → List ℕ → Type 0
Never front rest = ⊥

some_by : {A : Type 0} (L M : List ℕ → A → Type 0) (B : List ℕ → List ℕ → Type 0) (q : List ℕ → Res A) (ts : List ℕ) (x : Res A) → IsJudged L M B q ts x → Begun M []
some_by L M B q ts (Ok y) s = record { more = s.front; value = y.0; is = s.fits }
some_by L M B q ts (Err e) s = record { more = s.front ++ s.begun.more; value = s.begun.value; is = s.begun.is }

-- ---- one part, and then another

then_stops : {A C : Type 0} (q : List ℕ → Res A) (g : A → List ℕ → Res C) (front : List ℕ) (a : A) (rest next last : List ℕ) → rest ≡ next ++ last → AfterOk q front a rest →
    StopsOn (g a) next last → StopsOn (λ z. q z >>= g) (front ++ next) last
then_stops q g front a rest next [] e s t = tt
then_stops q g front a rest next (b ∷ l) e s t = λ more.
    subst Fails (sym (ap (λ z. q z >>= g) (append_assoc front next (b ∷ more)) ∙ ap (λ z. z >>= g) (goes_on q front a rest next b l e s more))) (t more)

fails_then : {A C : Type 0} (x : Res A) (g : A → List ℕ → Res C) → Fails x → Fails (x >>= g)
fails_then (Ok y) g s = absurd s
fails_then (Err e) g s = tt

first_stops : {A C : Type 0} (q : List ℕ → Res A) (g : A → List ℕ → Res C) (front rest : List ℕ) → StopsOn q front rest → StopsOn (λ z. q z >>= g) front rest
first_stops q g front [] s = tt
first_stops q g front (b ∷ r) s = λ more. fails_then (q (front ++ (b ∷ more))) g (s more)

pub why_first : {A C : Type 0} (D B : List ℕ → List ℕ → Type 0) (q : List ℕ → Res A) (g : A → List ℕ → Res C) (front rest : List ℕ) → ((front rest : List ℕ) → D front rest → B front rest) → StopsOn q front rest ⊎ D front rest →
    StopsOn (λ z. q z >>= g) front rest ⊎ B front rest
why_first D B q g front rest up (inl s) = inl (first_stops q g front rest s)
why_first D B q g front rest up (inr s) = inr (up front rest s)

why_then : {A C : Type 0} (K : Type 0) (B : List ℕ → List ℕ → Type 0) (q : List ℕ → Res A) (g : A → List ℕ → Res C) (front : List ℕ) (a : A) (rest next last : List ℕ) → rest ≡ next ++ last → AfterOk q front a rest → K →
    StopsOn (g a) next last ⊎ (K → B (front ++ next) last) → StopsOn (λ z. q z >>= g) (front ++ next) last ⊎ B (front ++ next) last
why_then K B q g front a rest next last e s k (inl t) = inl (then_stops q g front a rest next last e s t)
why_then K B q g front a rest next last e s k (inr t) = inr (t k)

behind : {A C : Type 0} (K : Type 0) (L M : List ℕ → C → Type 0) (B : List ℕ → List ℕ → Type 0) (q : List ℕ → Res A) (g : A → List ℕ → Res C) (ts front : List ℕ) (a : A) (rest : List ℕ) → ts ≡ front ++ rest → AfterOk q front a rest → K →
    (x : Res C) → IsJudged (λ ys c. K → L (front ++ ys) c) (λ ys c. M (front ++ ys) c) (λ ys zs. K → B (front ++ ys) zs) (g a) rest x → IsJudged L M B (λ z. q z >>= g) ts x
behind K L M B q g ts front a rest is s k (Ok y) t = record {
  front = front ++ t.front;
  whole = is ∙ ap (λ z. front ++ z) t.whole ∙ sym (append_assoc front t.front y.1);
  is = t.is k;
  fits = t.fits;
  on = both_ok q g front a rest t.front y.0 y.1 t.whole s t.on;
}
behind K L M B q g ts front a rest is s k (Err d) t = record {
  front = front ++ t.front;
  whole = is ∙ ap (λ z. front ++ z) t.whole ∙ sym (append_assoc front t.front d.1);
  begun = record { more = t.begun.more; value = t.begun.value; is = subst (λ z. M z t.begun.value) (sym (append_assoc front t.front t.begun.more)) t.begun.is };
  why = why_then K B q g front a rest t.front d.1 t.whole s k t.why;
}

-- what is asked of the second part: K tells what was read of the first, and N less of it
abbrev pub Goes : {A C : Type 0} → (K N : List ℕ → A → Type 0) → (L M : List ℕ → C → Type 0) → (List ℕ → List ℕ → Type 0) → (A → List ℕ → Res C) → (A → List ℕ → Res C) → List ℕ → Type 0
Goes {A} K N L M B g f ts = (a : A) (known : List ℕ) → N known a → (r : List ℕ) → length r ≤ length ts - length known →
    Judged (λ ys c. K known a → L (known ++ ys) c) (λ ys c. M (known ++ ys) c) (λ ys zs. K known a → B (known ++ ys) zs) (g a) r (f a r)

loose_by : {A C : Type 0} (K N : List ℕ → A → Type 0) (D : List ℕ → List ℕ → Type 0) (L M : List ℕ → C → Type 0) (B : List ℕ → List ℕ → Type 0) (q : List ℕ → Res A) (g : A → List ℕ → Res C) (ts : List ℕ) (x : Res A) (f : A → List ℕ → Res C) →
    ((front rest : List ℕ) → D front rest → B front rest) → IsJudged K N D q ts x → Goes K N L M B g f ts → IsJudged L M B (λ z. q z >>= g) ts (x >>= f)
loose_by K N D L M B q g ts (Ok y) f up s next =
    behind (K s.front y.0) L M B q g ts s.front y.0 y.1 s.whole s.on s.is (f y.0 y.1) (next y.0 s.front s.fits y.1 (omega (arith, ap length s.whole, length-append s.front y.1))).at
loose_by K N D L M B q g ts (Err e) f up s next =
    let known = s.front ++ s.begun.more in let a = s.begun.value in
    let last = some_by (λ ys c. K known a → L (known ++ ys) c) (λ ys c. M (known ++ ys) c) (λ ys zs. K known a → B (known ++ ys) zs) (g a) [] (f a []) (next a known s.begun.is [] (omega arith)).at in
    record {
      front = s.front;
      whole = s.whole;
      begun = record { more = s.begun.more ++ last.more; value = last.value; is = subst (λ z. M z last.value) (append_assoc s.front s.begun.more last.more) last.is };
      why = why_first D B q g s.front e.1 up s.why;
    }

pub judged_loose : {A C : Type 0} (K N : List ℕ → A → Type 0) (D : List ℕ → List ℕ → Type 0) (L M : List ℕ → C → Type 0) (B : List ℕ → List ℕ → Type 0) (q : List ℕ → Res A) (g : A → List ℕ → Res C) (ts : List ℕ) (x : Res A) (f : A → List ℕ → Res C) →
    ((front rest : List ℕ) → D front rest → B front rest) → Judged K N D q ts x → Goes K N L M B g f ts → Judged L M B (λ z. q z >>= g) ts (x >>= f)
judged_loose K N D L M B q g ts x f up s next = record { at = loose_by K N D L M B q g ts x f up s.at next }

-- ---- less is asked

weaker_by : {A : Type 0} (K N L M : List ℕ → A → Type 0) (D B : List ℕ → List ℕ → Type 0) (q : List ℕ → Res A) (ts : List ℕ) (x : Res A) → ((front : List ℕ) (a : A) → K front a → L front a) → ((front : List ℕ) (a : A) → N front a → M front a) →
    ((front rest : List ℕ) → D front rest → B front rest) → IsJudged K N D q ts x → IsJudged L M B q ts x
weaker_by K N L M D B q ts (Ok y) h k up s = record { front = s.front; whole = s.whole; is = h s.front y.0 s.is; fits = k s.front y.0 s.fits; on = s.on }
weaker_by K N L M D B q ts (Err e) h k up s =
    record { front = s.front; whole = s.whole; begun = record { more = s.begun.more; value = s.begun.value; is = k (s.front ++ s.begun.more) s.begun.value s.begun.is }; why = why s.why }
  where
    why : StopsOn q s.front e.1 ⊎ D s.front e.1 → StopsOn q s.front e.1 ⊎ B s.front e.1
    why (inl t) = inl t
    why (inr t) = inr (up s.front e.1 t)

pub judged_weaker : {A : Type 0} (K N L M : List ℕ → A → Type 0) (D B : List ℕ → List ℕ → Type 0) (q : List ℕ → Res A) (ts : List ℕ) (x : Res A) → ((front : List ℕ) (a : A) → K front a → L front a) → ((front : List ℕ) (a : A) → N front a → M front a) →
    ((front rest : List ℕ) → D front rest → B front rest) → Judged K N D q ts x → Judged L M B q ts x
judged_weaker K N L M D B q ts x h k up s = record { at = weaker_by K N L M D B q ts x h k up s.at }

-- of the second part is asked what is missing behind the first, of which no less is asked
pub judged_seq : {A C : Type 0} (K : List ℕ → A → Type 0) (D : List ℕ → List ℕ → Type 0) (L M : List ℕ → C → Type 0) (B : List ℕ → List ℕ → Type 0) (q : List ℕ → Res A) (g : A → List ℕ → Res C) (ts : List ℕ) (x : Res A) (f : A → List ℕ → Res C) →
    ((front rest : List ℕ) → D front rest → B front rest) → Judged K K D q ts x →
    ((a : A) (known : List ℕ) → K known a → (r : List ℕ) → length r ≤ length ts - length known → Judged (λ ys c. L (known ++ ys) c) (λ ys c. M (known ++ ys) c) (λ ys zs. B (known ++ ys) zs) (g a) r (f a r)) →
    Judged L M B (λ z. q z >>= g) ts (x >>= f)
judged_seq K D L M B q g ts x f up s next = judged_loose K K D L M B q g ts x f up s (λ a known k r short.
    judged_weaker (λ ys c. L (known ++ ys) c) (λ ys c. M (known ++ ys) c) (λ ys c. K known a → L (known ++ ys) c) (λ ys c. M (known ++ ys) c) (λ ys zs. B (known ++ ys) zs) (λ ys zs. K known a → B (known ++ ys) zs) (g a) r (f a r)
    (λ ys c h t. h) (λ ys c h. h) (λ ys zs h t. h) (next a known k r short))

pub judged_done : {A : Type 0} (L M : List ℕ → A → Type 0) (B : List ℕ → List ℕ → Type 0) (a : A) (ts : List ℕ) → L [] a → M [] a → Judged L M B (λ z. Ok (a, z)) ts (Ok (a, ts))
judged_done {A} L M B a ts is fits = record { at = record { front = []; whole = refl; is = is; fits = fits; on = done ts } }
  where
    done : (ts : List ℕ) → AfterOk (λ z. Ok (a, z)) [] a ts
    done [] = tt
    done (b ∷ ts) = λ more. refl

-- ---- another reader that is the same on the texts that are asked for

along_stop : {A : Type 0} (p q : List ℕ → Res A) (front rest : List ℕ) → ((b : ℕ) (r more : List ℕ) → rest ≡ b ∷ r → q (front ++ (b ∷ more)) ≡ p (front ++ (b ∷ more))) → StopsOn p front rest → StopsOn q front rest
along_stop p q front [] same s = tt
along_stop p q front (b ∷ r) same s = λ more. subst Fails (sym (same b r more refl)) (s more)

along_why : {A : Type 0} (B : List ℕ → List ℕ → Type 0) (p q : List ℕ → Res A) (front rest : List ℕ) → ((b : ℕ) (r more : List ℕ) → rest ≡ b ∷ r → q (front ++ (b ∷ more)) ≡ p (front ++ (b ∷ more))) →
    StopsOn p front rest ⊎ B front rest → StopsOn q front rest ⊎ B front rest
along_why B p q front rest same (inl s) = inl (along_stop p q front rest same s)
along_why B p q front rest same (inr s) = inr s

along : {A : Type 0} (L M : List ℕ → A → Type 0) (B : List ℕ → List ℕ → Type 0) (p q : List ℕ → Res A) (ts : List ℕ) → ((front : List ℕ) (b : ℕ) (r more : List ℕ) → ts ≡ front ++ (b ∷ r) → q (front ++ (b ∷ more)) ≡ p (front ++ (b ∷ more))) →
    (x : Res A) → IsJudged L M B p ts x → IsJudged L M B q ts x
along L M B p q ts same (Ok y) s =
    record { front = s.front; whole = s.whole; is = s.is; fits = s.fits; on = along_ok p q s.front y.0 y.1 (λ b r more e. same s.front b r more (s.whole ∙ ap (λ z. s.front ++ z) e)) s.on }
along L M B p q ts same (Err d) s =
    record { front = s.front; whole = s.whole; begun = s.begun; why = along_why B p q s.front d.1 (λ b r more e. same s.front b r more (s.whole ∙ ap (λ z. s.front ++ z) e)) s.why }

pub judged_same : {A : Type 0} (L M : List ℕ → A → Type 0) (B : List ℕ → List ℕ → Type 0) (p q : List ℕ → Res A) (ts : List ℕ) (x : Res A) → ((z : List ℕ) → q z ≡ p z) → Judged L M B p ts x → Judged L M B q ts x
judged_same L M B p q ts x same s = record { at = along L M B p q ts (λ front b r more e. same (front ++ (b ∷ more))) x s.at }

-- ---- a choice by the first byte

choice_by : {A : Type 0} (L M : List ℕ → A → Type 0) (B : List ℕ → List ℕ → Type 0) (byte : ℕ) (p q : List ℕ → Res A) (ts : List ℕ) (x y : Res A) (test : Bool) → begins byte ts ≡ test →
    (test ≡ true → Judged L M B p ts x) → (test ≡ false → Judged L M B q ts y) → IsJudged L M B (λ z. if begins byte z then p z else q z) ts (if test then x else y)
choice_by L M B byte p q ts x y true e first other = along L M B p (λ z. if begins byte z then p z else q z) ts
    (λ front b r more is. ap (λ t. if t then p (front ++ (b ∷ more)) else q (front ++ (b ∷ more))) (same_first byte front b r more ∙ ap (begins byte) (sym is) ∙ e)) x (first refl).at
choice_by L M B byte p q ts x y false e first other = along L M B q (λ z. if begins byte z then p z else q z) ts
    (λ front b r more is. ap (λ t. if t then p (front ++ (b ∷ more)) else q (front ++ (b ∷ more))) (same_first byte front b r more ∙ ap (begins byte) (sym is) ∙ e)) y (other refl).at

pub judged_if : {A : Type 0} (L M : List ℕ → A → Type 0) (B : List ℕ → List ℕ → Type 0) (byte : ℕ) (p q : List ℕ → Res A) (ts : List ℕ) (x y : Res A) →
    (begins byte ts ≡ true → Judged L M B p ts x) → (begins byte ts ≡ false → Judged L M B q ts y) → Judged L M B (λ z. if begins byte z then p z else q z) ts (if begins byte ts then x else y)
judged_if L M B byte p q ts x y first other = record { at = choice_by L M B byte p q ts x y (begins byte ts) refl first other }

-- ---- one byte first

under_why : {A : Type 0} (B : List ℕ → List ℕ → Type 0) (p q : List ℕ → Res A) (b : ℕ) → ((z : List ℕ) → p (b ∷ z) ≡ q z) → (front rest : List ℕ) → StopsOn q front rest ⊎ B (b ∷ front) rest → StopsOn p (b ∷ front) rest ⊎ B (b ∷ front) rest
under_why B p q b same front [] (inl s) = inl tt
under_why B p q b same front (c ∷ r) (inl s) = inl (λ more. subst Fails (sym (same (front ++ (c ∷ more)))) (s more))
under_why B p q b same front rest (inr s) = inr s

under_by : {A : Type 0} (L M : List ℕ → A → Type 0) (B : List ℕ → List ℕ → Type 0) (p q : List ℕ → Res A) (b : ℕ) (ts : List ℕ) → ((z : List ℕ) → p (b ∷ z) ≡ q z) → (x : Res A) →
    IsJudged (λ ys a. L (b ∷ ys) a) (λ ys a. M (b ∷ ys) a) (λ ys zs. B (b ∷ ys) zs) q ts x → IsJudged L M B p (b ∷ ts) x
under_by L M B p q b ts same (Ok y) s = record { front = b ∷ s.front; whole = ap (λ z. b ∷ z) s.whole; is = s.is; fits = s.fits; on = under_ok p q b same s.front y.0 y.1 s.on }
under_by L M B p q b ts same (Err d) s = record {
  front = b ∷ s.front;
  whole = ap (λ z. b ∷ z) s.whole;
  begun = record { more = s.begun.more; value = s.begun.value; is = s.begun.is };
  why = under_why B p q b same s.front d.1 s.why;
}

pub judged_under : {A : Type 0} (L M : List ℕ → A → Type 0) (B : List ℕ → List ℕ → Type 0) (p q : List ℕ → Res A) (b : ℕ) (ts : List ℕ) (x : Res A) → ((z : List ℕ) → p (b ∷ z) ≡ q z) →
    Judged (λ ys a. L (b ∷ ys) a) (λ ys a. M (b ∷ ys) a) (λ ys zs. B (b ∷ ys) zs) q ts x → Judged L M B p (b ∷ ts) x
judged_under L M B p q b ts x same s = record { at = under_by L M B p q b ts same x s.at }

-- ---- expected bytes

expect_step : (w b : ℕ) (ws ts : List ℕ) (same : Bool) → (b == w) ≡ same → Judged (Bytes ws) (Bytes ws) Never (expect ws) ts (expect ws ts) →
    Judged (Bytes (w ∷ ws)) (Bytes (w ∷ ws)) Never (expect (w ∷ ws)) (b ∷ ts) (if same then expect ws ts else Err (Form, b ∷ ts))
expect_step w b ws ts true e s =
    let is : b ≡ w = grind (arith, nat_tests) in
    let goes : (front : List ℕ) (u : Unit {0}) → Bytes ws front u → Bytes (w ∷ ws) (b ∷ front) u = λ front u h i. is i ∷ h i in
    judged_under (Bytes (w ∷ ws)) (Bytes (w ∷ ws)) Never (expect (w ∷ ws)) (expect ws) b ts (expect ws ts) (λ z. ap (λ t. if t then expect ws z else Err (Form, b ∷ z)) e)
    (judged_weaker (Bytes ws) (Bytes ws) (λ ys u. Bytes (w ∷ ws) (b ∷ ys) u) (λ ys u. Bytes (w ∷ ws) (b ∷ ys) u) Never (λ ys zs. Never (b ∷ ys) zs) (expect ws) ts (expect ws ts) goes goes (λ front rest h. h) s)
expect_step w b ws ts false e s = record {
  at = record {
    front = [];
    whole = refl;
    begun = record { more = w ∷ ws; value = tt; is = refl };
    why = inl (λ more. subst Fails (sym (ap (λ t. if t then expect ws more else Err (Form, b ∷ more)) e)) tt);
  };
}

pub judged_expect : (ws ts : List ℕ) → Judged (Bytes ws) (Bytes ws) Never (expect ws) ts (expect ws ts)
judged_expect [] ts = judged_done (Bytes []) (Bytes []) Never tt ts refl refl
judged_expect (w ∷ ws) [] = record { at = record { front = []; whole = refl; begun = record { more = w ∷ ws; value = tt; is = refl }; why = inl tt } }
judged_expect (w ∷ ws) (b ∷ ts) = expect_step w b ws ts (b == w) refl (judged_expect ws ts)
