-- What is read, and where it goes wrong, depends on nothing behind the next byte.
use Rattle.std.proofs.Common.{◌≡◌, ◌⊎◌, inl, inr, ℕ, ◌==◌, Bool, true, false, List, [], ◌∷◌, ◌++◌, if◌then◌else◌, Ok, Err, refl, sym, ◌∙◌, ap, subst, append_assoc}
use Rattle.books.specs.declared.stop.Kind.{Kind}
use Rattle.books.specs.declared.stop.Kind.TheVariants.{Form}
use Rattle.books.specs.Combine.{Res, ◌>>=◌, begins, expect}

-- with this front and the same next byte, the same is read of any text
abbrev pub AfterOk : {A : Type 0} → (List ℕ → Res A) → (front : List ℕ) → A → (rest : List ℕ) → Type 0
AfterOk p front a [] = Unit {0}
AfterOk p front a (b ∷ r) = (more : List ℕ) → p (front ++ (b ∷ more)) ≡ Ok (a, b ∷ more)

-- and it goes wrong in the same way, unless one of the other rules is broken there
abbrev pub AfterErr : {A : Type 0} → (List ℕ → Type 0) → (List ℕ → Res A) → (front : List ℕ) → Kind → (rest : List ℕ) → Type 0
AfterErr B p front k [] = Unit {0}
AfterErr B p front k (b ∷ r) = ((more : List ℕ) → p (front ++ (b ∷ more)) ≡ Err (k, b ∷ more)) ⊎ B (b ∷ r)

abbrev pub IsLocal : {A : Type 0} → (List ℕ → Type 0) → (List ℕ → Res A) → List ℕ → Res A → Type 0
IsLocal B p ts (Ok y) = (front : List ℕ) × (ts ≡ front ++ y.1) × AfterOk p front y.0 y.1
IsLocal B p ts (Err e) = (front : List ℕ) × (ts ≡ front ++ e.1) × AfterErr B p front e.0 e.1

pub record Local {A : Type 0} (B : List ℕ → Type 0) (p : List ℕ → Res A) (ts : List ℕ) : Type 0 where
  pub at : IsLocal B p ts (p ts)

-- ---- where two readers are the same on the texts that are asked for

pub along_ok : {A : Type 0} (p q : List ℕ → Res A) (front : List ℕ) (a : A) (rest : List ℕ) → ((b : ℕ) (r more : List ℕ) → rest ≡ b ∷ r → q (front ++ (b ∷ more)) ≡ p (front ++ (b ∷ more))) →
    AfterOk p front a rest → AfterOk q front a rest
along_ok p q front a [] same s = tt
along_ok p q front a (b ∷ r) same s = λ more. same b r more refl ∙ s more

along_err : {A : Type 0} (B : List ℕ → Type 0) (p q : List ℕ → Res A) (front : List ℕ) (k : Kind) (rest : List ℕ) → ((b : ℕ) (r more : List ℕ) → rest ≡ b ∷ r → q (front ++ (b ∷ more)) ≡ p (front ++ (b ∷ more))) →
    AfterErr B p front k rest → AfterErr B q front k rest
along_err B p q front k [] same s = tt
along_err B p q front k (b ∷ r) same (inl s) = inl (λ more. same b r more refl ∙ s more)
along_err B p q front k (b ∷ r) same (inr s) = inr s

along : {A : Type 0} (B : List ℕ → Type 0) (p q : List ℕ → Res A) (ts : List ℕ) → ((front : List ℕ) (b : ℕ) (r more : List ℕ) → ts ≡ front ++ (b ∷ r) → q (front ++ (b ∷ more)) ≡ p (front ++ (b ∷ more))) →
    (x : Res A) → IsLocal B p ts x → IsLocal B q ts x
along B p q ts same (Ok y) s = (s.0, s.1, along_ok p q s.0 y.0 y.1 (λ b r more e. same s.0 b r more (s.1 ∙ ap (λ z. s.0 ++ z) e)) s.2)
along B p q ts same (Err d) s = (s.0, s.1, along_err B p q s.0 d.0 d.1 (λ b r more e. same s.0 b r more (s.1 ∙ ap (λ z. s.0 ++ z) e)) s.2)

pub local_same : {A : Type 0} (B : List ℕ → Type 0) (p q : List ℕ → Res A) (ts : List ℕ) → ((z : List ℕ) → q z ≡ p z) → Local B p ts → Local B q ts
local_same B p q ts same s = record { at = subst (λ x. IsLocal B q ts x) (sym (same ts)) (along B p q ts (λ front b r more e. same (front ++ (b ∷ more))) (p ts) s.at) }

-- ---- one part, and then another

no_more : (front rest : List ℕ) → [] ≡ front ++ rest → rest ≡ []
no_more [] rest e = sym e
no_more (x ∷ front) rest e = absurd (cc)

pub goes_on : {A : Type 0} (p : List ℕ → Res A) (front : List ℕ) (a : A) (rest next : List ℕ) (c : ℕ) (l : List ℕ) → rest ≡ next ++ (c ∷ l) → AfterOk p front a rest →
    (more : List ℕ) → p (front ++ (next ++ (c ∷ more))) ≡ Ok (a, next ++ (c ∷ more))
goes_on p front a [] next c l e s more = absurd (let none = no_more next (c ∷ l) e in let no : c ∷ l ≡ [] = none in cc)
goes_on p front a (b ∷ r) [] c l e s more = let same : b ≡ c = cc in subst (λ z. p (front ++ (z ∷ more)) ≡ Ok (a, z ∷ more)) same (s more)
goes_on p front a (b ∷ r) (x ∷ next) c l e s more =
    let same : b ≡ x = cc in subst (λ z. p (front ++ (z ∷ (next ++ (c ∷ more)))) ≡ Ok (a, z ∷ (next ++ (c ∷ more)))) same (s (next ++ (c ∷ more)))

pub both_ok : {A C : Type 0} (p : List ℕ → Res A) (f : A → List ℕ → Res C) (front : List ℕ) (a : A) (rest next : List ℕ) (c : C) (last : List ℕ) → rest ≡ next ++ last → AfterOk p front a rest →
    AfterOk (f a) next c last → AfterOk (λ z. p z >>= f) (front ++ next) c last
both_ok p f front a rest next c [] e s t = tt
both_ok p f front a rest next c (b ∷ l) e s t = λ more.
    ap (λ z. p z >>= f) (append_assoc front next (b ∷ more)) ∙ ap (λ z. z >>= f) (goes_on p front a rest next b l e s more) ∙ t more

both_err : {A C : Type 0} (B : List ℕ → Type 0) (p : List ℕ → Res A) (f : A → List ℕ → Res C) (front : List ℕ) (a : A) (rest next : List ℕ) (k : Kind) (last : List ℕ) → rest ≡ next ++ last → AfterOk p front a rest →
    AfterErr B (f a) next k last → AfterErr B (λ z. p z >>= f) (front ++ next) k last
both_err B p f front a rest next k [] e s t = tt
both_err B p f front a rest next k (b ∷ l) e s (inl t) = inl (λ more.
    ap (λ z. p z >>= f) (append_assoc front next (b ∷ more)) ∙ ap (λ z. z >>= f) (goes_on p front a rest next b l e s more) ∙ t more)
both_err B p f front a rest next k (b ∷ l) e s (inr t) = inr t

first_err : {A C : Type 0} (B : List ℕ → Type 0) (p : List ℕ → Res A) (f : A → List ℕ → Res C) (front : List ℕ) (k : Kind) (rest : List ℕ) → AfterErr B p front k rest → AfterErr B (λ z. p z >>= f) front k rest
first_err B p f front k [] s = tt
first_err B p f front k (b ∷ r) (inl s) = inl (λ more. ap (λ z. z >>= f) (s more))
first_err B p f front k (b ∷ r) (inr s) = inr s

behind : {A C : Type 0} (B : List ℕ → Type 0) (p : List ℕ → Res A) (f : A → List ℕ → Res C) (ts front : List ℕ) (a : A) (rest : List ℕ) → ts ≡ front ++ rest → AfterOk p front a rest →
    (x : Res C) → IsLocal B (f a) rest x → IsLocal B (λ z. p z >>= f) ts x
behind B p f ts front a rest is s (Ok y) t =
    (front ++ t.0, is ∙ ap (λ z. front ++ z) t.1 ∙ sym (append_assoc front t.0 y.1), both_ok p f front a rest t.0 y.0 y.1 t.1 s t.2)
behind B p f ts front a rest is s (Err d) t =
    (front ++ t.0, is ∙ ap (λ z. front ++ z) t.1 ∙ sym (append_assoc front t.0 d.1), both_err B p f front a rest t.0 d.0 d.1 t.1 s t.2)

seq_by : {A C : Type 0} (B : List ℕ → Type 0) (p : List ℕ → Res A) (f : A → List ℕ → Res C) (ts : List ℕ) (x : Res A) → p ts ≡ x → IsLocal B p ts x →
    ((a : A) (r : List ℕ) → p ts ≡ Ok (a, r) → Local B (f a) r) → IsLocal B (λ z. p z >>= f) ts (x >>= f)
seq_by B p f ts (Ok y) e s rest = behind B p f ts s.0 y.0 y.1 s.1 s.2 (f y.0 y.1) (rest y.0 y.1 e).at
seq_by B p f ts (Err d) e s rest = (s.0, s.1, first_err B p f s.0 d.0 d.1 s.2)

-- what is known of the first part may be asked for the second
pub local_known : {A C : Type 0} (B : List ℕ → Type 0) (p : List ℕ → Res A) (f : A → List ℕ → Res C) (ts : List ℕ) → Local B p ts →
    ((a : A) (r : List ℕ) → p ts ≡ Ok (a, r) → Local B (f a) r) → Local B (λ z. p z >>= f) ts
local_known B p f ts s rest = record { at = seq_by B p f ts (p ts) refl s.at rest }

pub local_seq : {A C : Type 0} (B : List ℕ → Type 0) (p : List ℕ → Res A) (f : A → List ℕ → Res C) (ts : List ℕ) → Local B p ts → ((a : A) (r : List ℕ) → Local B (f a) r) → Local B (λ z. p z >>= f) ts
local_seq B p f ts s rest = local_known B p f ts s (λ a r e. rest a r)

-- ---- nothing more, and a byte that nothing goes on with

pub local_done : {A : Type 0} (B : List ℕ → Type 0) (a : A) (ts : List ℕ) → Local B (λ z. Ok (a, z)) ts
local_done {A} B a ts = record { at = ([], refl, done ts) }
  where
    done : (ts : List ℕ) → AfterOk (λ z. Ok (a, z)) [] a ts
    done [] = tt
    done (b ∷ ts) = λ more. refl

pub local_stop : {A : Type 0} (B : List ℕ → Type 0) (k : Kind) (ts : List ℕ) → Local {A = A} B (λ z. Err (k, z)) ts
local_stop {A} B k ts = record { at = ([], refl, stop ts) }
  where
    stop : (ts : List ℕ) → AfterErr {A = A} B (λ z. Err (k, z)) [] k ts
    stop [] = tt
    stop (b ∷ ts) = inl (λ more. refl)

-- ---- one byte first

pub under_ok : {A : Type 0} (p q : List ℕ → Res A) (b : ℕ) → ((z : List ℕ) → p (b ∷ z) ≡ q z) → (front : List ℕ) (a : A) (rest : List ℕ) → AfterOk q front a rest → AfterOk p (b ∷ front) a rest
under_ok p q b same front a [] s = tt
under_ok p q b same front a (c ∷ r) s = λ more. same (front ++ (c ∷ more)) ∙ s more

under_err : {A : Type 0} (B : List ℕ → Type 0) (p q : List ℕ → Res A) (b : ℕ) → ((z : List ℕ) → p (b ∷ z) ≡ q z) → (front : List ℕ) (k : Kind) (rest : List ℕ) → AfterErr B q front k rest → AfterErr B p (b ∷ front) k rest
under_err B p q b same front k [] s = tt
under_err B p q b same front k (c ∷ r) (inl s) = inl (λ more. same (front ++ (c ∷ more)) ∙ s more)
under_err B p q b same front k (c ∷ r) (inr s) = inr s

under_by : {A : Type 0} (B : List ℕ → Type 0) (p q : List ℕ → Res A) (b : ℕ) (ts : List ℕ) → ((z : List ℕ) → p (b ∷ z) ≡ q z) → (x : Res A) → IsLocal B q ts x → IsLocal B p (b ∷ ts) x
under_by B p q b ts same (Ok y) s = (b ∷ s.0, ap (λ z. b ∷ z) s.1, under_ok p q b same s.0 y.0 y.1 s.2)
under_by B p q b ts same (Err d) s = (b ∷ s.0, ap (λ z. b ∷ z) s.1, under_err B p q b same s.0 d.0 d.1 s.2)

pub local_under : {A : Type 0} (B : List ℕ → Type 0) (p q : List ℕ → Res A) (b : ℕ) (ts : List ℕ) → ((z : List ℕ) → p (b ∷ z) ≡ q z) → Local B q ts → Local B p (b ∷ ts)
local_under B p q b ts same s = record { at = subst (λ x. IsLocal B p (b ∷ ts) x) (sym (same ts)) (under_by B p q b ts same (q ts) s.at) }

-- ---- expected bytes

expect_step : (B : List ℕ → Type 0) (w b : ℕ) (ws ts : List ℕ) (same : Bool) → (b == w) ≡ same → Local B (expect ws) ts → Local B (expect (w ∷ ws)) (b ∷ ts)
expect_step B w b ws ts true e s = local_under B (expect (w ∷ ws)) (expect ws) b ts (λ z. ap (λ t. if t then expect ws z else Err (Form, b ∷ z)) e) s
expect_step B w b ws ts false e s =
    let stuck : (z : List ℕ) → expect (w ∷ ws) (b ∷ z) ≡ Err (Form, b ∷ z) = λ z. ap (λ t. if t then expect ws z else Err (Form, b ∷ z)) e in
    record { at = subst (λ x. IsLocal B (expect (w ∷ ws)) (b ∷ ts) x) (sym (stuck ts)) ([], refl, inl stuck) }

pub local_expect : (B : List ℕ → Type 0) (ws ts : List ℕ) → Local B (expect ws) ts
local_expect B [] ts = local_same B (λ z. Ok (tt, z)) (expect []) ts (λ z. refl) (local_done B tt ts)
local_expect B (w ∷ ws) [] = record { at = ([], refl, tt) }
local_expect B (w ∷ ws) (b ∷ ts) = expect_step B w b ws ts (b == w) refl (local_expect B ws ts)

-- ---- a choice by the first byte

pub same_first : (byte : ℕ) (front : List ℕ) (b : ℕ) (r more : List ℕ) → begins byte (front ++ (b ∷ more)) ≡ begins byte (front ++ (b ∷ r))
same_first byte [] b r more = refl
same_first byte (x ∷ front) b r more = refl

choice_by : {A : Type 0} (B : List ℕ → Type 0) (byte : ℕ) (p q : List ℕ → Res A) (ts : List ℕ) (test : Bool) → begins byte ts ≡ test →
    (test ≡ true → Local B p ts) → (test ≡ false → Local B q ts) → IsLocal B (λ z. if begins byte z then p z else q z) ts (if test then p ts else q ts)
choice_by B byte p q ts true e yes_ no_ = along B p (λ z. if begins byte z then p z else q z) ts
    (λ front b r more is. ap (λ t. if t then p (front ++ (b ∷ more)) else q (front ++ (b ∷ more))) (same_first byte front b r more ∙ ap (begins byte) (sym is) ∙ e)) (p ts) (yes_ refl).at
choice_by B byte p q ts false e yes_ no_ = along B q (λ z. if begins byte z then p z else q z) ts
    (λ front b r more is. ap (λ t. if t then p (front ++ (b ∷ more)) else q (front ++ (b ∷ more))) (same_first byte front b r more ∙ ap (begins byte) (sym is) ∙ e)) (q ts) (no_ refl).at

pub local_if : {A : Type 0} (B : List ℕ → Type 0) (byte : ℕ) (p q : List ℕ → Res A) (ts : List ℕ) → (begins byte ts ≡ true → Local B p ts) → (begins byte ts ≡ false → Local B q ts) →
    Local B (λ z. if begins byte z then p z else q z) ts
local_if B byte p q ts yes_ no_ = record { at = choice_by B byte p q ts (begins byte ts) refl yes_ no_ }
