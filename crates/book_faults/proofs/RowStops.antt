-- Items while a byte stands first, words, and numbers of the table, judged.
use Rattle.std.proofs.Common.{◌≡◌, ◌⊎◌, inl, inr, ℕ, zero, suc, ◌||◌, ◌-◌, ◌<◌, ◌≤◌, ◌^◌, Bool, true, false, not, List, [], ◌∷◌, ◌++◌, length, length-append, drop, nat_lt, decimal, codes, if◌then◌else◌, Ok, Err, refl, sym, ◌∙◌, ap, subst, arith}
use Rattle.std.proofs.lemmas.Bool.{ltb-true, ltb-false, lt-ltb}
use Rattle.std.specs.Str.Parse.{digits_value}
use Rattle.books.specs.declared.stop.Kind.TheVariants.{Form}
use Rattle.books.specs.declared.word.Word.{Word}
use Rattle.books.specs.declared.word.Word.TheVariants.{Lit}
use Rattle.books.specs.Derivations.{word_text, words}
use Rattle.books.specs.Combine.{Res, ◌>>=◌, begins, at_most, several}
use Rattle.books.specs.Reading.{number_digits, is_at_end, number_at, word_at_front}
use Rattle.books.proofs.Complete.{complete_word}
use Rattle.books.proofs.Locals.{AfterOk}
use Rattle.books.proofs.Several.{Takes, several_done, several_fault, several_more}
use Rattle.books.proofs.Sound.{SoundAt, Spells, IsNumber, sound_one_of}
use Rattle.books.proofs.Stops.{StopsOn, StoppedAt, ReadOf, IsJudged, Judged, Never, judged_loose, judged_done, judged_same, judged_if}
use Rattle.books.proofs.StopParts.{PastAt, IsHalted, halted_one_of, judged_number}

-- ---- items while a byte stands first

-- what is asked of items and of their rows: what is read of one (K), what the other reader asks (N), and where a rule is broken (D)
pub record AreRows {A : Type 0} (K N : List ℕ → A → Type 0) (D : List ℕ → List ℕ → Type 0) (L M : List ℕ → List A → Type 0) (B : List ℕ → List ℕ → Type 0) : Type 0 where
  pub some : (front : List ℕ) (a : A) → N front a → 0 < length front
  pub none : L [] []
  pub none_fits : M [] []
  pub more : (xs ys : List ℕ) (a : A) (bs : List A) → K xs a → L ys bs → L (xs ++ (ys ++ [])) (a ∷ bs)
  pub more_fits : (xs ys : List ℕ) (a : A) (bs : List A) → N xs a → M ys bs → M (xs ++ (ys ++ [])) (a ∷ bs)
  pub first : (front rest : List ℕ) → D front rest → B front rest
  pub later : (xs front rest : List ℕ) (a : A) → K xs a → B front rest → B (xs ++ front) rest

-- several items are one and then several, or none
one_more : {A : Type 0} → ℕ → (List ℕ → Res A) → List ℕ → Res (List A)
one_more byte q ts = if begins byte ts then (q ts >>= λ a r. several byte q r >>= λ bs r. Ok (a ∷ bs, r)) else Ok ([], ts)

more_by : {A : Type 0} (byte : ℕ) (q : List ℕ → Res A) → Takes q → (ts : List ℕ) (x : Res A) → q ts ≡ x → begins byte ts ≡ true →
    several byte q ts ≡ (x >>= λ a r. several byte q r >>= λ bs r. Ok (a ∷ bs, r))
more_by byte q takes ts (Ok y) e go = several_more byte q takes ts y.0 y.1 go e
more_by byte q takes ts (Err d) e go = several_fault byte q ts d go e

several_by : {A : Type 0} (byte : ℕ) (q : List ℕ → Res A) → Takes q → (ts : List ℕ) (test : Bool) → begins byte ts ≡ test →
    several byte q ts ≡ (if test then (q ts >>= λ a r. several byte q r >>= λ bs r. Ok (a ∷ bs, r)) else Ok ([], ts))
several_by byte q takes ts true e = more_by byte q takes ts (q ts) refl e
several_by byte q takes ts false e = several_done byte q ts e

several_is : {A : Type 0} (byte : ℕ) (q : List ℕ → Res A) → Takes q → (ts : List ℕ) → several byte q ts ≡ one_more byte q ts
unfolding one_more
several_is byte q takes ts = several_by byte q takes ts (begins byte ts) refl

nothing_on : {A : Type 0} (byte : ℕ) (q : List ℕ → Res A) (ts : List ℕ) → length ts ≤ 0 → AfterOk (several byte q) [] [] ts
nothing_on byte q [] short = tt
nothing_on byte q (b ∷ ts) short = absurd (omega (arith, short))

less_left : (n : ℕ) (ts known r : List ℕ) → length ts ≤ suc n → 0 < length known → length r ≤ length ts - length known → length r ≤ n
less_left n ts known r short some e = omega (arith, short, some, e)

judged_at_most : {A : Type 0} (K N : List ℕ → A → Type 0) (D : List ℕ → List ℕ → Type 0) (L M : List ℕ → List A → Type 0) (B : List ℕ → List ℕ → Type 0) (byte : ℕ) (p q : List ℕ → Res A) →
    AreRows K N D L M B → Takes q → ((ts : List ℕ) → Judged K N D q ts (p ts)) → (n : ℕ) (ts : List ℕ) → length ts ≤ n → Judged L M B (several byte q) ts (at_most n byte p ts)
unfolding one_more
judged_at_most K N D L M B byte p q rows takes law zero ts short =
    record { at = record { front = []; whole = refl; is = rows.none; fits = rows.none_fits; on = nothing_on byte q ts short } }
judged_at_most {A} K N D L M B byte p q rows takes law (suc n) ts short =
    let g : A → List ℕ → Res (List A) = λ a r. several byte q r >>= λ bs r. Ok (a ∷ bs, r) in
    let f : A → List ℕ → Res (List A) = λ a r. at_most n byte p r >>= λ bs r. Ok (a ∷ bs, r) in
    judged_same L M B (one_more byte q) (several byte q) ts (at_most (suc n) byte p ts) (several_is byte q takes)
    (judged_if L M B byte (λ z. q z >>= g) (λ z. Ok ([], z)) ts (p ts >>= f) (Ok ([], ts))
    (λ go. judged_loose K N D L M B q g ts (p ts) f (λ front rest d. rows.first front rest d) (law ts)
    (λ a xs l r less. judged_loose L M B (λ ys bs. K xs a → L (xs ++ ys) bs) (λ ys bs. M (xs ++ ys) bs) (λ ys zs. K xs a → B (xs ++ ys) zs)
    (several byte q) (λ bs r. Ok (a ∷ bs, r)) r (at_most n byte p r) (λ bs r. Ok (a ∷ bs, r)) (λ front rest b k. rows.later xs front rest a k b)
    (judged_at_most K N D L M B byte p q rows takes law n r (less_left n ts xs r short (rows.some xs a l) less))
    (λ bs ys m r less. judged_done (λ zs all. L ys bs → K xs a → L (xs ++ (ys ++ zs)) all) (λ zs all. M (xs ++ (ys ++ zs)) all)
    (λ us zs. L ys bs → K xs a → B (xs ++ (ys ++ us)) zs) (a ∷ bs) r (λ row item. rows.more xs ys a bs item row) (rows.more_fits xs ys a bs l m))))
    (λ no. judged_done L M B [] ts rows.none rows.none_fits))

several_at : {A : Type 0} (byte : ℕ) (p : List ℕ → Res A) (ts : List ℕ) → several byte p ts ≡ at_most (length ts) byte p ts
unfolding several
several_at byte p ts = refl

pub judged_several : {A : Type 0} (K N : List ℕ → A → Type 0) (D : List ℕ → List ℕ → Type 0) (L M : List ℕ → List A → Type 0) (B : List ℕ → List ℕ → Type 0) (byte : ℕ) (p q : List ℕ → Res A) →
    AreRows K N D L M B → Takes q → ((ts : List ℕ) → Judged K N D q ts (p ts)) → (ts : List ℕ) → Judged L M B (several byte q) ts (several byte p ts)
judged_several K N D L M B byte p q rows takes law ts =
    subst (λ x. Judged L M B (several byte q) ts x) (sym (several_at byte p ts)) (judged_at_most K N D L M B byte p q rows takes law (length ts) ts (omega arith))

-- an item of which some bytes are read takes a byte
pub takes_by : {A : Type 0} (N : List ℕ → A → Type 0) (q : List ℕ → Res A) → ((front : List ℕ) (a : A) → N front a → 0 < length front) → ((ts : List ℕ) → SoundAt N ts (q ts)) → Takes q
takes_by {A} N q some law ts x r e = sized (q ts) (law ts) e
  where
    rest : (y : A × List ℕ) → (let s : Res A = Ok y in s ≡ Ok (x, r)) → y.1 ≡ r
    rest y h = cc

    sized : (s : Res A) → SoundAt N ts s → s ≡ Ok (x, r) → length r < length ts
    sized (Ok y) s h = omega (arith, some s.0 y.0 s.2, ap length s.1, length-append s.0 y.1, ap length (rest y h))
    sized (Err d) s h = absurd (cc)

-- ---- words

abbrev pub word_front : Word → List ℕ
word_front w = word_text w ++ codes " "

pub sound_word : (ts : List ℕ) → SoundAt (Spells word_front) ts (word_at_front ts)
unfolding word_at_front
sound_word ts = sound_one_of word_front words ts

halted_word : (ts : List ℕ) → IsHalted (Spells word_front) word_at_front ts (word_at_front ts)
unfolding word_at_front
halted_word ts = halted_one_of word_front Lit words ts

word_on : (front : List ℕ) (w : Word) (rest : List ℕ) → front ≡ word_front w → AfterOk word_at_front front w rest
word_on front w [] e = tt
word_on front w (b ∷ r) e = λ more. ap (λ z. word_at_front (z ++ (b ∷ more))) e ∙ complete_word w (b ∷ more)

word_by : (ts : List ℕ) (x : Res Word) → SoundAt (Spells word_front) ts x → IsHalted (Spells word_front) word_at_front ts x → IsJudged (Spells word_front) (Spells word_front) Never word_at_front ts x
word_by ts (Ok y) s t = record { front = s.0; whole = s.1; is = s.2; fits = s.2; on = word_on s.0 y.0 y.1 s.2 }
word_by ts (Err e) s t = record { front = t.front; whole = t.whole; begun = t.begun; why = inl t.stops }

pub judged_word : (ts : List ℕ) → Judged (Spells word_front) (Spells word_front) Never word_at_front ts (word_at_front ts)
judged_word ts = record { at = word_by ts (word_at_front ts) (sound_word ts) (halted_word ts) }

-- ---- numbers of trees that the table may lack

number_is : (end : ℕ) (ts : List ℕ) →
    number_at end ts ≡ (if is_at_end (number_digits ts) || not (nat_lt (digits_value 10 (number_digits ts)) end) then Err (Form, ts) else Ok (digits_value 10 (number_digits ts), drop (length (number_digits ts)) ts))
unfolding number_at
number_is end ts = refl

number_none : (end : ℕ) (ts : List ℕ) → is_at_end (number_digits ts) ≡ true → number_at end ts ≡ Err (Form, ts)
unfolding number_at
number_none end ts e = rw e refl

number_some : (end : ℕ) (ts : List ℕ) → is_at_end (number_digits ts) ≡ false → nat_lt (digits_value 10 (number_digits ts)) end ≡ true →
    number_at end ts ≡ Ok (digits_value 10 (number_digits ts), drop (length (number_digits ts)) ts)
unfolding number_at
number_some end ts e h = rw (e, h) refl

abbrev Loosely : ℕ → List ℕ → Res ℕ → Type 0
Loosely count ts x = IsJudged (IsNumber count) (IsNumber (2 ^ 32)) (PastAt count) (number_at (2 ^ 32)) ts x

tree_case : (count : ℕ) → count ≤ 2 ^ 32 → (ts : List ℕ) (empty small : Bool) → is_at_end (number_digits ts) ≡ empty → nat_lt (digits_value 10 (number_digits ts)) count ≡ small →
    Loosely count ts (if empty || not small then Err (Form, ts) else Ok (digits_value 10 (number_digits ts), drop (length (number_digits ts)) ts))
tree_case count few ts true small e h =
    let s : StoppedAt (IsNumber (2 ^ 32)) (PastAt (2 ^ 32)) (number_at (2 ^ 32)) ts ts =
    subst (λ x. IsJudged (IsNumber (2 ^ 32)) (IsNumber (2 ^ 32)) (PastAt (2 ^ 32)) (number_at (2 ^ 32)) ts x) (number_none (2 ^ 32) ts e) (judged_number (2 ^ 32) (omega arith) (omega arith) ts).at in
    record { front = s.front; whole = s.whole; begun = s.begun; why = why s.front s.why }
  where
    why : (front : List ℕ) → StopsOn (number_at (2 ^ 32)) front ts ⊎ PastAt (2 ^ 32) front ts → StopsOn (number_at (2 ^ 32)) front ts ⊎ PastAt count front ts
    why front (inl stops) = inl stops
    why front (inr past) = absurd (let no : false ≡ true = sym past.1.digits ∙ e in cc)
tree_case count few ts false false e h =
    record { front = []; whole = refl; begun = record { more = decimal 0; value = 0; is = (refl, omega arith) }; why = inr (refl, record { digits = e; past = ltb-false (digits_value 10 (number_digits ts)) count h }) }
tree_case count few ts false true e h =
    let below = ltb-true (digits_value 10 (number_digits ts)) count h in
    let s : ReadOf (IsNumber (2 ^ 32)) (IsNumber (2 ^ 32)) (number_at (2 ^ 32)) ts (digits_value 10 (number_digits ts)) (drop (length (number_digits ts)) ts) =
    subst (λ x. IsJudged (IsNumber (2 ^ 32)) (IsNumber (2 ^ 32)) (PastAt (2 ^ 32)) (number_at (2 ^ 32)) ts x) (number_some (2 ^ 32) ts e (small_too below)) (judged_number (2 ^ 32) (omega arith) (omega arith) ts).at in
    record { front = s.front; whole = s.whole; is = (s.is.0, below); fits = s.fits; on = s.on }
  where
    small_too : digits_value 10 (number_digits ts) < count → nat_lt (digits_value 10 (number_digits ts)) (2 ^ 32) ≡ true
    small_too below = lt-ltb (digits_value 10 (number_digits ts)) (2 ^ 32) (omega (arith, below, few))

pub judged_tree_number : (count : ℕ) → count ≤ 2 ^ 32 → (ts : List ℕ) → Judged (IsNumber count) (IsNumber (2 ^ 32)) (PastAt count) (number_at (2 ^ 32)) ts (number_at count ts)
judged_tree_number count few ts = record {
  at = subst (λ x. Loosely count ts x) (sym (number_is count ts)) (tree_case count few ts (is_at_end (number_digits ts)) (nat_lt (digits_value 10 (number_digits ts)) count) refl refl);
}
