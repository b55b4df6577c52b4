-- What is read is a front of the text, and spells what was read.
use Rattle.std.proofs.Common.{◌≡◌, ℕ, zero, suc, ◌==◌, ◌||◌, ◌<◌, ◌≤◌, ◌^◌, Bool, true, false, not, List, [], ◌∷◌, ◌++◌, length, drop, take, nat_le, nat_lt, decimal, get_or, if◌then◌else◌, Ok, Err, refl, sym, ◌∙◌, ap, subst, arith, append_assoc, append-nil}
use Rattle.std.proofs.lemmas.Bool.{ltb-true}
use Rattle.std.proofs.lemmas.Fmt.{decimal-digits_value}
use Rattle.std.proofs.lemmas.List.{take-append-drop}
use Rattle.std.proofs.lemmas.Bool.Decides.{nat_tests}
use Rattle.std.specs.Char.{is_ascii_digit}
use Rattle.std.specs.List.{take_while}
use Rattle.std.specs.Str.Parse.{digits_value}
use Rattle.books.specs.declared.stop.Kind.TheVariants.{Form}
use Rattle.books.specs.Combine.{Res, ◌>>=◌, begins, expect, further, one_of, at_most, several, exactly}
use Rattle.books.specs.Reading.{number_at, number_digits, is_at_end}
use Rattle.base.proofs.Digits.{numerals}
use Rattle.books.proofs.Digits.{digits_are, take-run}

-- what was read has a front of the text that L relates to it; a fault stands in the text
abbrev pub SoundAt : {A : Type 0} → (List ℕ → A → Type 0) → List ℕ → Res A → Type 0
SoundAt L ts (Ok y) = (front : List ℕ) × (ts ≡ front ++ y.1) × L front y.0
SoundAt L ts (Err e) = (front : List ℕ) × (ts ≡ front ++ e.1)

joined_at : {A : Type 0} (L M : List ℕ → A → Type 0) (front ts r : List ℕ) → ts ≡ front ++ r → ((ys : List ℕ) (b : A) → M ys b → L (front ++ ys) b) →
    (s : Res A) → SoundAt M r s → SoundAt L ts s
joined_at L M front ts r is goes (Ok y) s =
    (front ++ s.0, is ∙ ap (λ z. front ++ z) s.1 ∙ sym (append_assoc front s.0 y.1), goes s.0 y.0 s.2)
joined_at L M front ts r is goes (Err e) s = (front ++ s.0, is ∙ ap (λ z. front ++ z) s.1 ∙ sym (append_assoc front s.0 e.1))

-- one part, and then another, of which is asked what is missing
pub sound_seq : {A B : Type 0} (Le : List ℕ → A → Type 0) (L : List ℕ → B → Type 0) (ts : List ℕ) (p : Res A) (f : A → List ℕ → Res B) → SoundAt Le ts p →
    ((a : A) (r : List ℕ) → SoundAt (λ ys b. (xs : List ℕ) → Le xs a → L (xs ++ ys) b) r (f a r)) → SoundAt L ts (p >>= f)
sound_seq Le L ts (Ok y) f s rest =
    joined_at L (λ ys b. (xs : List ℕ) → Le xs y.0 → L (xs ++ ys) b) s.0 ts y.1 s.1 (λ ys b m. m s.0 s.2) (f y.0 y.1) (rest y.0 y.1)
sound_seq Le L ts (Err e) f s rest = s

pub sound_done : {A : Type 0} (L : List ℕ → A → Type 0) (a : A) (ts : List ℕ) → L [] a → SoundAt L ts (Ok (a, ts))
sound_done L a ts l = ([], refl, l)

pub sound_if : {A : Type 0} (L : List ℕ → A → Type 0) (ts : List ℕ) (b : Bool) (p q : Res A) → (b ≡ true → SoundAt L ts p) → (b ≡ false → SoundAt L ts q) → SoundAt L ts (if b then p else q)
sound_if L ts true p q h k = h refl
sound_if L ts false p q h k = k refl

pub sound_weaker : {A : Type 0} (L M : List ℕ → A → Type 0) (ts : List ℕ) → ((front : List ℕ) (a : A) → L front a → M front a) → (r : Res A) → SoundAt L ts r → SoundAt M ts r
sound_weaker L M ts h (Ok y) s = (s.0, s.1, h s.0 y.0 s.2)
sound_weaker L M ts h (Err e) s = s

-- these bytes
abbrev pub Bytes : List ℕ → List ℕ → Unit {0} → Type 0
Bytes w front u = front ≡ w

expect_step : (w b : ℕ) (ws ts : List ℕ) (same : Bool) → (b == w) ≡ same → SoundAt (Bytes ws) ts (expect ws ts) →
    SoundAt (Bytes (w ∷ ws)) (b ∷ ts) (if same then expect ws ts else Err (Form, b ∷ ts))
expect_step w b ws ts true e s =
    let is : b ≡ w = grind (arith, nat_tests) in
    joined_at (Bytes (w ∷ ws)) (Bytes ws) (w ∷ []) (b ∷ ts) ts (ap (λ z. z ∷ ts) is) (λ ys u m. ap (λ z. w ∷ z) m) (expect ws ts) s
expect_step w b ws ts false e s = ([], refl)

pub sound_expect : (ws ts : List ℕ) → SoundAt (Bytes ws) ts (expect ws ts)
sound_expect [] ts = ([], refl, refl)
sound_expect (w ∷ ws) [] = ([], refl)
sound_expect (w ∷ ws) (b ∷ ts) = expect_step w b ws ts (b == w) refl (sound_expect ws ts)

-- the text of what was read
abbrev pub Spells : {A : Type 0} → (A → List ℕ) → List ℕ → A → Type 0
Spells spell front x = front ≡ spell x

sound_further : {A : Type 0} (L : List ℕ → A → Type 0) (ts : List ℕ) (p q : Res A) → SoundAt L ts p → SoundAt L ts q → SoundAt L ts (further p q)
sound_further L ts (Ok x) q s t = s
sound_further L ts (Err e) (Ok y) s t = t
sound_further L ts (Err e) (Err d) s t = sound_if L ts (nat_le (length e.1) (length d.1)) (Err e) (Err d) (λ h. s) (λ h. t)

pub sound_one_of : {A : Type 0} (spell : A → List ℕ) (xs : List A) (ts : List ℕ) → SoundAt (Spells spell) ts (one_of spell xs ts)
sound_one_of spell [] ts = ([], refl)
sound_one_of spell (x ∷ xs) ts =
    sound_further (Spells spell) ts (expect (spell x) ts >>= λ u ts. Ok (x, ts)) (one_of spell xs ts)
    (sound_seq (Bytes (spell x)) (Spells spell) ts (expect (spell x) ts) (λ u ts. Ok (x, ts)) (sound_expect (spell x) ts)
    (λ u r. sound_done (λ ys b. (zs : List ℕ) → Bytes (spell x) zs u → Spells spell (zs ++ ys) b) x r (λ zs e. append-nil zs ∙ e)))
    (sound_one_of spell xs ts)

-- several items, one after another
pub data Row {A : Type 0} (L : List ℕ → A → Type 0) : List ℕ → List A → Type 0 where
  row_end : Row L [] []
  row_more : (front fronts : List ℕ) (x : A) (xs : List A) → L front x → Row L fronts xs → Row L (front ++ fronts) (x ∷ xs)

pub sound_at_most : {A : Type 0} (L : List ℕ → A → Type 0) (byte : ℕ) (item : List ℕ → Res A) → ((ts : List ℕ) → SoundAt L ts (item ts)) →
    (n : ℕ) (ts : List ℕ) → SoundAt (Row L) ts (at_most n byte item ts)
sound_at_most L byte item law zero ts = ([], refl, row_end)
sound_at_most L byte item law (suc n) ts =
    sound_if (Row L) ts (begins byte ts) (item ts >>= λ x ts. at_most n byte item ts >>= λ xs ts. Ok (x ∷ xs, ts)) (Ok ([], ts))
    (λ h. sound_seq L (Row L) ts (item ts) (λ x ts. at_most n byte item ts >>= λ xs ts. Ok (x ∷ xs, ts)) (law ts)
    (λ x r. sound_seq (Row L) (λ ys b. (zs : List ℕ) → L zs x → Row L (zs ++ ys) b) r (at_most n byte item r) (λ xs ts. Ok (x ∷ xs, ts)) (sound_at_most L byte item law n r)
    (λ xs r. sound_done (λ ys b. (us : List ℕ) → Row L us xs → (zs : List ℕ) → L zs x → Row L (zs ++ (us ++ ys)) b) (x ∷ xs) r
    (λ us m zs l. subst (λ z. Row L (zs ++ z) (x ∷ xs)) (sym (append-nil us)) (row_more zs us x xs l m)))))
    (λ h. ([], refl, row_end))

pub sound_several : {A : Type 0} (L : List ℕ → A → Type 0) (byte : ℕ) (item : List ℕ → Res A) → ((ts : List ℕ) → SoundAt L ts (item ts)) →
    (ts : List ℕ) → SoundAt (Row L) ts (several byte item ts)
unfolding several
sound_several L byte item law ts = sound_at_most L byte item law (length ts) ts

-- exactly n items
abbrev pub RowOf : {A : Type 0} → (List ℕ → A → Type 0) → ℕ → List ℕ → List A → Type 0
RowOf L n front xs = Row L front xs × (length xs ≡ n)

pub sound_exactly : {A : Type 0} (L : List ℕ → A → Type 0) (item : List ℕ → Res A) → ((ts : List ℕ) → SoundAt L ts (item ts)) →
    (n : ℕ) (ts : List ℕ) → SoundAt (RowOf L n) ts (exactly n item ts)
sound_exactly L item law zero ts = ([], refl, (row_end, refl))
sound_exactly L item law (suc n) ts =
    sound_seq L (RowOf L (suc n)) ts (item ts) (λ x ts. exactly n item ts >>= λ xs ts. Ok (x ∷ xs, ts)) (law ts)
    (λ x r. sound_seq (RowOf L n) (λ ys b. (zs : List ℕ) → L zs x → RowOf L (suc n) (zs ++ ys) b) r (exactly n item r) (λ xs ts. Ok (x ∷ xs, ts)) (sound_exactly L item law n r)
    (λ xs r. sound_done (λ ys b. (us : List ℕ) → RowOf L n us xs → (zs : List ℕ) → L zs x → RowOf L (suc n) (zs ++ (us ++ ys)) b) (x ∷ xs) r
    (λ us m zs l. (subst (λ z. Row L (zs ++ z) (x ∷ xs)) (sym (append-nil us)) (row_more zs us x xs l m.0), omega (arith, m.1)))))

-- a number in its range
abbrev pub IsNumber : ℕ → List ℕ → ℕ → Type 0
IsNumber end front n = (front ≡ decimal n) × (n < end)

run-first : (ts : List ℕ) → take (length (take_while is_ascii_digit ts)) ts ≡ take_while is_ascii_digit ts
run-first ts = take-run ts (length (take_while is_ascii_digit ts)) refl

digits-if : (b : Bool) (byte : ℕ) (ts ds : List ℕ) → take (length ds) (byte ∷ ts) ≡ ds → take (length (if b then byte ∷ [] else ds)) (byte ∷ ts) ≡ (if b then byte ∷ [] else ds)
digits-if true byte ts ds e = refl
digits-if false byte ts ds e = e

digits-first : (ts : List ℕ) → take (length (number_digits ts)) ts ≡ number_digits ts
digits-first [] = refl
digits-first (b ∷ ts) = digits-if (b == 48) b ts (take_while is_ascii_digit (b ∷ ts)) (run-first (b ∷ ts))

first-if : (b : Bool) (byte : ℕ) (ts ds : List ℕ) → (byte == 48) ≡ b → take (length ds) (byte ∷ ts) ≡ ds → get_or (if b then byte ∷ [] else ds) 0 0 ≡ 48 → length (if b then byte ∷ [] else ds) ≡ 1
first-if true byte ts ds e front naught = refl
first-if false byte ts [] e front naught = absurd (omega (arith, naught))
first-if false byte ts (d ∷ ds) e front naught =
    let first : byte ≡ d = ap (λ z. get_or z 0 0) front in
    absurd (let test : (48 == 48) ≡ false = subst (λ z. (z == 48) ≡ false) (first ∙ naught) e in let no : true ≡ false = test in cc)

one-digit : (ts : List ℕ) → get_or (number_digits ts) 0 0 ≡ 48 → length (number_digits ts) ≡ 1
one-digit [] naught = absurd (omega (arith, naught))
one-digit (b ∷ ts) naught = first-if (b == 48) b ts (take_while is_ascii_digit (b ∷ ts)) refl (run-first (b ∷ ts)) naught

number_step : (end : ℕ) (ts : List ℕ) (empty fits : Bool) → is_at_end (number_digits ts) ≡ empty → nat_lt (digits_value 10 (number_digits ts)) end ≡ fits → end ≤ 2 ^ 64 →
    SoundAt (IsNumber end) ts (if empty || not fits then Err (Form, ts) else Ok (digits_value 10 (number_digits ts), drop (length (number_digits ts)) ts))
number_step end ts true fits e f small = ([], refl)
number_step end ts false false e f small = ([], refl)
number_step end ts false true e f small =
    let ds = number_digits ts in
    let below = ltb-true (digits_value 10 ds) end f in (
      ds,
      sym (take-append-drop (length ds) ts) ∙ ap (λ z. z ++ drop (length ds) ts) (digits-first ts),
      (sym (decimal-digits_value numerals ds (digits_are ts) (some ds e) (one-digit ts) (omega (arith, below, small))), below),
    )
  where
    some : (ds : List ℕ) → is_at_end ds ≡ false → 0 < length ds
    some [] e = absurd (let no : true ≡ false = e in cc)
    some (d ∷ ds) e = omega arith

pub sound_number : (end : ℕ) → end ≤ 2 ^ 64 → (ts : List ℕ) → SoundAt (IsNumber end) ts (number_at end ts)
unfolding number_at
sound_number end small ts = number_step end ts (is_at_end (number_digits ts)) (nat_lt (digits_value 10 (number_digits ts)) end) refl refl small
