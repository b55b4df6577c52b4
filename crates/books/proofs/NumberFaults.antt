-- Numbers, fields and paths.
use Rattle.std.proofs.Common.{◌≡◌, inl, inr, ℕ, zero, suc, ◌==◌, ◌||◌, ◌^◌, Bool, true, false, not, cond, List, [], ◌∷◌, ◌++◌, length, drop, nat_lt, if◌then◌else◌, Ok, Err, refl, sym, ◌∙◌, ap, subst}
use Rattle.std.proofs.lemmas.Bool.{ltb-false}
use Rattle.std.proofs.lemmas.List.Sums.{take_while-cons}
use Rattle.std.specs.Char.{is_ascii_digit}
use Rattle.std.specs.List.{take_while}
use Rattle.std.specs.Str.Parse.{digits_value}
use Rattle.std.proofs.Math.Seq.{drop-append_seam}
use Rattle.paths.specs.Paths.{most_fields}
use Rattle.books.specs.declared.stop.Kind.TheVariants.{Form}
use Rattle.books.specs.Combine.{Res, ◌>>=◌, begins}
use Rattle.books.specs.Reading.{number_digits, is_at_end, number_at, fields_at, path_at}
use Rattle.books.specs.Broken.{IsPast}
use Rattle.books.proofs.Digits.{number_with, number_with-is}
use Rattle.books.proofs.Locals.{AfterOk, AfterErr, IsLocal, Local, local_if, local_seq, local_done, local_under}

-- a run of digits at the front of a text: what stands behind it, and that it ends there whatever stands behind the next byte
record Run (ts run : List ℕ) : Type 0 where
  rest : List ℕ
  whole : ts ≡ run ++ rest
  stays : (c : ℕ) (r more : List ℕ) → rest ≡ c ∷ r → take_while is_ascii_digit (run ++ (c ∷ more)) ≡ run

run_step : (t : Bool) (b : ℕ) (ts run : List ℕ) → is_ascii_digit b ≡ t → Run ts run → Run (b ∷ ts) (cond t (b ∷ run) [])
run_step true b ts run e s = record {
  rest = s.rest;
  whole = ap (λ z. b ∷ z) s.whole;
  stays = λ c r more is. take_while-cons is_ascii_digit b (run ++ (c ∷ more)) ∙ ap (λ t. cond t (b ∷ take_while is_ascii_digit (run ++ (c ∷ more))) []) e ∙ ap (λ z. b ∷ z) (s.stays c r more is);
}
run_step false b ts run e s = record {
  rest = b ∷ ts;
  whole = refl;
  stays = λ c r more is. let same : b ≡ c = cc in take_while-cons is_ascii_digit c more ∙ ap (λ t. cond t (c ∷ take_while is_ascii_digit more) []) (ap is_ascii_digit (sym same) ∙ e);
}

run_of : (ts : List ℕ) → Run ts (take_while is_ascii_digit ts)
run_of [] = record { rest = []; whole = refl; stays = λ c r more is. absurd (let no : [] ≡ c ∷ r = is in cc) }
run_of (b ∷ ts) = subst (λ z. Run (b ∷ ts) z) (sym (take_while-cons is_ascii_digit b ts)) (run_step (is_ascii_digit b) b ts (take_while is_ascii_digit ts) refl (run_of ts))

-- the same of the digits of a number
pub record Digits (ts ds : List ℕ) : Type 0 where
  pub rest : List ℕ
  pub whole : ts ≡ ds ++ rest
  pub stays : (c : ℕ) (r more : List ℕ) → rest ≡ c ∷ r → number_digits (ds ++ (c ∷ more)) ≡ ds

-- a number that doesn't begin with 0 has all digits that stand there
not_naught : (b : ℕ) (ts run : List ℕ) (c : ℕ) (r more : List ℕ) → (b == 48) ≡ false → b ∷ ts ≡ run ++ (c ∷ r) → number_digits (run ++ (c ∷ more)) ≡ take_while is_ascii_digit (run ++ (c ∷ more))
not_naught b ts [] c r more e is = let same : b ≡ c = cc in ap (λ t. if t then c ∷ [] else take_while is_ascii_digit (c ∷ more)) (ap (λ z. z == 48) (sym same) ∙ e)
not_naught b ts (x ∷ run) c r more e is =
    let same : b ≡ x = cc in ap (λ t. if t then x ∷ [] else take_while is_ascii_digit (x ∷ (run ++ (c ∷ more)))) (ap (λ z. z == 48) (sym same) ∙ e)

digits_step : (t : Bool) (b : ℕ) (ts run : List ℕ) → (b == 48) ≡ t → Run (b ∷ ts) run → Digits (b ∷ ts) (if t then b ∷ [] else run)
digits_step true b ts run e s = record {
  rest = ts;
  whole = refl;
  stays = λ c r more is. ap (λ t. if t then b ∷ [] else take_while is_ascii_digit (b ∷ (c ∷ more))) e;
}
digits_step false b ts run e s = record {
  rest = s.rest;
  whole = s.whole;
  stays = λ c r more is. not_naught b ts run c r more e (s.whole ∙ ap (λ z. run ++ z) is) ∙ s.stays c r more is;
}

pub digits_of : (ts : List ℕ) → Digits ts (number_digits ts)
digits_of [] = record { rest = []; whole = refl; stays = λ c r more is. absurd (let no : [] ≡ c ∷ r = is in cc) }
digits_of (b ∷ ts) = digits_step (b == 48) b ts (take_while is_ascii_digit (b ∷ ts)) refl (run_of (b ∷ ts))

pub none_of : (ds : List ℕ) → is_at_end ds ≡ true → ds ≡ []
none_of [] e = refl
none_of (d ∷ ds) e = absurd (let no : false ≡ true = e in cc)

pub number_ok : (end : ℕ) (ts ds rest : List ℕ) → Digits ts ds → is_at_end ds ≡ false → nat_lt (digits_value 10 ds) end ≡ true → drop (length ds) ts ≡ rest → AfterOk (number_at end) ds (digits_value 10 ds) rest
unfolding number_with
number_ok end ts ds [] d some small behind = tt
number_ok end ts ds (c ∷ r) d some small behind = λ more.
    let is : d.rest ≡ c ∷ r = sym (ap (λ z. drop (length ds) z) d.whole ∙ drop-append_seam ds d.rest) ∙ behind in
    number_with-is end (ds ++ (c ∷ more)) ∙ ap (λ z. number_with end z (ds ++ (c ∷ more))) (d.stays c r more is)
    ∙ ap (λ t. if t || not (nat_lt (digits_value 10 ds) end) then Err (Form, ds ++ (c ∷ more)) else Ok (digits_value 10 ds, drop (length ds) (ds ++ (c ∷ more)))) some
    ∙ ap (λ t. if not t then Err (Form, ds ++ (c ∷ more)) else Ok (digits_value 10 ds, drop (length ds) (ds ++ (c ∷ more)))) small
    ∙ ap (λ z. Ok (digits_value 10 ds, z)) (drop-append_seam ds (c ∷ more))

no_number : (B : List ℕ → Type 0) (end : ℕ) (ts ds : List ℕ) → Digits ts ds → ds ≡ [] → AfterErr B (number_at end) [] Form ts
unfolding number_with
no_number B end [] ds d none = tt
no_number B end (b ∷ ts) ds d none = inl (λ more.
    let is : d.rest ≡ b ∷ ts = sym (d.whole ∙ ap (λ z. z ++ d.rest) none) in
    let stays : number_digits (b ∷ more) ≡ [] = ap (λ z. number_digits (z ++ (b ∷ more))) (sym none) ∙ d.stays b ts more is ∙ none in
    number_with-is end (b ∷ more) ∙ ap (λ z. number_with end z (b ∷ more)) stays)

past : (B : List ℕ → Type 0) (end : ℕ) → ((rest : List ℕ) → IsPast end rest → B rest) → (ts : List ℕ) → is_at_end (number_digits ts) ≡ false → nat_lt (digits_value 10 (number_digits ts)) end ≡ false →
    AfterErr B (number_at end) [] Form ts
past B end broken [] some large = tt
past B end broken (b ∷ ts) some large = inr (broken (b ∷ ts) (record { digits = some; past = ltb-false (digits_value 10 (number_digits (b ∷ ts))) end large }))

number_case : (B : List ℕ → Type 0) (end : ℕ) → ((rest : List ℕ) → IsPast end rest → B rest) → (ts : List ℕ) (empty small : Bool) → is_at_end (number_digits ts) ≡ empty → nat_lt (digits_value 10 (number_digits ts)) end ≡ small →
    IsLocal B (number_at end) ts (if empty || not small then Err (Form, ts) else Ok (digits_value 10 (number_digits ts), drop (length (number_digits ts)) ts))
number_case B end broken ts true small e h = ([], refl, no_number B end ts (number_digits ts) (digits_of ts) (none_of (number_digits ts) e))
number_case B end broken ts false false e h = ([], refl, past B end broken ts e h)
number_case B end broken ts false true e h =
    let d = digits_of ts in
    let behind : drop (length (number_digits ts)) ts ≡ d.rest = ap (λ z. drop (length (number_digits ts)) z) d.whole ∙ drop-append_seam (number_digits ts) d.rest in
    (number_digits ts, d.whole ∙ ap (λ z. number_digits ts ++ z) (sym behind), number_ok end ts (number_digits ts) (drop (length (number_digits ts)) ts) d e h refl)

pub local_number : (B : List ℕ → Type 0) (end : ℕ) → ((rest : List ℕ) → IsPast end rest → B rest) → (ts : List ℕ) → Local B (number_at end) ts
unfolding number_with
local_number B end broken ts = record {
  at = subst (λ x. IsLocal B (number_at end) ts x) (sym (number_with-is end ts))
      (number_case B end broken ts (is_at_end (number_digits ts)) (nat_lt (digits_value 10 (number_digits ts)) end) refl refl);
}

-- a point, and what is read behind it
behind_point : {A : Type 0} (B : List ℕ → Type 0) (q : List ℕ → Res A) (ts : List ℕ) → begins 46 ts ≡ true → ((z : List ℕ) → Local B q z) → Local B (λ z. q (drop 1 z)) ts
behind_point B q [] e law = absurd (let no : false ≡ true = e in cc)
behind_point B q (b ∷ ts) e law = local_under B (λ z. q (drop 1 z)) q b ts (λ z. refl) (law ts)

pub local_fields : (B : List ℕ → Type 0) → ((rest : List ℕ) → IsPast (2 ^ 32) rest → B rest) → (most : ℕ) (ts : List ℕ) → Local B (fields_at most) ts
local_fields B broken zero ts = local_done B [] ts
local_fields B broken (suc most) ts =
    local_if B 46 (λ z. number_at (2 ^ 32) (drop 1 z) >>= λ f r. fields_at most r >>= λ fs r. Ok (f ∷ fs, r)) (λ z. Ok ([], z)) ts
    (λ e. behind_point B (λ z. number_at (2 ^ 32) z >>= λ f r. fields_at most r >>= λ fs r. Ok (f ∷ fs, r)) ts e
    (λ z. local_seq B (number_at (2 ^ 32)) (λ f r. fields_at most r >>= λ fs r. Ok (f ∷ fs, r)) z (local_number B (2 ^ 32) broken z)
    (λ f r. local_seq B (fields_at most) (λ fs r. Ok (f ∷ fs, r)) r (local_fields B broken most r) (λ fs r. local_done B (f ∷ fs) r))))
    (λ e. local_done B [] ts)

pub local_path : (B : List ℕ → Type 0) → ((rest : List ℕ) → IsPast (2 ^ 16) rest → B rest) → ((rest : List ℕ) → IsPast (2 ^ 32) rest → B rest) → (ts : List ℕ) → Local B path_at ts
unfolding path_at
local_path B root field ts =
    local_seq B (number_at (2 ^ 16)) (λ root r. fields_at most_fields r >>= λ fields r. Ok (record { root = root; fields = fields }, r)) ts (local_number B (2 ^ 16) root ts)
    (λ root r. local_seq B (fields_at most_fields) (λ fields r. Ok (record { root = root; fields = fields }, r)) r (local_fields B field most_fields r)
    (λ fields r. local_done B (record { root = root; fields = fields }) r))
