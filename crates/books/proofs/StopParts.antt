-- Numbers, paths and names of basics, judged.
use Rattle.std.proofs.Common.{◌≡◌, ◌⊎◌, inl, inr, ℕ, zero, suc, ◌||◌, ◌-◌, ◌<◌, ◌≤◌, ◌^◌, Bool, true, false, not, List, [], ◌∷◌, ◌++◌, length, length-append, drop, take, nat_le, nat_lt, decimal, codes, if◌then◌else◌, Ok, Err, refl, sym, ◌∙◌, ap, subst, arith, append_assoc, append-nil}
use Rattle.std.proofs.lemmas.Bool.{ltb-false, leb-true, leb-false, lt-ltb, and_from}
use Rattle.std.proofs.lemmas.Bool.Decides.{nat_tests}
use Rattle.std.specs.List.{list_all}
use Rattle.std.specs.Str.Parse.{digits_value}
use Rattle.std.proofs.Math.Seq.{drop-append_seam}
use Rattle.algebra.specs.declared.basic.Basic.{Basic}
use Rattle.algebra.specs.declared.basic.Basic.TheVariants.{Const}
use Rattle.algebra.specs.Basics.{name_of}
use Rattle.conditions.specs.Texts.{dotted}
use Rattle.books.specs.declared.stop.Kind.{Kind}
use Rattle.books.specs.declared.stop.Kind.TheVariants.{Form}
use Rattle.books.specs.Broken.{IsPast}
use Rattle.books.specs.BrokenPaths.{BreaksPath, root, field}
use Rattle.books.specs.Combine.{Res, ◌>>=◌, begins, expect, further, one_of}
use Rattle.books.specs.Reading.{number_digits, is_at_end, number_at, fields_at, path_at, basics, leaf_at}
use Rattle.books.proofs.Complete.{complete_leaf}
use Rattle.books.proofs.Locals.{AfterOk}
use Rattle.books.proofs.Digits.{number_with, number_with-is}
use Rattle.books.proofs.NumberFaults.{Digits, digits_of, none_of, number_ok}
use Rattle.books.proofs.PassLemmas.{front_taken}
use Rattle.books.proofs.Sound.{SoundAt, Bytes, Spells, IsNumber, sound_number}
use Rattle.books.proofs.SoundTrees.{ReadsPath, sound_leaf}
use Rattle.books.proofs.Stops.{Fails, StopsOn, Begun, IsJudged, Judged, Never, judged_seq, judged_done, judged_if, judged_under, judged_expect}

-- ---- numbers

no_number : (end : ℕ) (ts ds : List ℕ) → Digits ts ds → ds ≡ [] → StopsOn (number_at end) [] ts
unfolding number_with
no_number end [] ds d none = tt
no_number end (b ∷ ts) ds d none = λ more.
    let is : d.rest ≡ b ∷ ts = sym (d.whole ∙ ap (λ z. z ++ d.rest) none) in
    let stays : number_digits (b ∷ more) ≡ [] = ap (λ z. number_digits (z ++ (b ∷ more))) (sym none) ∙ d.stays b ts more is ∙ none in
    let stuck : number_at end (b ∷ more) ≡ Err (Form, b ∷ more) = number_with-is end (b ∷ more) ∙ ap (λ z. number_with end z (b ∷ more)) stays in
    subst Fails (sym stuck) tt

-- a number at or past the end of its range begins here
abbrev pub PastAt : ℕ → List ℕ → List ℕ → Type 0
PastAt end front rest = (front ≡ []) × IsPast end rest

same_fronts : (first second rest : List ℕ) → first ++ rest ≡ second ++ rest → first ≡ second
same_fronts first second rest e = sym (front_taken first rest) ∙ ap (λ z. take (length z - length rest) z) e ∙ front_taken second rest

number_case : (end : ℕ) → 0 < end → (ts : List ℕ) (empty small : Bool) → is_at_end (number_digits ts) ≡ empty → nat_lt (digits_value 10 (number_digits ts)) end ≡ small →
    SoundAt (IsNumber end) ts (if empty || not small then Err (Form, ts) else Ok (digits_value 10 (number_digits ts), drop (length (number_digits ts)) ts)) →
    IsJudged (IsNumber end) (IsNumber end) (PastAt end) (number_at end) ts (if empty || not small then Err (Form, ts) else Ok (digits_value 10 (number_digits ts), drop (length (number_digits ts)) ts))
number_case end some ts true small e h s =
    record { front = []; whole = refl; begun = record { more = decimal 0; value = 0; is = (refl, some) }; why = inl (no_number end ts (number_digits ts) (digits_of ts) (none_of (number_digits ts) e)) }
number_case end some ts false false e h s =
    record { front = []; whole = refl; begun = record { more = decimal 0; value = 0; is = (refl, some) }; why = inr (refl, record { digits = e; past = ltb-false (digits_value 10 (number_digits ts)) end h }) }
number_case end some ts false true e h s =
    let d = digits_of ts in
    let behind : drop (length (number_digits ts)) ts ≡ d.rest = ap (λ z. drop (length (number_digits ts)) z) d.whole ∙ drop-append_seam (number_digits ts) d.rest in
    let whole : ts ≡ number_digits ts ++ drop (length (number_digits ts)) ts = d.whole ∙ ap (λ z. number_digits ts ++ z) (sym behind) in
    let same : number_digits ts ≡ s.0 = same_fronts (number_digits ts) s.0 (drop (length (number_digits ts)) ts) (sym whole ∙ s.1) in
    record {
      front = number_digits ts;
      whole = whole;
      is = (same ∙ s.2.0, s.2.1);
      fits = (same ∙ s.2.0, s.2.1);
      on = number_ok end ts (number_digits ts) (drop (length (number_digits ts)) ts) d e h refl;
    }

pub judged_number : (end : ℕ) → 0 < end → end ≤ 2 ^ 64 → (ts : List ℕ) → Judged (IsNumber end) (IsNumber end) (PastAt end) (number_at end) ts (number_at end ts)
unfolding number_with
judged_number end some small ts = record {
  at = subst (λ x. IsJudged (IsNumber end) (IsNumber end) (PastAt end) (number_at end) ts x) (sym (number_with-is end ts))
      (number_case end some ts (is_at_end (number_digits ts)) (nat_lt (digits_value 10 (number_digits ts)) end) refl refl (subst (λ x. SoundAt (IsNumber end) ts x) (number_with-is end ts) (sound_number end small ts)));
}

-- ---- fields and paths

-- fields, each after a point
record FieldsText (most : ℕ) (front : List ℕ) (fields : List ℕ) : Type 0 where
  spelled : front ≡ dotted fields
  fit : list_all (λ f. nat_lt f (2 ^ 32)) fields ≡ true
  few : length fields ≤ most

-- behind some fields and a point begins one that is out of range
record FieldsPast (most : ℕ) (front rest : List ℕ) : Type 0 where
  fields : List ℕ
  spelled : front ≡ dotted fields ++ codes "."
  fit : list_all (λ f. nat_lt f (2 ^ 32)) fields ≡ true
  few : length fields < most
  past : IsPast (2 ^ 32) rest

behind_point : {A : Type 0} (L : List ℕ → A → Type 0) (B : List ℕ → List ℕ → Type 0) (q : List ℕ → Res A) (ts : List ℕ) → begins 46 ts ≡ true →
    ((z : List ℕ) → Judged (λ ys a. L (46 ∷ ys) a) (λ ys a. L (46 ∷ ys) a) (λ ys zs. B (46 ∷ ys) zs) q z (q z)) → Judged L L B (λ z. q (drop 1 z)) ts (q (drop 1 ts))
behind_point L B q [] e law = absurd (let none : false ≡ true = e in cc)
behind_point L B q (b ∷ ts) e law =
    let is : b ≡ 46 = grind (arith, nat_tests) in
    judged_under L L B (λ z. q (drop 1 z)) q b ts (q ts) (λ z. refl) (subst (λ c. Judged (λ ys a. L (c ∷ ys) a) (λ ys a. L (c ∷ ys) a) (λ ys zs. B (c ∷ ys) zs) q ts (q ts)) (sym is) (law ts))

more_fields : (most : ℕ) (xs ys : List ℕ) (f : ℕ) (fs : List ℕ) → IsNumber (2 ^ 32) xs f → FieldsText most ys fs → FieldsText (suc most) (46 ∷ (xs ++ (ys ++ []))) (f ∷ fs)
more_fields most xs ys f fs n more = record {
  spelled = (λ i. 46 ∷ (n.0 i ++ (append-nil ys ∙ more.spelled) i)) ∙ refl;
  fit = and_from (nat_lt f (2 ^ 32)) (list_all (λ f. nat_lt f (2 ^ 32)) fs) (lt-ltb f (2 ^ 32) n.1) more.fit;
  few = omega (arith, more.few);
}

first_past : (most : ℕ) (front rest : List ℕ) → PastAt (2 ^ 32) front rest → FieldsPast (suc most) (46 ∷ front) rest
first_past most front rest d = record { fields = []; spelled = ap (λ z. 46 ∷ z) d.0; fit = refl; few = omega arith; past = d.1 }

later_past : (most : ℕ) (xs : List ℕ) (f : ℕ) (front rest : List ℕ) → IsNumber (2 ^ 32) xs f → FieldsPast most front rest → FieldsPast (suc most) (46 ∷ (xs ++ front)) rest
later_past most xs f front rest n d = record {
  fields = f ∷ d.fields;
  spelled = (λ i. 46 ∷ (n.0 i ++ d.spelled i)) ∙ ap (λ z. 46 ∷ z) (sym (append_assoc (decimal f) (dotted d.fields) (codes ".")));
  fit = and_from (nat_lt f (2 ^ 32)) (list_all (λ f. nat_lt f (2 ^ 32)) d.fields) (lt-ltb f (2 ^ 32) n.1) d.fit;
  few = omega (arith, d.few);
  past = d.past;
}

judged_fields : (most : ℕ) (ts : List ℕ) → Judged (FieldsText most) (FieldsText most) (FieldsPast most) (fields_at most) ts (fields_at most ts)
judged_fields zero ts =
    let none : FieldsText 0 [] [] = record { spelled = refl; fit = refl; few = omega arith } in
    judged_done (FieldsText 0) (FieldsText 0) (FieldsPast 0) [] ts none none
judged_fields (suc most) ts =
    let none : FieldsText (suc most) [] [] = record { spelled = refl; fit = refl; few = omega arith } in
    let g : ℕ → List ℕ → Res (List ℕ) = λ f r. fields_at most r >>= λ fs r. Ok (f ∷ fs, r) in
    judged_if (FieldsText (suc most)) (FieldsText (suc most)) (FieldsPast (suc most)) 46 (λ z. number_at (2 ^ 32) (drop 1 z) >>= g) (λ z. Ok ([], z)) ts (number_at (2 ^ 32) (drop 1 ts) >>= g) (Ok ([], ts))
    (λ go. behind_point (FieldsText (suc most)) (FieldsPast (suc most)) (λ z. number_at (2 ^ 32) z >>= g) ts go
    (λ z. judged_seq (IsNumber (2 ^ 32)) (PastAt (2 ^ 32)) (λ ys fs. FieldsText (suc most) (46 ∷ ys) fs) (λ ys fs. FieldsText (suc most) (46 ∷ ys) fs) (λ ys zs. FieldsPast (suc most) (46 ∷ ys) zs) (number_at (2 ^ 32)) g z (number_at (2 ^ 32) z) g
    (λ front rest d. first_past most front rest d) (judged_number (2 ^ 32) (omega arith) (omega arith) z)
    (λ f xs n r short. judged_seq (FieldsText most) (FieldsPast most) (λ ys fs. FieldsText (suc most) (46 ∷ (xs ++ ys)) fs) (λ ys fs. FieldsText (suc most) (46 ∷ (xs ++ ys)) fs) (λ ys zs. FieldsPast (suc most) (46 ∷ (xs ++ ys)) zs)
    (fields_at most) (λ fs r. Ok (f ∷ fs, r)) r (fields_at most r) (λ fs r. Ok (f ∷ fs, r)) (λ front rest d. later_past most xs f front rest n d) (judged_fields most r)
    (λ fs ys m r short. judged_done (λ zs fs. FieldsText (suc most) (46 ∷ (xs ++ (ys ++ zs))) fs) (λ zs fs. FieldsText (suc most) (46 ∷ (xs ++ (ys ++ zs))) fs) (λ us zs. FieldsPast (suc most) (46 ∷ (xs ++ (ys ++ us))) zs) (f ∷ fs) r
    (more_fields most xs ys f fs n m) (more_fields most xs ys f fs n m)))))
    (λ no_point. judged_done (FieldsText (suc most)) (FieldsText (suc most)) (FieldsPast (suc most)) [] ts none none)

whole_path : (xs ys : List ℕ) (first : ℕ) (fields : List ℕ) → IsNumber (2 ^ 16) xs first → FieldsText 2 ys fields → ReadsPath (xs ++ (ys ++ [])) (record { root = first; fields = fields })
whole_path xs ys first fields n m = ((λ i. n.0 i ++ (append-nil ys ∙ m.spelled) i), record { root = n.1; fields = m.fit; few = m.few })

path_past : (before : _) (xs : List ℕ) (first : ℕ) (front rest : List ℕ) → IsNumber (2 ^ 16) xs first → FieldsPast 2 front rest → BreaksPath before (xs ++ front) rest
path_past before xs first front rest n d =
    let less : length d.fields ≤ 2 = omega (arith, d.few) in
    field (record { root = first; fields = d.fields }) (record { root = n.1; fields = d.fit; few = less }) d.few
    ((λ i. n.0 i ++ d.spelled i) ∙ sym (append_assoc (decimal first) (dotted d.fields) (codes "."))) d.past

pub judged_path : (before : _) (ts : List ℕ) → Judged ReadsPath ReadsPath (BreaksPath before) path_at ts (path_at ts)
unfolding path_at
judged_path before ts =
    judged_seq (IsNumber (2 ^ 16)) (PastAt (2 ^ 16)) ReadsPath ReadsPath (BreaksPath before) (number_at (2 ^ 16)) (λ first r. fields_at 2 r >>= λ fields r. Ok (record { root = first; fields = fields }, r)) ts (number_at (2 ^ 16) ts)
    (λ first r. fields_at 2 r >>= λ fields r. Ok (record { root = first; fields = fields }, r)) (λ front rest d. root d.0 d.1) (judged_number (2 ^ 16) (omega arith) (omega arith) ts)
    (λ first xs n r short. judged_seq (FieldsText 2) (FieldsPast 2) (λ ys p. ReadsPath (xs ++ ys) p) (λ ys p. ReadsPath (xs ++ ys) p) (λ ys zs. BreaksPath before (xs ++ ys) zs) (fields_at 2) (λ fields r. Ok (record { root = first; fields = fields }, r)) r (fields_at 2 r)
    (λ fields r. Ok (record { root = first; fields = fields }, r)) (λ front rest d. path_past before xs first front rest n d) (judged_fields 2 r)
    (λ fields ys m r short. judged_done (λ zs p. ReadsPath (xs ++ (ys ++ zs)) p) (λ zs p. ReadsPath (xs ++ (ys ++ zs)) p) (λ us zs. BreaksPath before (xs ++ (ys ++ us)) zs) (record { root = first; fields = fields }) r
    (whole_path xs ys first fields n m) (whole_path xs ys first fields n m)))

-- ---- names: one of some texts

-- a text with this front and next byte goes on as one with another, shorter front and its next byte
record Within (other : List ℕ) (c : ℕ) (whole : List ℕ) : Type 0 where
  behind : List ℕ
  same : whole ≡ other ++ (c ∷ behind)

within : (other : List ℕ) (c : ℕ) (l front : List ℕ) (b : ℕ) (r : List ℕ) → other ++ (c ∷ l) ≡ front ++ (b ∷ r) → length r ≤ length l → (more : List ℕ) → Within other c (front ++ (b ∷ more))
within [] c l [] b r e shorter more = let same : b ≡ c = cc in record { behind = more; same = ap (λ z. z ∷ more) same }
within [] c l (x ∷ front) b r e shorter more = let same : x ≡ c = cc in record { behind = front ++ (b ∷ more); same = ap (λ z. z ∷ (front ++ (b ∷ more))) same }
within (y ∷ other) c l [] b r e shorter more =
    let rest : other ++ (c ∷ l) ≡ r = cc in
    absurd (omega (arith, shorter, sym (length-append other (c ∷ l)) ∙ ap length rest))
within (y ∷ other) c l (x ∷ front) b r e shorter more =
    let same : x ≡ y = cc in
    let rest : other ++ (c ∷ l) ≡ front ++ (b ∷ r) = cc in
    let w = within other c l front b r rest shorter more in
    record { behind = w.behind; same = (λ i. same i ∷ w.same i) }

-- where nothing is read, nothing is read of a text that goes on alike, and some text begins so
pub record HaltedAt {A : Type 0} (L : List ℕ → A → Type 0) (q : List ℕ → Res A) (ts rest : List ℕ) : Type 0 where
  pub front : List ℕ
  pub whole : ts ≡ front ++ rest
  pub begun : Begun L front
  pub stops : StopsOn q front rest

abbrev pub IsHalted : {A : Type 0} → (List ℕ → A → Type 0) → (List ℕ → Res A) → List ℕ → Res A → Type 0
IsHalted L q ts (Ok y) = Unit {0}
IsHalted L q ts (Err e) = HaltedAt L q ts e.1

fails_either : (A : Type 0) (t : Bool) (e d : Kind × List ℕ) → Fails {A = A} (if t then Err e else Err d)
fails_either A true e d = tt
fails_either A false e d = tt

fails_both : {A : Type 0} (x y : Res A) → Fails x → Fails y → Fails (further x y)
fails_both (Ok a) y f g = absurd f
fails_both (Err e) (Ok b) f g = absurd g
fails_both {A} (Err e) (Err d) f g = fails_either A (nat_le (length e.1) (length d.1)) e d

-- a reader halts also where another one, which gets as far, does
halts_too : {A : Type 0} (q : List ℕ → Res A) (ts other l front : List ℕ) (b : ℕ) (r : List ℕ) → ts ≡ other ++ l → ts ≡ front ++ (b ∷ r) → length (b ∷ r) ≤ length l → StopsOn q other l → (more : List ℕ) → Fails (q (front ++ (b ∷ more)))
halts_too q ts other [] front b r at is shorter s more = absurd (omega (arith, shorter))
halts_too q ts other (c ∷ l) front b r at is shorter s more =
    let w = within other c l front b r (sym at ∙ is) (omega (arith, shorter)) more in
    subst (λ z. Fails (q z)) (sym w.same) (s w.behind)

first_halts : {A : Type 0} (p q : List ℕ → Res A) (ts front rest other l : List ℕ) → ts ≡ front ++ rest → ts ≡ other ++ l → length rest ≤ length l → StopsOn p front rest → StopsOn q other l → StopsOn (λ z. further (p z) (q z)) front rest
first_halts p q ts front [] other l is at shorter s t = tt
first_halts p q ts front (b ∷ r) other l is at shorter s t = λ more. fails_both (p (front ++ (b ∷ more))) (q (front ++ (b ∷ more))) (s more) (halts_too q ts other l front b r at is shorter t more)

second_halts : {A : Type 0} (p q : List ℕ → Res A) (ts front rest other l : List ℕ) → ts ≡ front ++ rest → ts ≡ other ++ l → length l < length rest → StopsOn p front rest → StopsOn q other l → StopsOn (λ z. further (p z) (q z)) other l
second_halts p q ts front rest other [] is at shorter s t = tt
second_halts p q ts front rest other (c ∷ l) is at shorter s t = λ more. fails_both (p (other ++ (c ∷ more))) (q (other ++ (c ∷ more))) (halts_too p ts front rest other c l is at (omega (arith, shorter)) s more) (t more)

halted_by : {A : Type 0} (L : List ℕ → A → Type 0) (p q : List ℕ → Res A) (ts : List ℕ) (e d : Kind × List ℕ) (test : Bool) → nat_le (length e.1) (length d.1) ≡ test → HaltedAt L p ts e.1 → HaltedAt L q ts d.1 →
    IsHalted L (λ z. further (p z) (q z)) ts (if test then Err e else Err d)
halted_by L p q ts e d true is s t = record { front = s.front; whole = s.whole; begun = s.begun; stops = first_halts p q ts s.front e.1 t.front d.1 s.whole t.whole (leb-true (length e.1) (length d.1) is) s.stops t.stops }
halted_by L p q ts e d false is s t = record { front = t.front; whole = t.whole; begun = t.begun; stops = second_halts p q ts s.front e.1 t.front d.1 s.whole t.whole (leb-false (length e.1) (length d.1) is) s.stops t.stops }

halted_further : {A : Type 0} (L : List ℕ → A → Type 0) (p q : List ℕ → Res A) (ts : List ℕ) (x y : Res A) → IsHalted L p ts x → IsHalted L q ts y → IsHalted L (λ z. further (p z) (q z)) ts (further x y)
halted_further L p q ts (Ok a) y s t = tt
halted_further L p q ts (Err e) (Ok b) s t = tt
halted_further L p q ts (Err e) (Err d) s t = halted_by L p q ts e d (nat_le (length e.1) (length d.1)) refl s t

halted_of : {A : Type 0} (L : List ℕ → A → Type 0) (q : List ℕ → Res A) (ts : List ℕ) (x : Res A) → IsJudged L L Never q ts x → IsHalted L q ts x
halted_of L q ts (Ok y) s = tt
halted_of L q ts (Err e) s = record { front = s.front; whole = s.whole; begun = s.begun; stops = stops s.why }
  where
    stops : StopsOn q s.front e.1 ⊎ Never s.front e.1 → StopsOn q s.front e.1
    stops (inl t) = t
    stops (inr t) = absurd t

one_text : {A : Type 0} (spell : A → List ℕ) (x : A) (ts : List ℕ) → Judged (Spells spell) (Spells spell) Never (λ z. expect (spell x) z >>= λ u r. Ok (x, r)) ts (expect (spell x) ts >>= λ u r. Ok (x, r))
one_text spell x ts =
    judged_seq (Bytes (spell x)) Never (Spells spell) (Spells spell) Never (expect (spell x)) (λ u r. Ok (x, r)) ts (expect (spell x) ts) (λ u r. Ok (x, r)) (λ front rest no. no) (judged_expect (spell x) ts)
    (λ u known e r short. judged_done (λ ys b. Spells spell (known ++ ys) b) (λ ys b. Spells spell (known ++ ys) b) (λ ys zs. Never (known ++ ys) zs) x r (append-nil known ∙ e) (append-nil known ∙ e))

pub halted_one_of : {A : Type 0} (spell : A → List ℕ) (other : A) (xs : List A) (ts : List ℕ) → IsHalted (Spells spell) (one_of spell xs) ts (one_of spell xs ts)
halted_one_of spell other [] ts = record { front = []; whole = refl; begun = record { more = spell other; value = other; is = refl }; stops = stop ts }
  where
    stop : (ts : List ℕ) → StopsOn (one_of spell []) [] ts
    stop [] = tt
    stop (b ∷ ts) = λ more. tt
halted_one_of spell other (x ∷ xs) ts =
    let p : List ℕ → Res _ = λ z. expect (spell x) z >>= λ u r. Ok (x, r) in
    halted_further (Spells spell) p (one_of spell xs) ts (p ts) (one_of spell xs ts) (halted_of (Spells spell) p ts (p ts) (one_text spell x ts).at) (halted_one_of spell other xs ts)

leaf_on : (front : List ℕ) (x : Basic) (rest : List ℕ) → front ≡ name_of x → AfterOk leaf_at front x rest
leaf_on front x [] e = tt
leaf_on front x (b ∷ r) e = λ more. ap (λ z. leaf_at (z ++ (b ∷ more))) e ∙ complete_leaf x (b ∷ more)

leaf_by : (ts : List ℕ) (x : Res Basic) → SoundAt (Spells name_of) ts x → IsHalted (Spells name_of) leaf_at ts x → IsJudged (Spells name_of) (Spells name_of) Never leaf_at ts x
leaf_by ts (Ok y) s t = record { front = s.0; whole = s.1; is = s.2; fits = s.2; on = leaf_on s.0 y.0 y.1 s.2 }
leaf_by ts (Err e) s t = record { front = t.front; whole = t.whole; begun = t.begun; why = inl t.stops }

halted_leaf : (ts : List ℕ) → IsHalted (Spells name_of) leaf_at ts (leaf_at ts)
unfolding leaf_at
halted_leaf ts = halted_one_of name_of Const basics ts

pub judged_leaf : (ts : List ℕ) → Judged (Spells name_of) (Spells name_of) Never leaf_at ts (leaf_at ts)
judged_leaf ts = record { at = leaf_by ts (leaf_at ts) (sound_leaf ts) (halted_leaf ts) }
