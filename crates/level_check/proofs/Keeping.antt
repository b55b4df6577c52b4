-- What the code keeps while it reads lines, and what it is at their end.
use Rattle.std.proofs.Common.{◌≡◌, ℕ, zero, suc, ◌+◌, ◌-◌, ◌<◌, ◌≤◌, ◌==◌, ◌⊎◌, Bool, true, false, List, [], ◌∷◌, ◌++◌, length, map, option_map, position, cond, nat_lt, Option, Some, None, Result, Ok, Err, Contains, slice_get, get_or, set, replicate, unwrap_or, decimal, if◌then◌else◌, refl, sym, ◌∙◌, ap, subst, arith, append_assoc, inl, inr}
use Rattle.std.proofs.lemmas.Bool.{cases_lt, cases_eq, eqb-true, eqb-false, ne_eqb, ltb-false, not-false}
use Rattle.std.proofs.lemmas.List.{length-set, length-replicate, get_or-set_same, get_or-set_other, get_or-replicate}
use Rattle.std.proofs.lemmas.List.Quantifiers.{position-Some}
use Rattle.std.proofs.lemmas.List.Sums.{fails_before_first}
use Rattle.std.specs.List.{position_or_len}
use Rattle.std.proofs.lemmas.Option.{slice_get-map, slice_get_read, slice_get_within, slice_get_past, unwrap_or-slice_get, same_Some}
use Rattle.std.proofs.lemmas.List.Elements.{Contains-append_right}
use Rattle.base.proofs.Lists.{contains_later}
use Rattle.classes.specs.Table.{TableData, class_number}
use Rattle.core_program.specs.Core.{Program, Class}
use Rattle.core_program.specs.Dispatch.{above_of, above_in}
use Rattle.levels.specs.Walks.{level_in}
use Rattle.levels.specs.SlotTypes.{AreMarked}
use Rattle.levels.specs.declared.levels.Levels.{Levels}
use Rattle.level_check.specs.declared.reader.LevelsFault.{LevelsFault}
use Rattle.level_check.specs.declared.reader.LevelsFault.TheVariants as faults
use Rattle.level_check.specs.Texts.{LevelLine, level_line_text, level_lines_text, IsLevelLine}
use Rattle.level_check.specs.Reading.{name_at, level_at}
use Rattle.level_check.specs.Faults.{HasStood, IsNew, AreNew, HasGivenLevel, AreLevelsTold, IsMissing, Differs, IsUnequal, IsFirstLevelsFault}
use Rattle.level_check.specs.Kept.{is_at, level_on, differs, KeepsLevels, HasRead, IsRead, IsLevelsAnswer}
use Rattle.level_check.proofs.Parts.{sound_name, sound_level}
use Rattle.level_check.proofs.Fronts.{text_more, new_more}
use Rattle.level_check.proofs.Single.{same_name, class_within, level_is_on}

-- the level of a class is an entry
pub level_at_place : (levels : List ℕ) (c : ℕ) → level_in levels c ≡ get_or levels c 0
level_at_place levels c = unwrap_or-slice_get levels c 0

past : (levels : List ℕ) (c : ℕ) → length levels ≤ c → level_in levels c ≡ 0
past levels c more = rw (slice_get_past levels c more) refl

-- at the start
pub none_kept : (t : TableData) (n : ℕ) (levels : List ℕ) → length t.names ≡ n → levels ≡ replicate n 0 → KeepsLevels t [] levels
none_kept t n levels count e = record {
  are_new = tt;
  count = ap length e ∙ length-replicate {A = ℕ} n 0 ∙ sym count;
  each = λ c. ap (λ xs. level_in xs c) e ∙ zeros c (cases_lt c n);
}
  where
    zeros : (c : ℕ) → (c < n) ⊎ (n ≤ c) → level_in (replicate n 0) c ≡ 0
    zeros c (inl less) = level_at_place (replicate n 0) c ∙ get_or-replicate n c 0 0 less
    zeros c (inr more) = past (replicate n 0) c (let e = length-replicate {A = ℕ} n 0 in omega (arith, more, e))

-- a class with a level has a line
pub has_line : (t : TableData) (ls : List LevelLine) (c : ℕ) → 0 < level_on t ls c → HasGivenLevel t ls c (level_on t ls c)
has_line t [] c some = absurd (omega (arith, some))
has_line t (x ∷ xs) c some = by (class_number t x.name) refl (λ more. has_line t xs c more) some
  where
    Later : Type 0
    Later = 0 < level_on t xs c → HasGivenLevel t xs c (level_on t xs c)

    head : (k : Bool) (o : Option ℕ) → is_at o c ≡ k → o ≡ class_number t x.name → Later → 0 < (if k then x.level else level_on t xs c) → HasGivenLevel t (x ∷ xs) c (if k then x.level else level_on t xs c)
    head true None at e later some = absurd (let no : false ≡ true = at in cc)
    head true (Some d) at e later some = record { line = x; among = (0, omega arith, refl); named = sym e ∙ ap Some (eqb-true d c at); level_is = refl }
    head false o at e later some = let h = later some in record { line = h.line; among = contains_later x h.line xs h.among; named = h.named; level_is = h.level_is }

    by : (o : Option ℕ) → o ≡ class_number t x.name → Later → 0 < level_on t (x ∷ xs) c → HasGivenLevel t (x ∷ xs) c (level_on t (x ∷ xs) c)
    by o e later some = subst (λ k. HasGivenLevel t (x ∷ xs) c (if k then x.level else level_on t xs c)) (ap (λ p. is_at p c) e)
        (head (is_at o c) o refl e later (subst (λ k. 0 < (if k then x.level else level_on t xs c)) (ap (λ p. is_at p c) (sym e)) some))

-- each level on lines is positive
pub line_positive : (t : TableData) (before ls : List LevelLine) (l : LevelLine) → AreNew t before ls → Contains ls l → 0 < l.level
line_positive t before [] l are among = absurd (omega (arith, among.1))
line_positive t before (x ∷ xs) l are (zero, within, e) = subst (λ z. 0 < z.level) e are.0.positive
line_positive t before (x ∷ xs) l are (suc k, within, e) = line_positive t (before ++ x ∷ []) xs l are.2 (k, omega (arith, within), e)

-- a class without a level has no line
pub no_line : (t : TableData) (ls : List LevelLine) (c : ℕ) (l : LevelLine) → AreNew t [] ls → level_on t ls c ≡ 0 → Contains ls l → class_number t l.name ≡ Some c → ⊥
no_line t ls c l are none among named =
    let e = level_is_on t [] ls c l are among named in
    let some = line_positive t [] ls l are among in omega (arith, e, none, some)

-- ---- a name

pub stood : (t : TableData) (before : List LevelLine) (levels name : List ℕ) (c n : ℕ) → KeepsLevels t before levels → class_number t name ≡ Some c → n ≡ level_in levels c → 0 < n → HasStood before name
stood t before levels name c n keeps named is some =
    let h = has_line t before c (subst (λ z. 0 < z) (is ∙ keeps.each c) some) in
    (h.line, h.among, same_name t h.line.name name c h.named named)

pub is_new : (t : TableData) (before : List LevelLine) (levels name : List ℕ) (c n : ℕ) → KeepsLevels t before levels → class_number t name ≡ Some c → n ≡ level_in levels c → n ≤ 0 → IsNew t before name
is_new t before levels name c n keeps named is none = record {
  class = c;
  named = named;
  first = λ s. no_line t before c s.0 keeps.are_new (let e = sym (keeps.each c) in let zero_is : level_on t before c ≡ 0 = omega (arith, e, is, none) in zero_is) s.1 (ap (class_number t) s.2 ∙ named);
}

-- ---- a line

level_behind : (t : TableData) (ls : List LevelLine) (l : LevelLine) (c : ℕ) → is_at (class_number t l.name) c ≡ false → level_on t (ls ++ l ∷ []) c ≡ level_on t ls c
level_behind t [] l c other = rw other refl
level_behind t (x ∷ xs) l c other = ap (λ z. if is_at (class_number t x.name) c then x.level else z) (level_behind t xs l c other)

not_at : (o : Option ℕ) (c d : ℕ) → o ≡ Some c → (d ≡ c → ⊥) → is_at o d ≡ false
not_at None c d e other = refl
not_at (Some k) c d e other = ne_eqb k d (λ same. other (sym same ∙ same_Some k c e))

pub more_kept : (t : TableData) (before : List LevelLine) (old new : List ℕ) (l : LevelLine) (c : ℕ) → KeepsLevels t before old → IsLevelLine l → IsNew t before l.name → class_number t l.name ≡ Some c
    → new ≡ set old c l.level → KeepsLevels t (before ++ l ∷ []) new
more_kept t before old new l c keeps is new_name named e = record {
  are_new = are;
  count = ap length e ∙ length-set old c l.level ∙ keeps.count;
  each = λ d. ap (λ xs. level_in xs d) e ∙ level_at_place (set old c l.level) d ∙ by d (cases_eq d c);
}
  where
    are : AreNew t [] (before ++ l ∷ [])
    are = new_more t [] before l keeps.are_new is new_name

    within : c < length old
    within = let k = class_within t l.name c named in omega (arith, k, keeps.count)

    last : Contains (before ++ l ∷ []) l
    last = Contains-append_right before (l ∷ []) l (0, omega arith, refl)

    by : (d : ℕ) → (d ≡ c) ⊎ (d ≡ c → ⊥) → get_or (set old c l.level) d 0 ≡ level_on t (before ++ l ∷ []) d
    by d (inl same) =
        ap (λ k. get_or (set old c l.level) k 0) same ∙ get_or-set_same old c l.level 0 within
        ∙ sym (level_is_on t [] (before ++ l ∷ []) d l are last (named ∙ ap Some (sym same)))
    by d (inr other) =
        get_or-set_other old c d l.level 0 other ∙ sym (level_at_place old d) ∙ keeps.each d ∙ sym (level_behind t before l d (not_at (class_number t l.name) c d named other))

-- a name, a class and a level that were read are a line
pub line_read : (t : TableData) (before : List LevelLine) (old text name behind : List ℕ) (c place n : ℕ) (rest : List ℕ) → KeepsLevels t before old → name_at text ≡ Ok (name, behind) → class_number t name ≡ Some c
    → IsNew t before name → level_at behind ≡ Ok (n, rest) → place ≡ c → IsRead t before text rest (set old place n)
line_read t before old text name behind c place n rest keeps named class is_new leveled e =
    let a = sound_name text name behind named in
    let b = sound_level behind n rest leveled in
    let line : LevelLine = record { name = name; level = n } in
    let is : IsLevelLine line = record { name = a.word; positive = b.positive; fits = b.fits } in
    record {
      line = line;
      is_line = is;
      is_new = is_new;
      whole = a.whole ∙ ap (λ z. name ++ (32 ∷ z)) b.whole ∙ sym (append_assoc name (32 ∷ (decimal n ++ (10 ∷ []))) rest ∙ ap (λ z. name ++ (32 ∷ z)) (append_assoc (decimal n) (10 ∷ []) rest));
      keeps = more_kept t before old (set old place n) line c keeps is is_new class (ap (λ k. set old k n) e);
    }

-- ---- all lines

pub more_read : (t : TableData) (bytes rest levels left new : List ℕ) → (h : HasRead t bytes rest levels) → IsRead t h.lines rest left new → HasRead t bytes left new
more_read t bytes rest levels left new h r = record {
  lines = h.lines ++ r.line ∷ [];
  begins = record {
    whole = h.begins.whole ∙ ap (λ z. level_lines_text h.lines ++ z) r.whole ∙ sym (append_assoc (level_lines_text h.lines) (level_line_text r.line) left) ∙ ap (λ z. z ++ left) (sym (text_more h.lines r.line));
    are_new = r.keeps.are_new;
  };
  keeps = r.keeps;
}

-- ---- classes that extend others

pub differs_not : (P : Program) (levels : List ℕ) (c : ℕ) (class : Class) → slice_get P.classes c ≡ Some class → differs (level_in levels) c class.above ≡ false → Differs P levels c → ⊥
differs_not P levels c class there e (d, above, other) = by class.above (sym (ap above_in there) ∙ above) e
  where
    by : (o : Option ℕ) → o ≡ Some d → differs (level_in levels) c o ≡ false → ⊥
    by None h k = absurd (let no : None ≡ Some d = h in cc)
    by (Some a) h k =
        let same : level_in levels c ≡ level_in levels a = eqb-true (level_in levels c) (level_in levels a) (not-false (level_in levels c == level_in levels a) k) in
        other (same ∙ ap (level_in levels) (same_Some a d h))

-- one class more
pub next_differs : (P : Program) (levels : List ℕ) (c : ℕ) → ((d : ℕ) → d < c → Differs P levels d → ⊥) → (Differs P levels c → ⊥) → (d : ℕ) → d < c + 1 → Differs P levels d → ⊥
next_differs P levels c before here d less differs = by (cases_eq d c)
  where
    by : (d ≡ c) ⊎ (d ≡ c → ⊥) → ⊥
    by (inl same) = here (subst (Differs P levels) same differs)
    by (inr other) = before d (omega (arith, less, other)) differs

above_within : (P : Program) (c d : ℕ) → above_of P c ≡ Some d → c < length P.classes
above_within P c d e = by (slice_get P.classes c) refl e
  where
    by : (o : Option Class) → slice_get P.classes c ≡ o → above_in o ≡ Some d → c < length P.classes
    by None h k = absurd (let no : None ≡ Some d = k in cc)
    by (Some class) h k = slice_get_within P.classes c class h

-- where none differs, all are as they have to be
pub none_differs : (P : Program) (levels : List ℕ) → ((c : ℕ) → c < length P.classes → Differs P levels c → ⊥) → AreMarked P (level_in levels)
none_differs P levels none c d above = by (cases_eq (level_in levels c) (level_in levels d))
  where
    by : (level_in levels c ≡ level_in levels d) ⊎ (level_in levels c ≡ level_in levels d → ⊥) → level_in levels c ≡ level_in levels d
    by (inl same) = same
    by (inr other) = absurd (none c (above_within P c d above) (d, above, other))

-- ---- at the end

pub all_told : (t : TableData) (bytes levels : List ℕ) → HasRead t bytes [] levels → ((c : ℕ) → c < length levels → 0 < level_in levels c) → AreLevelsTold t bytes levels
all_told t bytes levels h each = record {
  lines = h.lines;
  begins = h.begins;
  count = h.keeps.count;
  each = λ c n e.
      let same : level_in levels c ≡ n = ap (λ o. unwrap_or o 0) e in
      let on : level_on t h.lines c ≡ n = sym (h.keeps.each c) ∙ same in
      let some = each c (slice_get_within levels c n e) in
      subst (HasGivenLevel t h.lines c) on (has_line t h.lines c (subst (λ z. 0 < z) (h.keeps.each c) some));
}

pub is_missing : (t : TableData) (bytes levels : List ℕ) (c : ℕ) → HasRead t bytes [] levels → c < length levels → level_in levels c ≡ 0 → ((d : ℕ) → d < c → 0 < level_in levels d) → IsMissing t bytes c
is_missing t bytes levels c h within none each = record {
  lines = h.lines;
  begins = h.begins;
  there = omega (arith, within, h.keeps.count);
  none = λ n has. no_line t h.lines c has.line h.keeps.are_new (sym (h.keeps.each c) ∙ none) has.among has.named;
  earlier = λ d less. (level_on t h.lines d, has_line t h.lines d (subst (λ z. 0 < z) (h.keeps.each d) (each d less)));
}

-- where there is no place, nothing passes
none_passes : (p : ℕ → Bool) (xs : List ℕ) → position p xs ≡ None → (k d : ℕ) → k < length xs → p (get_or xs k d) ≡ true → ⊥
none_passes p xs e k d less pass = by (nat_lt (position_or_len p xs) (length xs)) refl e
  where
    by : (b : Bool) → nat_lt (position_or_len p xs) (length xs) ≡ b → cond b (Some (position_or_len p xs)) None ≡ None → ⊥
    by true h n = absurd (cc)
    by false h n =
        let past = ltb-false (position_or_len p xs) (length xs) h in
        let fails = fails_before_first p xs k d (omega (arith, less, past)) in
        let both : true ≡ false = sym pass ∙ fails in absurd (cc)

-- the first class without a level
pub missing_at : (t : TableData) (bytes levels slice : List ℕ) (c : ℕ) → HasRead t bytes [] levels → slice ≡ levels → Some c ≡ position (λ n. n == 0) slice → IsMissing t bytes c
missing_at t bytes levels slice c h same e =
    let first = position-Some (λ n. n == 0) levels c 0 (ap (position (λ n. n == 0)) (sym same) ∙ sym e) in
    is_missing t bytes levels c h first.0 (level_at_place levels c ∙ eqb-true (get_or levels c 0) 0 first.1)
    (λ d less. subst (λ n. 0 < n) (sym (level_at_place levels d)) (some (get_or levels d 0) (eqb-false (get_or levels d 0) 0 (first.2 d less))))
  where
    some : (n : ℕ) → (n ≡ 0 → ⊥) → 0 < n
    some n other = omega (arith, other)

-- no class without a level
pub none_missing : (t : TableData) (bytes levels slice : List ℕ) → HasRead t bytes [] levels → slice ≡ levels → None ≡ position (λ n. n == 0) slice → AreLevelsTold t bytes levels
none_missing t bytes levels slice h same e = all_told t bytes levels h (λ c less. subst (λ n. 0 < n) (sym (level_at_place levels c)) (some c less (get_or levels c 0) refl))
  where
    none : position (λ n. n == 0) levels ≡ None
    none = ap (position (λ n. n == 0)) (sym same) ∙ sym e

    some : (c : ℕ) → c < length levels → (n : ℕ) → get_or levels c 0 ≡ n → 0 < n
    some c less zero is = absurd (none_passes (λ n. n == 0) levels none c 0 less (ap (λ n. n == 0) is))
    some c less (suc n) is = omega arith

-- ---- answers

-- a fault of the lines
pub told_fault : (t : TableData) (P : Program) (bytes : List ℕ) (r : Result Levels LevelsFault) (e its : LevelsFault) → r ≡ Err e → e ≡ its
    → (its ≡ faults.NoMemory) ⊎ ((Q : Program) → IsFirstLevelsFault t Q bytes its) → IsLevelsAnswer t P bytes r
told_fault t P bytes r e its is same why = subst (λ x. IsLevelsAnswer t P bytes x) (sym is) (subst (λ f. (f ≡ faults.NoMemory) ⊎ IsFirstLevelsFault t P bytes f) (sym same) (at why))
  where
    at : (its ≡ faults.NoMemory) ⊎ ((Q : Program) → IsFirstLevelsFault t Q bytes its) → (its ≡ faults.NoMemory) ⊎ IsFirstLevelsFault t P bytes its
    at (inl memory) = inl memory
    at (inr first) = inr (first P)

-- a class that differs
pub unequal_at : (t : TableData) (P : Program) (bytes levels slice : List ℕ) (c : ℕ) → AreLevelsTold t bytes levels → slice ≡ levels → Differs P slice c → ((d : ℕ) → d < c → Differs P slice d → ⊥) → IsUnequal t P bytes c
unequal_at t P bytes levels slice c told same differs earlier = record {
  levels = levels;
  told = told;
  differs = subst (λ x. Differs P x c) same differs;
  earlier = λ d less other. earlier d less (subst (λ x. Differs P x d) (sym same) other);
}

-- an entry of a list that is seen by a function
pub there_is : {A B : Type 0} (f : A → B) (xs : List A) (ys : List B) (k : ℕ) (x : A) → map f xs ≡ ys → k < length xs → x ≡ get_or xs k x → slice_get ys k ≡ Some (f x)
there_is f xs ys k x e less is = subst (λ zs. slice_get zs k ≡ Some (f x)) e (slice_get-map f xs k ∙ ap (option_map f) (slice_get_read xs (length xs) k x refl less is))
