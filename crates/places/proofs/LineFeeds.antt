-- The line feeds of a text: how many stand before an offset, and where the line of an offset begins.
use Rattle.std.proofs.Common.{◌≡◌, ℕ, zero, suc, ◌+◌, ◌-◌, ◌<◌, ◌≤◌, Bool, true, false, cond, not, List, [], ◌∷◌, length, take, get_or, count_by, Ok, Err, Result, inl, inr, refl, sym, ap, subst, ◌∙◌, arith, MatchResult, nat_cmp}
use Rattle.std.specs.Prelude.{if◌then◌else◌}
use Rattle.std.specs.List.Sorted.{IsBinarySearchResult}
use Rattle.std.proofs.lemmas.Bool.{cases_eq}
use Rattle.std.proofs.lemmas.List.{get_or_default}
use Rattle.std.proofs.lemmas.List.Sorted.{searched}
use Rattle.std.proofs.lemmas.List.Sums.{sum_by-cons, count_by_more_yes, count_by_more_no, suffix_len-take_yes, suffix_len-take_no}
use Rattle.lexer.specs.Places.{is_line_feed}
use Rattle.places.specs.Feeds.{feeds_from, since}

-- numbers that rise, none of them below this one
pub record Rises (base : ℕ) (xs : List ℕ) : Type 0 where
  pub low : (i : ℕ) → i < length xs → base ≤ get_or xs i 0
  pub up : (i j : ℕ) → i < j → j < length xs → get_or xs i 0 < get_or xs j 0

one_lower : (b : Bool) (base : ℕ) (xs : List ℕ) → Rises (base + 1) xs → Rises base (if b then base ∷ xs else xs)
one_lower false base xs r = record { low = λ i below. omega (arith, r.low i below); up = r.up }
one_lower true base xs r = record { low = low; up = up }
  where
    low : (i : ℕ) → i < length (base ∷ xs) → base ≤ get_or (base ∷ xs) i 0
    low zero below = omega arith
    low (suc i) below = omega (arith, r.low i (omega (arith, below)))

    up : (i j : ℕ) → i < j → j < length (base ∷ xs) → get_or (base ∷ xs) i 0 < get_or (base ∷ xs) j 0
    up i zero before below = absurd (omega (arith, before))
    up zero (suc j) before below = omega (arith, r.low j (omega (arith, below)))
    up (suc i) (suc j) before below = r.up i j (omega (arith, before)) (omega (arith, below))

pub rises : (base : ℕ) (cs : List ℕ) → Rises base (feeds_from base cs)
rises base [] = record { low = λ i below. absurd (omega (arith, below)); up = λ i j before below. absurd (omega (arith, below)) }
rises base (c ∷ cs) = one_lower (is_line_feed c) base (feeds_from (base + 1) cs) (rises (base + 1) cs)

-- so many numbers stand before the first that isn't less than this one
pub record IsCount (xs : List ℕ) (top k : ℕ) : Type 0 where
  pub within : k ≤ length xs
  pub before : (i : ℕ) → i < k → get_or xs i 0 < top
  pub behind : (i : ℕ) → k ≤ i → i < length xs → top ≤ get_or xs i 0

one_count : (b : Bool) (base at k n : ℕ) (xs : List ℕ) → ((j : ℕ) → IsCount xs (base + 1 + at) j → j ≡ n)
    → IsCount (if b then base ∷ xs else xs) (base + suc at) k → k ≡ cond b 1 0 + n
one_count false base at k n xs rest h =
    rest k (record { within = h.within; before = λ i below. omega (arith, h.before i below); behind = λ i above below. omega (arith, h.behind i above below) })
    ∙ omega arith
one_count true base at zero n xs rest h = absurd (omega (arith, h.behind 0 (omega arith) (omega arith)))
one_count true base at (suc k) n xs rest h = omega (
  arith,
  rest k (record {
    within = omega (arith, h.within);
    before = λ i below. omega (arith, h.before (suc i) (omega (arith, below)));
    behind = λ i above below. omega (arith, h.behind (suc i) (omega (arith, above)) (omega (arith, below)));
  }),
)

pub counted : (base : ℕ) (cs : List ℕ) (at k : ℕ) → IsCount (feeds_from base cs) (base + at) k → k ≡ count_by is_line_feed (take at cs)
counted base [] zero k h = omega (arith, h.within)
counted base [] (suc at) k h = omega (arith, h.within)
counted base (c ∷ cs) zero zero h = refl
counted base (c ∷ cs) zero (suc k) h =
    absurd (omega (arith, h.before 0 (omega arith), (rises base (c ∷ cs)).low 0 (omega (arith, h.within))))
counted base (c ∷ cs) (suc at) k h =
    one_count (is_line_feed c) base at k (count_by is_line_feed (take at cs)) (feeds_from (base + 1) cs) (counted (base + 1) cs at) h
    ∙ sym (sum_by-cons (λ y. cond (is_line_feed y) 1 0) c (take at cs))

-- what a search for an offset finds
pub found : (text : List ℕ) (at : ℕ) (r : Result ℕ ℕ) → IsBinarySearchResult (λ y. nat_cmp y at) (feeds_from 0 text) r
    → MatchResult r (λ k. k ≡ count_by is_line_feed (take at text)) (λ k. k ≡ count_by is_line_feed (take at text))
found text at r h = by r (searched (feeds_from 0 text) at r h rising)
  where
    all : Rises 0 (feeds_from 0 text)
    all = rises 0 text

    rising : (i j : ℕ) → i ≤ j → j < length (feeds_from 0 text) → get_or (feeds_from 0 text) i 0 ≤ get_or (feeds_from 0 text) j 0
    rising i j le below = elim (cases_eq i j) as (λ _. get_or (feeds_from 0 text) i 0 ≤ get_or (feeds_from 0 text) j 0) [
      | inl same ↦ omega (arith, ap (λ n. get_or (feeds_from 0 text) n 0) same)
      | inr apart ↦ omega (arith, all.up i j (omega arith) below)
    ]

    by : (r : Result ℕ ℕ)
        → MatchResult r (λ i. (i < length (feeds_from 0 text)) × (get_or (feeds_from 0 text) i 0 ≡ at)) (λ i. (i ≤ length (feeds_from 0 text)) × ((k : ℕ) → k < i → get_or (feeds_from 0 text) k 0 < at) × ((k : ℕ) → i ≤ k → k < length (feeds_from 0 text) → at < get_or (feeds_from 0 text) k 0))
        → MatchResult r (λ k. k ≡ count_by is_line_feed (take at text)) (λ k. k ≡ count_by is_line_feed (take at text))
    by (Ok i) h = counted 0 text at i (record {
      within = omega (arith, h.0);
      before = λ k below. omega (arith, h.1, all.up k i below h.0);
      behind = λ k above below. omega (arith, h.1, rising i k above below);
    })
    by (Err i) h = counted 0 text at i (record { within = h.0; before = λ k below. omega (arith, h.1 k below); behind = λ k above below. omega (arith, h.2 k above below) })

abbrev Searched : List ℕ → ℕ → Result ℕ ℕ → Type 0
Searched xs at r = IsBinarySearchResult (λ y. nat_cmp y at) xs r

pub found_ok : (text xs : List ℕ) (at k : ℕ) (r : Result ℕ ℕ) → Searched xs at r → xs ≡ feeds_from 0 text → r ≡ Ok k → k ≡ count_by is_line_feed (take at text)
found_ok text xs at k r h are is = found text at (Ok k) (subst (λ z. Searched z at (Ok k)) are (subst (λ o. Searched xs at o) is h))

pub found_err : (text xs : List ℕ) (at k : ℕ) (r : Result ℕ ℕ) → Searched xs at r → xs ≡ feeds_from 0 text → r ≡ Err k → k ≡ count_by is_line_feed (take at text)
found_err text xs at k r h are is = found text at (Err k) (subst (λ z. Searched z at (Err k)) are (subst (λ o. Searched xs at o) is h))

one_more : (b : Bool) (n m : ℕ) (base : ℕ) (xs : List ℕ) → n ≤ length xs → m ≡ cond b 1 0 + n → m ≤ length (if b then base ∷ xs else xs)
one_more false n m base xs h e = omega (arith, h, e)
one_more true n m base xs h e = omega (arith, h, e)

-- no more line feeds stand before an offset than in all
pub enough : (base : ℕ) (cs : List ℕ) (at : ℕ) → count_by is_line_feed (take at cs) ≤ length (feeds_from base cs)
enough base cs zero = omega arith
enough base [] (suc at) = omega arith
enough base (c ∷ cs) (suc at) =
    one_more (is_line_feed c) _ _ base (feeds_from (base + 1) cs) (enough (base + 1) cs at) (sum_by-cons (λ y. cond (is_line_feed y) 1 0) c (take at cs))

first_feed : (b : Bool) (base : ℕ) (xs : List ℕ) → b ≡ true → get_or (if b then base ∷ xs else xs) 0 0 ≡ base + 0
first_feed true base xs h = omega arith
first_feed false base xs h = absurd (let e : false ≡ true = h in cc)

later_feed : (b : Bool) (base n m v : ℕ) (xs : List ℕ) → get_or xs n 0 ≡ v → m ≡ cond b 1 0 + n → get_or (if b then base ∷ xs else xs) m 0 ≡ v
later_feed false base n m v xs h e = ap (λ k. get_or xs k 0) (e ∙ omega arith) ∙ h
later_feed true base n m v xs h e = ap (λ k. get_or (base ∷ xs) k 0) (let s : m ≡ suc n = omega (arith, e) in s) ∙ h

-- a line feed is listed behind those before it
feed_at : (base : ℕ) (cs : List ℕ) (j : ℕ) → j < length cs → is_line_feed (get_or cs j 0) ≡ true
    → get_or (feeds_from base cs) (count_by is_line_feed (take j cs)) 0 ≡ base + j
feed_at base [] j below h = absurd (omega (arith, below))
feed_at base (c ∷ cs) zero below h = first_feed (is_line_feed c) base (feeds_from (base + 1) cs) h
feed_at base (c ∷ cs) (suc j) below h =
    later_feed (is_line_feed c) base (count_by is_line_feed (take j cs)) _ (base + suc j) (feeds_from (base + 1) cs)
    (feed_at (base + 1) cs j (omega (arith, below)) h ∙ omega arith) (sum_by-cons (λ y. cond (is_line_feed y) 1 0) c (take j cs))

-- where a line begins, before which there are so many line feeds
abbrev pub begin : List ℕ → ℕ → ℕ
begin feeds zero = 0
begin feeds (suc k) = get_or feeds k 0 + 1

pub begins : (text : List ℕ) (at : ℕ) → at ≤ length text → begin (feeds_from 0 text) (count_by is_line_feed (take at text)) + since text at ≡ at
begins text zero within = omega arith
begins text (suc n) within = by (is_line_feed (get_or text n 0)) refl (begins text n (omega (arith, within)))
  where
    next : suc n ≡ n + 1
    next = omega arith

    back : suc n - 1 ≡ n
    back = omega arith

    same : (b : Bool) → is_line_feed (get_or text n 0) ≡ b → not (is_line_feed (get_or text (suc n - 1) 0)) ≡ not b
    same b is = ap (λ k. not (is_line_feed (get_or text k 0))) back ∙ ap not is

    by : (b : Bool) → is_line_feed (get_or text n 0) ≡ b → begin (feeds_from 0 text) (count_by is_line_feed (take n text)) + since text n ≡ n
        → begin (feeds_from 0 text) (count_by is_line_feed (take (suc n) text)) + since text (suc n) ≡ suc n
    by true is before =
        let more = ap (λ k. count_by is_line_feed (take k text)) next ∙ count_by_more_yes is_line_feed text n 0 (omega (arith, within)) is in
        let count : count_by is_line_feed (take (suc n) text) ≡ suc (count_by is_line_feed (take n text)) = omega (arith, more) in
        let here : begin (feeds_from 0 text) (count_by is_line_feed (take (suc n) text)) ≡ get_or (feeds_from 0 text) (count_by is_line_feed (take n text)) 0 + 1 = ap (begin (feeds_from 0 text)) count in
        omega (
          arith,
          here,
          feed_at 0 text n (omega (arith, within)) is,
          suffix_len-take_no (λ c. not (is_line_feed c)) text (suc n) 0 (omega arith) within (same true is),
        )
    by false is before =
        let more = ap (λ k. count_by is_line_feed (take k text)) next ∙ count_by_more_no is_line_feed text n 0 (omega (arith, within)) is in
        omega (
          arith,
          ap (begin (feeds_from 0 text)) more,
          before,
          ap (since text) back,
          suffix_len-take_yes (λ c. not (is_line_feed c)) text (suc n) 0 (omega arith) within (same false is),
        )

-- the line of an offset before which no line feed stands
pub begin_first : (text : List ℕ) (at k : ℕ) → at ≤ length text → k ≡ count_by is_line_feed (take at text) → k ≡ 0 → 0 + since text at ≡ at
begin_first text at k within is first = omega (arith, ap (begin (feeds_from 0 text)) (sym is ∙ first), begins text at within)

-- the line of another offset
pub begin_later : (text feeds : List ℕ) (at k v : ℕ) → feeds ≡ feeds_from 0 text → at ≤ length text → k ≡ count_by is_line_feed (take at text) → 0 < k
    → v ≡ get_or feeds (k - 1) v → v + 1 + since text at ≡ at
begin_later text feeds at zero v are within is later here = absurd (omega (arith, later))
begin_later text feeds at (suc k) v are within is later here =
    let low : k < length feeds = omega (arith, is, ap length are, enough 0 text at) in
    let back : suc k - 1 ≡ k = omega arith in
    let same : v ≡ get_or feeds k 0 = here ∙ (ap (λ j. get_or feeds j v) back ∙ get_or_default feeds k v 0 low) in
    let there : get_or (feeds_from 0 text) k 0 + 1 ≡ begin (feeds_from 0 text) (count_by is_line_feed (take at text)) = ap (begin (feeds_from 0 text)) is in
    omega (arith, same, ap (λ xs. get_or xs k 0) are, there, begins text at within)

-- it has a line feed before it
pub begin_there : (text feeds : List ℕ) (at k : ℕ) → feeds ≡ feeds_from 0 text → k ≡ count_by is_line_feed (take at text) → 0 < k → k - 1 < length feeds
begin_there text feeds at k are is later = omega (arith, is, later, ap length are, enough 0 text at)

-- so many stand before an offset, where the last of them is less than it and the next one isn't
pub placed : (text feeds : List ℕ) (at k : ℕ) → feeds ≡ feeds_from 0 text → (0 < k → get_or feeds (k - 1) 0 < at) → k ≤ length feeds → (k < length feeds → at ≤ get_or feeds k 0)
    → k ≡ count_by is_line_feed (take at text)
placed text feeds at k are behind within next = counted 0 text at k (record {
  within = subst (λ xs. k ≤ length xs) are within;
  before = λ i below. omega (arith, subst (λ xs. get_or xs i 0 < at) are (before i below));
  behind = λ i le below. omega (arith, subst (λ xs. at ≤ get_or xs i 0) are (above i le (subst (λ xs. i < length xs) (sym are) below)));
})
  where
    all : Rises 0 feeds
    all = subst (Rises 0) (sym are) (rises 0 text)

    before : (i : ℕ) → i < k → get_or feeds i 0 < at
    before i below = elim (cases_eq i (k - 1)) as (λ _. get_or feeds i 0 < at) [
      | inl same ↦ omega (arith, ap (λ n. get_or feeds n 0) same, behind (omega (arith, below)))
      | inr apart ↦ omega (arith, all.up i (k - 1) (omega (arith, below, apart)) (omega (arith, below, within)), behind (omega (arith, below)))
    ]

    above : (i : ℕ) → k ≤ i → i < length feeds → at ≤ get_or feeds i 0
    above i le below = elim (cases_eq k i) as (λ _. at ≤ get_or feeds i 0) [
      | inl same ↦ omega (arith, ap (λ n. get_or feeds n 0) same, next (omega (arith, same, below)))
      | inr apart ↦ omega (arith, all.up k i (omega (arith, le, apart)) below, next (omega (arith, le, below)))
    ]
