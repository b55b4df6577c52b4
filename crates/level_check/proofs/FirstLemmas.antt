-- The first of bad ones, and what it is among them.
use Rattle.std.proofs.Common.{◌≡◌, ◌⊎◌, inl, inr, ◌<◌, ◌≤◌, ℕ, zero, suc, ◌+◌, ◌==◌, ◌&&◌, ◌||◌, Bool, true, false, List, [], ◌∷◌, ◌++◌, length, drop, get_or, Some, None, slice_get, refl, sym, ◌∙◌, ap, subst, arith, if◌then◌else◌}
use Rattle.std.specs.Prelude.{Option, Contains, nat_lt}
use Rattle.std.proofs.lemmas.Bool.Decides.{nat_tests}
use Rattle.std.proofs.lemmas.List.Elements.{Contains-append_left, Contains-append_right, Contains-append_cases}
use Rattle.std.proofs.lemmas.Option.{none-some, same_Some, slice_get_within, slice_get-get_or}
use Rattle.base.proofs.Lists.{contains_cases, contains_later, next_drop}
use Rattle.level_check.specs.Told.{ToldLevel, Calls, Wrong}
use Rattle.level_check.specs.declared.bad.Bad.{Bad}
use Rattle.level_check.specs.declared.cells.Cell.{Cell}
use Rattle.level_check.specs.Cells.{Telling, set_of}
use Rattle.level_check.specs.Bad.{is_before, bad_noted, firsts, bads_in, all_bads}
use Rattle.level_check.proofs.Tells.{nothing_there, first_there, told_is_call, wrong_place, wrong_class, wrong_under}

-- The order.

before_itself : (m p u : ℕ) → (nat_lt m m || (m == m && (nat_lt p p || (p == p && nat_lt u u)))) ≡ false
before_itself m p u = grind (arith, nat_tests)

-- what comes before the second is before the third, or the second is no earlier than the third
before_through : (am ap au bm bp bu cm cp cu : ℕ) → (nat_lt am bm || (am == bm && (nat_lt ap bp || (ap == bp && nat_lt bu au)))) ≡ true → (nat_lt am cm || (am == cm && (nat_lt ap cp || (ap == cp && nat_lt cu au)))) ≡ false
    → (nat_lt bm cm || (bm == cm && (nat_lt bp cp || (bp == cp && nat_lt cu bu)))) ≡ false
before_through am ap au bm bp bu cm cp cu first second = grind (arith, nat_tests)

after_through : (am ap au bm bp bu cm cp cu : ℕ) → (nat_lt am bm || (am == bm && (nat_lt ap bp || (ap == bp && nat_lt bu au)))) ≡ false → (nat_lt bm cm || (bm == cm && (nat_lt bp cp || (bp == cp && nat_lt cu bu)))) ≡ false
    → (nat_lt am cm || (am == cm && (nat_lt ap cp || (ap == cp && nat_lt cu au)))) ≡ false
after_through am ap au bm bp bu cm cp cu first second = grind (arith, nat_tests)

-- what isn't before another is of no earlier method, of no earlier place of the same, and under no greater level of the same place
pub method_later : (am ap au bm bp bu : ℕ) → (nat_lt am bm || (am == bm && (nat_lt ap bp || (ap == bp && nat_lt bu au)))) ≡ false → am < bm → ⊥
method_later am ap au bm bp bu after less = grind (arith, nat_tests)

pub place_later : (am ap au bm bp bu : ℕ) → (nat_lt am bm || (am == bm && (nat_lt ap bp || (ap == bp && nat_lt bu au)))) ≡ false → am ≡ bm → bp ≤ ap
place_later am ap au bm bp bu after same = grind (arith, nat_tests)

pub level_lower : (am ap au bm bp bu : ℕ) → (nat_lt am bm || (am == bm && (nat_lt ap bp || (ap == bp && nat_lt bu au)))) ≡ false → am ≡ bm → ap ≡ bp → au ≤ bu
level_lower am ap au bm bp bu after same spot = grind (arith, nat_tests)

-- The first of a list.

-- among those so far, or in the list
abbrev pub IsOne : Option Bad → List Bad → Bad → Type 0
IsOne o bs b = (o ≡ Some b) ⊎ Contains bs b

stays_by : (bs : List Bad) (b a : Bad) (t : Bool) → firsts (if t then Some b else Some a) bs ≡ None → (firsts (Some b) bs ≡ None → ⊥) → (firsts (Some a) bs ≡ None → ⊥) → ⊥
stays_by bs b a true is first second = first is
stays_by bs b a false is first second = second is

some_stays : (bs : List Bad) (a : Bad) → firsts (Some a) bs ≡ None → ⊥
some_stays [] a is = none-some a (sym is)
some_stays (b ∷ bs) a is = stays_by bs b a (is_before b a) is (λ e. some_stays bs b e) (λ e. some_stays bs a e)

-- where none is first there is none
pub firsts_none : (bs : List Bad) (b : Bad) → firsts None bs ≡ None → Contains bs b → ⊥
firsts_none [] b is has = nothing_there b has
firsts_none (c ∷ bs) b is has = some_stays bs c is

-- one of them, and none comes before it
pub record IsFirst (o : Option Bad) (bs : List Bad) (f : Bad) : Type 0 where
  pub one : IsOne o bs f
  pub before : (b : Bad) → IsOne o bs b → is_before b f ≡ false

first_by : (a c f : Bad) (bs : List Bad) (t : Bool) → is_before c a ≡ t → firsts (if t then Some c else Some a) bs ≡ Some f → (firsts (Some c) bs ≡ Some f → IsFirst (Some c) bs f) → (firsts (Some a) bs ≡ Some f → IsFirst (Some a) bs f) → IsFirst (Some a) (c ∷ bs) f
first_by a c f bs true e k one_more other =
    let r = one_more k in
    record {
      one = elim r.one as (λ _. IsOne (Some a) (c ∷ bs) f) [
        | inl same ↦ inr (subst (λ (z : Bad). Contains (c ∷ bs) z) (same_Some c f same) (first_there c bs))
        | inr has ↦ inr (contains_later c f bs has)
      ];
      before = λ b one. elim one as (λ _. is_before b f ≡ false) [
        | inl same ↦ subst (λ (z : Bad). is_before z f ≡ false) (same_Some a b same) (before_through c.method c.place c.under a.method a.place a.under f.method f.place f.under e (r.before c (inl refl)))
        | inr has ↦ elim (contains_cases c b bs has) as (λ _. is_before b f ≡ false) [
          | inl same ↦ r.before b (inl (ap Some same))
          | inr later ↦ r.before b (inr later)
        ]
      ];
    }
first_by a c f bs false e k one_more other =
    let r = other k in
    record {
      one = elim r.one as (λ _. IsOne (Some a) (c ∷ bs) f) [
        | inl same ↦ inl same
        | inr has ↦ inr (contains_later c f bs has)
      ];
      before = λ b one. elim one as (λ _. is_before b f ≡ false) [
        | inl same ↦ r.before b (inl same)
        | inr has ↦ elim (contains_cases c b bs has) as (λ _. is_before b f ≡ false) [
          | inl same ↦ subst (λ (z : Bad). is_before z f ≡ false) same (after_through c.method c.place c.under a.method a.place a.under f.method f.place f.under e (r.before a (inl refl)))
          | inr later ↦ r.before b (inr later)
        ]
      ];
    }

pub firsts_some : (o : Option Bad) (bs : List Bad) (f : Bad) → firsts o bs ≡ Some f → IsFirst o bs f
firsts_some o [] f is = record {
  one = inl is;
  before = λ b one. elim one as (λ _. is_before b f ≡ false) [
    | inl same ↦ subst (λ (z : Bad). is_before z f ≡ false) (same_Some f b (sym is ∙ same)) (before_itself f.method f.place f.under)
    | inr has ↦ absurd (nothing_there b has)
  ];
}
firsts_some None (c ∷ bs) f is =
    let r = firsts_some (Some c) bs f is in
    record {
      one = elim r.one as (λ _. IsOne None (c ∷ bs) f) [
        | inl same ↦ inr (subst (λ (z : Bad). Contains (c ∷ bs) z) (same_Some c f same) (first_there c bs))
        | inr has ↦ inr (contains_later c f bs has)
      ];
      before = λ b one. elim one as (λ _. is_before b f ≡ false) [
        | inl same ↦ absurd (none-some b same)
        | inr has ↦ elim (contains_cases c b bs has) as (λ _. is_before b f ≡ false) [
          | inl same ↦ r.before b (inl (ap Some same))
          | inr later ↦ r.before b (inr later)
        ]
      ];
    }
firsts_some (Some a) (c ∷ bs) f is = first_by a c f bs (is_before c a) refl is (λ k. firsts_some (Some c) bs f k) (λ k. firsts_some (Some a) bs f k)

pub firsts_append : (o : Option Bad) (xs ys : List Bad) → firsts o (xs ++ ys) ≡ firsts (firsts o xs) ys
firsts_append o [] ys = refl
firsts_append o (x ∷ xs) ys = firsts_append (bad_noted o x) xs ys

-- Bad ones of walks.

pub bads_append : (m : ℕ) (xs ys : List ToldLevel) → bads_in m (xs ++ ys) ≡ bads_in m xs ++ bads_in m ys
bads_append m [] ys = refl
bads_append m (Calls k K u ∷ xs) ys = bads_append m xs ys
bads_append m (Wrong p c u ∷ xs) ys = ap (λ bs. record { method = m; place = p; class = c; under = u } ∷ bs) (bads_append m xs ys)

bad_in : (m : ℕ) (told : List ToldLevel) (p c u : ℕ) → Contains told (Wrong p c u) → Contains (bads_in m told) (record { method = m; place = p; class = c; under = u })
bad_in m [] p c u has = absurd (nothing_there _ has)
bad_in m (Calls k K w ∷ told) p c u has = elim (contains_cases (Calls k K w) (Wrong p c u) told has) as (λ _. Contains (bads_in m told) (record { method = m; place = p; class = c; under = u })) [
  | inl same ↦ absurd (let e : true ≡ false = ap told_is_call same in cc)
  | inr later ↦ bad_in m told p c u later
]
bad_in m (Wrong q d v ∷ told) p c u has = elim (contains_cases (Wrong q d v) (Wrong p c u) told has) as (λ _. Contains (record { method = m; place = q; class = d; under = v } ∷ bads_in m told) (record { method = m; place = p; class = c; under = u })) [
  | inl same ↦ (0, omega arith, λ i. record { method = m; place = wrong_place (same i); class = wrong_class (same i); under = wrong_under (same i) })
  | inr later ↦ contains_later (record { method = m; place = q; class = d; under = v }) (record { method = m; place = p; class = c; under = u }) (bads_in m told) (bad_in m told p c u later)
]

in_bad : (m : ℕ) (told : List ToldLevel) (b : Bad) → Contains (bads_in m told) b → (b.method ≡ m) × Contains told (Wrong b.place b.class b.under)
in_bad m [] b has = absurd (nothing_there b has)
in_bad m (Calls k K w ∷ told) b has = let r = in_bad m told b has in (r.0, contains_later (Calls k K w) (Wrong b.place b.class b.under) told r.1)
in_bad m (Wrong p c u ∷ told) b has = elim (contains_cases (record { method = m; place = p; class = c; under = u }) b (bads_in m told) has) as (λ _. (b.method ≡ m) × Contains (Wrong p c u ∷ told) (Wrong b.place b.class b.under)) [
  | inl same ↦ (sym (ap (λ (z : Bad). z.method) same), (0, omega arith, λ i. Wrong (same i).place (same i).class (same i).under))
  | inr later ↦ let r = in_bad m told b later in (r.0, contains_later (Wrong p c u) (Wrong b.place b.class b.under) told r.1)
]

-- a bad one of a cell's walk is among all
pub bad_in_all : (tell : Telling) (cells : List Cell) (x : List ℕ) (c u : ℕ) (cell : Cell) (p d v : ℕ) → slice_get cells c ≡ Some cell → slice_get x c ≡ Some u → Contains (tell cell.callee (set_of cell) u) (Wrong p d v)
    → Contains (all_bads tell cells x) (record { method = cell.callee.method; place = p; class = d; under = v })
bad_in_all tell [] x c u cell p d v there under has = absurd (none-some cell there)
bad_in_all tell (k ∷ cells) [] c u cell p d v there under has = absurd (none-some u under)
bad_in_all tell (k ∷ cells) (w ∷ x) zero u cell p d v there under has =
    let same = same_Some k cell there in
    let level = same_Some w u under in
    Contains-append_left (bads_in k.callee.method (tell k.callee (set_of k) w)) (all_bads tell cells x) (record { method = cell.callee.method; place = p; class = d; under = v })
    (subst (λ n. Contains (bads_in k.callee.method (tell k.callee (set_of k) n)) (record { method = cell.callee.method; place = p; class = d; under = v })) (sym level)
    (subst (λ (z : Cell). Contains (bads_in z.callee.method (tell z.callee (set_of z) u)) (record { method = cell.callee.method; place = p; class = d; under = v })) (sym same) (bad_in cell.callee.method (tell cell.callee (set_of cell) u) p d v has)))
bad_in_all tell (k ∷ cells) (w ∷ x) (suc c) u cell p d v there under has =
    Contains-append_right (bads_in k.callee.method (tell k.callee (set_of k) w)) (all_bads tell cells x) (record { method = cell.callee.method; place = p; class = d; under = v }) (bad_in_all tell cells x c u cell p d v there under has)

-- and each of all is one of a cell's walk
pub record IsOfCell (tell : Telling) (cells : List Cell) (x : List ℕ) (b : Bad) : Type 0 where
  pub at : ℕ
  pub cell : Cell
  pub from : ℕ
  pub there : slice_get cells at ≡ Some cell
  pub level : slice_get x at ≡ Some from
  pub of_method : b.method ≡ cell.callee.method
  pub told : Contains (tell cell.callee (set_of cell) from) (Wrong b.place b.class b.under)

pub all_in_bad : (tell : Telling) (cells : List Cell) (x : List ℕ) (b : Bad) → Contains (all_bads tell cells x) b → IsOfCell tell cells x b
all_in_bad tell [] x b has = absurd (nothing_there b has)
all_in_bad tell (k ∷ cells) [] b has = absurd (nothing_there b has)
all_in_bad tell (k ∷ cells) (w ∷ x) b has = elim (Contains-append_cases (bads_in k.callee.method (tell k.callee (set_of k) w)) (all_bads tell cells x) b has) as (λ _. IsOfCell tell (k ∷ cells) (w ∷ x) b) [
  | inl here ↦ let r = in_bad k.callee.method (tell k.callee (set_of k) w) b here in record { at = 0; cell = k; from = w; there = refl; level = refl; of_method = r.0; told = r.1 }
  | inr later ↦ let r = all_in_bad tell cells x b later in record { at = suc r.at; cell = r.cell; from = r.from; there = r.there; level = r.level; of_method = r.of_method; told = r.told }
]

-- The loop over cells.

next_at : {A : Type 0} (xs : List A) (k : ℕ) (y : A) → slice_get xs k ≡ Some y → drop k xs ≡ y ∷ drop (k + 1) xs
next_at xs k y is = next_drop xs k y (slice_get_within xs k y is) (by_get xs k y is)
  where
    by_get : {A : Type 0} (xs : List A) (k : ℕ) (y : A) → slice_get xs k ≡ Some y → y ≡ get_or xs k y
    by_get [] k y is = absurd (none-some y is)
    by_get (z ∷ xs) zero y is = sym (same_Some z y is)
    by_get (z ∷ xs) (suc k) y is = by_get xs k y is

-- one cell more
pub all_next : (tell : Telling) (cells : List Cell) (x : List ℕ) (i : ℕ) (cell : Cell) (now new whole : Option Bad) → slice_get cells i ≡ Some cell → i < length x → new ≡ firsts now (bads_in cell.callee.method (tell cell.callee (set_of cell) (get_or x i 0)))
    → firsts now (all_bads tell (drop i cells) (drop i x)) ≡ whole → firsts new (all_bads tell (drop (i + 1) cells) (drop (i + 1) x)) ≡ whole
all_next tell cells x i cell now new whole there below bad_noted so_far =
    ap (λ o. firsts o (all_bads tell (drop (i + 1) cells) (drop (i + 1) x))) bad_noted
    ∙ sym (firsts_append now (bads_in cell.callee.method (tell cell.callee (set_of cell) (get_or x i 0))) (all_bads tell (drop (i + 1) cells) (drop (i + 1) x)))
    ∙ ap (firsts now) (sym (ap (λ cs. all_bads tell cs (drop i x)) (next_at cells i cell there) ∙ ap (λ us. all_bads tell (cell ∷ drop (i + 1) cells) us) (next_at x i (get_or x i 0) (slice_get-get_or x i 0 below))))
    ∙ so_far

-- past the last level there is nothing
pub all_done : (tell : Telling) (cells : List Cell) (x : List ℕ) (i : ℕ) (now whole : Option Bad) → length x ≤ i → firsts now (all_bads tell (drop i cells) (drop i x)) ≡ whole → now ≡ whole
all_done tell cells x i now whole end so_far = sym (ap (firsts now) (ap (λ us. all_bads tell (drop i cells) us) (dropped x i end) ∙ without (drop i cells))) ∙ so_far
  where
    dropped : (xs : List ℕ) (k : ℕ) → length xs ≤ k → drop k xs ≡ []
    dropped [] zero is = refl
    dropped [] (suc k) is = refl
    dropped (z ∷ xs) zero is = absurd (omega (arith, is))
    dropped (z ∷ xs) (suc k) is = dropped xs k (omega (arith, is))

    without : (cells : List Cell) → all_bads tell cells [] ≡ []
    without [] = refl
    without (c ∷ cells) = refl
