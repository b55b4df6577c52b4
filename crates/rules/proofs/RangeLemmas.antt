-- Rows that are ranges of one list: what a walk lays leads to the method of the range, and no method is missed where each lies in the range of
-- the next one that it overrides.
use Rattle.std.proofs.Common.{◌≡◌, ◌≢◌, inl, inr, ℕ, zero, suc, ◌+◌, ◌-◌, ◌<◌, ◌≤◌, ◌==◌, Bool, true, false, List, [], ◌∷◌, ◌++◌, length, map, drop, take, replicate, Option, Some, None, refl, sym, ap, subst, ◌∙◌, arith, append-nil}
use Rattle.std.specs.Prelude.{Contains, option_and_then, option_map, slice_get}
use Rattle.std.specs.List.{AllByRecursion}
use Rattle.std.proofs.Math.Seq.{drop-append_seam}
use Rattle.std.proofs.Math.ListN.{drop_of_length-le}
use Rattle.std.proofs.lemmas.Bool.{eqb-true, eqb-false}
use Rattle.std.proofs.lemmas.List.{take-append-le, drop-append-le, length-drop, length-append, map-append, take_all}
use Rattle.std.proofs.lemmas.Option.{none-some, same_Some, slice_get-map, slice_get_within}
use Rattle.base.specs.Ancestors.{steps_up, IsAncestor}
use Rattle.base.proofs.Lists.{at_either, at_left, get_below, contains_cases, contains_later}
use Rattle.base.proofs.Options.{then_parts}
use Rattle.core_program.specs.declared.program.CoreProgram.{CoreProgram}
use Rattle.core_program.specs.Dispatch.{Overrides}
use Rattle.core_program.specs.Overridden.{next_overridden}
use Rattle.core_program.specs.Views.{program_of}
use Rattle.core_program.proofs.OverridesLemmas.{next_overrides, over_leads}
use Rattle.forest.specs.declared.steps.Step.{Step}
use Rattle.forest.specs.declared.steps.Step.TheVariants.{Down, Up}
use Rattle.forest.specs.Walks.{BeginsAt, Leads, above_in, after}
use Rattle.forest.proofs.WalkLemmas.{next_step}
use Rattle.rules.specs.declared.ranges.Range.{Range}
use Rattle.rules.specs.Overriding.{AreOverriders}
use Rattle.rules.specs.Ranges.{in_range, range_at, range_or_empty, LeadsOver, AreSound, StillBelow, IsLaid, step_begin, Lies, LiesIn, LieBelowNext}
use Rattle.rules.specs.Search.{row_at, row_or_none}
use Rattle.rules.proofs.Upwards.{lead_overrides}

-- ---- what stands in a range

taken : (count : ℕ) (xs : List ℕ) (k x : ℕ) → k < count → slice_get xs k ≡ Some x → Contains (take count xs) x
taken zero xs k x low is = absurd (omega (arith, low))
taken (suc count) [] k x low is = absurd (none-some x is)
taken (suc count) (y ∷ ys) zero x low is = (0, omega arith, same_Some y x is)
taken (suc count) (y ∷ ys) (suc k) x low is = contains_later y x (take count ys) (taken count ys k x (omega (arith, low)) is)

in_places : (first count : ℕ) (xs : List ℕ) (k x : ℕ) → first ≤ k → k < first + count → slice_get xs k ≡ Some x → Contains (take count (drop first xs)) x
in_places zero count xs k x low high is = taken count xs k x (omega (arith, high)) is
in_places (suc first) count [] k x low high is = absurd (none-some x is)
in_places (suc first) count (y ∷ ys) zero x low high is = absurd (omega (arith, low))
in_places (suc first) count (y ∷ ys) (suc k) x low high is = in_places first count ys k x (omega (arith, low)) (omega (arith, high)) is

was_taken : (count : ℕ) (xs : List ℕ) (x : ℕ) → Contains (take count xs) x → (k : ℕ) × (k < count) × (slice_get xs k ≡ Some x)
was_taken zero xs x (j, below, is) = absurd (omega (arith, below))
was_taken (suc count) [] x (j, below, is) = absurd (omega (arith, below))
was_taken (suc count) (y ∷ ys) x has = elim (contains_cases y x (take count ys) has) as (λ _. (k : ℕ) × (k < suc count) × (slice_get (y ∷ ys) k ≡ Some x)) [
  | inl e ↦ (0, omega arith, ap Some e)
  | inr later ↦ let r = was_taken count ys x later in (suc r.0, omega (arith, r.1), r.2)
]

-- a place of a range, and what stands there
record IsAt (first count : ℕ) (xs : List ℕ) (x : ℕ) : Type 0 where
  place : ℕ
  low : first ≤ place
  high : place < first + count
  is : slice_get xs place ≡ Some x

place_of : (first count : ℕ) (xs : List ℕ) (x : ℕ) → Contains (take count (drop first xs)) x → IsAt first count xs x
place_of zero count xs x has = let r = was_taken count xs x has in record { place = r.0; low = omega arith; high = omega (arith, r.1); is = r.2 }
place_of (suc first) zero [] x (j, below, is) = absurd (omega (arith, below))
place_of (suc first) (suc count) [] x (j, below, is) = absurd (omega (arith, below))
place_of (suc first) count (y ∷ ys) x has =
    let r = place_of first count ys x has in
    let low = r.low in
    let high = r.high in
    record { place = suc r.place; low = omega (arith, low); high = omega (arith, high); is = r.is }

-- the row of a method is what stands in its range
pub row_in : (order : List ℕ) (ranges : List Range) (m : ℕ) → in_range order (range_at ranges m) ≡ row_at (map (in_range order) ranges) m
row_in order ranges m = by_range (slice_get ranges m) ∙ ap row_or_none (sym (slice_get-map (in_range order) ranges m))
  where
    by_range : (o : Option Range) → in_range order (range_or_empty o) ≡ row_or_none (option_map (in_range order) o)
    by_range None = refl
    by_range (Some range) = refl

-- ---- a walk

above_at : (nexts : List (Option ℕ)) (n : ℕ) (at : Option ℕ) → slice_get nexts n ≡ Some at → at ≡ above_in nexts n
above_at nexts n at is = sym (ap (option_and_then (λ (up : Option ℕ). up)) is)

begins_there : (nexts : List (Option ℕ)) (at : Option ℕ) (step : Step) → BeginsAt nexts at step → at ≡ step_begin nexts step
begins_there nexts at (Down n) begins = above_at nexts n at begins
begins_there nexts at (Up n) begins = begins

-- in a list of copies of one thing each that is there is that
copies : {A : Type 0} (count m : ℕ) (x y : A) → slice_get (replicate count x) m ≡ Some y → x ≡ y
copies zero m x y is = absurd (none-some y is)
copies (suc count) zero x y is = same_Some x y is
copies (suc count) (suc m) x y is = copies count m x y is

begun_none : (count m first : ℕ) → above_in (replicate count None) m ≡ Some first → ⊥
begun_none count m first is =
    let there = then_parts (λ (up : Option ℕ). up) (slice_get (replicate count None) m) first is in
    none-some first (copies count m None there.0 there.1 ∙ there.2)

-- nothing is laid yet
pub laid_none : (nexts : List (Option ℕ)) (begun_count range_count : ℕ) (order : List ℕ) (begun : List (Option ℕ)) (ranges : List Range) (none : Range) → none.count ≡ 0
    → begun ≡ replicate begun_count None → ranges ≡ replicate range_count none → IsLaid nexts None order begun ranges
laid_none nexts begun_count range_count order begun ranges none empty all_begun all_ranges = record {
  ended = λ m k range is low high.
      let same = ap (λ (r : Range). r.count) (copies range_count m none range (ap (λ xs. slice_get xs m) (sym all_ranges) ∙ is)) in
      absurd (omega (arith, low, high, same, empty));
  so_far = λ m first k over is low at. absurd (begun_none begun_count m first (ap (λ xs. above_in xs m) (sym all_begun) ∙ is));
  below = λ m first is. absurd (begun_none begun_count m first (ap (λ xs. above_in xs m) (sym all_begun) ∙ is));
}

-- a slice of the same length that is written back over all of a list
pub written : (ranges old : List Range) (len : ℕ) → len ≡ length old → length ranges ≡ length old → take len (ranges ++ drop (length ranges) old) ≡ ranges
written ranges old len all same =
    ap (λ z. take len (ranges ++ z)) (drop_of_length-le old (omega (arith, same))) ∙ ap (take len) (append-nil ranges) ∙ take_all len ranges (omega (arith, all, same))

-- one method more is laid, and its range begins behind it
pub laid_down : (nexts : List (Option ℕ)) (node first_of_node : ℕ) (order more : List ℕ) (begun later : List (Option ℕ)) (ranges : List Range) (first : Option ℕ) (method : ℕ)
    → method ≡ node → more ≡ order ++ method ∷ [] → first_of_node ≡ length more → first ≡ Some first_of_node
    → ((found : ℕ) → above_in later node ≡ Some found → first ≡ Some found) → ((other : ℕ) → (other ≡ node → ⊥) → above_in later other ≡ above_in begun other)
    → IsLaid nexts (above_in nexts node) order begun ranges → IsLaid nexts (Some node) more later ranges
laid_down nexts node first_of_node order more begun later ranges first method numbered added behind_it began here others so_far = record {
  ended = λ m k range is low high. let r = so_far.ended m k range is low high in (r.0, ap (λ xs. slice_get xs k) added ∙ at_left order (method ∷ []) k r.0 r.1, r.2);
  so_far = λ m from k over is low at. by_test m from k over is low at (m == node) refl;
  below = λ m from is. comes m from is (m == node) refl;
}
  where
    long : length more ≡ length order + 1
    long = ap length added ∙ length-append order (method ∷ [])

    of_other : (m from k over : ℕ) → (m ≡ node → ⊥) → above_in begun m ≡ Some from → from ≤ k → slice_get order k ≡ Some over → LeadsOver nexts over m
    of_other m from k over apart is low at = so_far.so_far m from k over is low at

    last : (m over j : ℕ) → (m ≡ node → ⊥) → StillBelow nexts (above_in nexts node) m → slice_get (method ∷ []) j ≡ Some over → LeadsOver nexts over m
    last m over zero apart leads is =
        let e : node ≡ over = sym numbered ∙ same_Some method over is in
        subst (λ z. LeadsOver nexts z m) e ((λ same. apart (sym same)), leads)
    last m over (suc j) apart leads is = absurd (none-some over is)

    by_test : (m from k over : ℕ) → above_in later m ≡ Some from → from ≤ k → slice_get more k ≡ Some over → (b : Bool) → (m == node) ≡ b → LeadsOver nexts over m
    by_test m from k over is low at true same =
        let e = same_Some first_of_node from (sym began ∙ here from (subst (λ z. above_in later z ≡ Some from) (eqb-true m node same) is)) in
        let within = slice_get_within more k over at in
        absurd (omega (arith, e, behind_it, within, low))
    by_test m from k over is low at false other =
        let apart = eqb-false m node other in
        let old = sym (others m apart) ∙ is in
        elim (at_either order (method ∷ []) k over (ap (λ xs. slice_get xs k) (sym added) ∙ at)) as (λ _. LeadsOver nexts over m) [
          | inl before ↦ so_far.so_far m from k over old low before
          | inr new ↦ last m over new.0 apart (so_far.below m from old) new.2
        ]

    comes : (m from : ℕ) → above_in later m ≡ Some from → (b : Bool) → (m == node) ≡ b → StillBelow nexts (Some node) m
    comes m from is true same = (0, ap Some (sym (eqb-true m node same)))
    comes m from is false other = let r = so_far.below m from (sym (others m (eqb-false m node other)) ∙ is) in (suc r.0, r.1)

-- from the method that the walk goes up from, each other one whose range has begun is still reached
still_below : (nexts : List (Option ℕ)) (node m : ℕ) → (m ≡ node → ⊥) → StillBelow nexts (Some node) m → StillBelow nexts (above_in nexts node) m
still_below nexts node m apart (zero, is) = absurd (apart (sym (same_Some node m is)))
still_below nexts node m apart (suc n, is) = (n, is)

-- a range ends
pub laid_up : (nexts : List (Option ℕ)) (node first : ℕ) (order : List ℕ) (begun later : List (Option ℕ)) (ranges more : List Range) (range : Range)
    → range.first ≡ first → range.count ≡ length order - first → above_in begun node ≡ Some first
    → ((found : Range) → slice_get more node ≡ Some found → found ≡ range) → ((other : ℕ) → (other ≡ node → ⊥) → slice_get more other ≡ slice_get ranges other)
    → ((found : ℕ) → above_in later node ≡ Some found → None ≡ Some found) → ((other : ℕ) → (other ≡ node → ⊥) → above_in later other ≡ above_in begun other)
    → IsLaid nexts (Some node) order begun ranges → IsLaid nexts (above_in nexts node) order later more
laid_up nexts node first order begun later ranges more range begins counted began ranged other_ranges ended other_begun laid = record {
  ended = λ m k found is low high. closed m k found is low high (m == node) refl;
  so_far = λ m from k over is low at. let r = old m from is in laid.so_far m from k over r.1 low at;
  below = λ m from is. let r = old m from is in still_below nexts node m r.0 (laid.below m from r.1);
}
  where
    old : (m from : ℕ) → above_in later m ≡ Some from → (m ≡ node → ⊥) × (above_in begun m ≡ Some from)
    old m from is = by_test (m == node) refl
      where
        by_test : (b : Bool) → (m == node) ≡ b → (m ≡ node → ⊥) × (above_in begun m ≡ Some from)
        by_test true same = absurd (none-some from (ended from (subst (λ z. above_in later z ≡ Some from) (eqb-true m node same) is)))
        by_test false other = let apart = eqb-false m node other in (apart, sym (other_begun m apart) ∙ is)

    closed : (m k : ℕ) (found : Range) → slice_get more m ≡ Some found → found.first ≤ k → k < found.first + found.count → (b : Bool) → (m == node) ≡ b
        → (over : ℕ) × (slice_get order k ≡ Some over) × LeadsOver nexts over m
    closed m k found is low high true same =
        let e = eqb-true m node same in
        let r = ranged found (subst (λ z. slice_get more z ≡ Some found) e is) in
        let f = ap (λ (x : Range). x.first) r in
        let c = ap (λ (x : Range). x.count) r in
        let there = get_below order k (omega (arith, low, high, f, c, begins, counted)) in
        (there.0, there.1, subst (λ z. LeadsOver nexts there.0 z) (sym e) (laid.so_far node first k there.0 began (omega (arith, low, f, begins)) there.1))
    closed m k found is low high false other = laid.ended m k found (sym (other_ranges m (eqb-false m node other)) ∙ is) low high

-- no range has begun at the method that the walk goes up from
pub laid_past : (nexts : List (Option ℕ)) (node : ℕ) (order : List ℕ) (begun : List (Option ℕ)) (ranges : List Range) → above_in begun node ≡ None
    → IsLaid nexts (Some node) order begun ranges → IsLaid nexts (above_in nexts node) order begun ranges
laid_past nexts node order begun ranges none laid = record {
  ended = laid.ended;
  so_far = laid.so_far;
  below = λ m from is. still_below nexts node m (λ same. none-some from (sym none ∙ subst (λ z. above_in begun z ≡ Some from) same is)) (laid.below m from is);
}

-- the walk is at this place, before these steps
pub record Walking (nexts : List (Option ℕ)) (rest : List Step) (order : List ℕ) (begun : List (Option ℕ)) (ranges : List Range) : Type 0 where
  pub at : Option ℕ
  pub leads : Leads nexts at rest
  pub here : IsLaid nexts at order begun ranges

pub walking_on : (nexts : List (Option ℕ)) (steps : List Step) (i : ℕ) (step : Step) (order more : List ℕ) (begun later : List (Option ℕ)) (ranges grown : List Range)
    → slice_get steps i ≡ Some step → Walking nexts (drop i steps) order begun ranges
    → (IsLaid nexts (step_begin nexts step) order begun ranges → IsLaid nexts (after nexts step) more later grown) → Walking nexts (drop (i + 1) steps) more later grown
walking_on nexts steps i step order more begun later ranges grown is w goes =
    let next = next_step nexts w.at steps i step is w.leads in
    record {
      at = after nexts step;
      leads = next.1;
      here = goes (subst (λ at. IsLaid nexts at order begun ranges) (begins_there nexts w.at step next.0) w.here);
    }

-- ---- no method is missed

abbrev IsWithin : Range → Range → Type 0
IsWithin own other = (other.first < own.first) × (own.first + own.count ≤ other.first + other.count)

module _ (nexts : List (Option ℕ)) (order : List ℕ) (ranges : List Range) (all : LieBelowNext nexts order ranges) where
  within : (n over m : ℕ) → steps_up (above_in nexts) (suc n) over ≡ Some m → IsWithin (range_at ranges over) (range_at ranges m)
  within zero over m leads =
      let first = then_parts (λ d. steps_up (above_in nexts) 0 d) (above_in nexts over) m leads in
      let l = all over m (first.1 ∙ first.2) in
      (l.begins, l.ends)
  within (suc n) over m leads =
      let first = then_parts (λ d. steps_up (above_in nexts) (suc n) d) (above_in nexts over) m leads in
      let l = all over first.0 first.1 in
      let begins = l.begins in
      let ends = l.ends in
      let r = within n first.0 m first.2 in
      (omega (arith, begins, r.0), omega (arith, ends, r.1))

  all_there : (over m : ℕ) → IsAncestor (above_in nexts) over m → Contains (in_range order (range_at ranges m)) over
  all_there over m (n, leads) =
      let first = then_parts (λ d. steps_up (above_in nexts) n d) (above_in nexts over) m leads in
      let here = (all over first.0 first.1).here in
      let own = range_at ranges over in
      let other = range_at ranges m in
      let w = within n over m leads in
      in_places other.first other.count order (own.first - 1) over (omega (arith, w.0)) (omega (arith, w.0, w.1)) here

  -- the rows of ranges are those of the methods that override
  pub ranges_exact : (p : CoreProgram) → ((m : ℕ) → above_in nexts m ≡ next_overridden p m) → AreSound nexts order ranges → AreOverriders (program_of p) (map (in_range order) ranges)
  ranges_exact p same sound m over = (
    (λ has. only (slice_get ranges m) refl (subst (λ row. Contains row over) (sym (row_in order ranges m)) has)),
    (λ o. subst (λ row. Contains row over) (row_in order ranges m) (all_there over m (subst (λ next. IsAncestor next over m) (sym next_is) (over_leads p over m o)))),
  )
    where
      next_is : above_in nexts ≡ next_overridden p
      next_is = λ i m. same m i

      only : (o : Option Range) → slice_get ranges m ≡ o → Contains (in_range order (range_or_empty o)) over → Overrides (program_of p) over m
      only None gone (k, below, is) = absurd (omega (arith, below))
      only (Some range) there has =
          let at = place_of range.first range.count order over has in
          let r = sound m at.place range there at.low at.high in
          let e = same_Some r.0 over (sym r.1 ∙ at.is) in
          let leads = subst (λ next. IsAncestor next over m) next_is (subst (λ z. IsAncestor (above_in nexts) z m) e r.2.1) in
          lead_overrides p leads.0 over m leads.1 (subst (λ z. z ≢ m) e r.2.0)

-- ---- rows, laid one behind the other

-- each range is within so many
abbrev pub AllIn : ℕ → List Range → Type 0
AllIn count ranges = AllByRecursion (λ (r : Range). r.first + r.count ≤ count) ranges

in_longer : (order more : List ℕ) (r : Range) → r.first + r.count ≤ length order → in_range (order ++ more) r ≡ in_range order r
in_longer order more r within =
    ap (take r.count) (drop-append-le r.first order more (omega (arith, within)))
    ∙ take-append-le r.count (drop r.first order) more (omega (arith, within, length-drop r.first order))

all_longer : (order more : List ℕ) (ranges : List Range) → AllIn (length order) ranges → map (in_range (order ++ more)) ranges ≡ map (in_range order) ranges
all_longer order more [] within = refl
all_longer order more (r ∷ rs) (first, rest) = λ i. in_longer order more r first i ∷ all_longer order more rs rest i

-- one row more
pub row_laid : (rows all : List (List ℕ)) (row order more : List ℕ) (ranges grown : List Range) (r : Range) → map (in_range order) ranges ≡ rows → AllIn (length order) ranges
    → r.first ≡ length order → r.count ≡ length row → more ≡ order ++ row → grown ≡ ranges ++ r ∷ [] → all ≡ rows ++ row ∷ []
    → (map (in_range more) grown ≡ all) × AllIn (length more) grown
row_laid rows all row order more ranges grown r so_far within begins counted added one_more next = (
  ap (λ z. map (in_range z) grown) added ∙ ap (map (in_range (order ++ row))) one_more ∙ map-append (in_range (order ++ row)) ranges (r ∷ [])
      ∙ ap (λ z. z ++ in_range (order ++ row) r ∷ []) (all_longer order row ranges within ∙ so_far) ∙ ap (λ z. rows ++ z ∷ []) here ∙ sym next,
  subst (AllIn (length more)) (sym one_more) (all_in ranges (λ q low. omega (arith, low, long)) within),
)
  where
    long : length more ≡ length order + length row
    long = ap length added ∙ length-append order row

    here : in_range (order ++ row) r ≡ row
    here =
        ap (λ z. take r.count (drop z (order ++ row))) begins ∙ ap (take r.count) (drop-append_seam order row)
        ∙ take_all r.count row (omega (arith, counted))

    all_in : (rs : List Range) → ((q : Range) → q.first + q.count ≤ length order → q.first + q.count ≤ length more) → AllIn (length order) rs → AllIn (length more) (rs ++ r ∷ [])
    all_in [] weaker tt = (omega (arith, begins, counted, long), tt)
    all_in (q ∷ qs) weaker (first, rest) = (weaker q first, all_in qs weaker rest)

-- ---- what each method overrides next

-- the first of them, so many
pub record AreFirstNexts (p : CoreProgram) (place : ℕ) (nexts : List (Option ℕ)) : Type 0 where
  pub count : length nexts ≡ place
  pub each : (m : ℕ) (next : Option ℕ) → slice_get nexts m ≡ Some next → next ≡ next_overridden p m

pub nexts_none : (p : CoreProgram) (nexts : List (Option ℕ)) → nexts ≡ [] → AreFirstNexts p 0 nexts
nexts_none p nexts none = record { count = ap length none; each = λ m next is. absurd (none-some next (ap (λ xs. slice_get xs m) (sym none) ∙ is)) }

pub nexts_more : (p : CoreProgram) (place method : ℕ) (nexts more : List (Option ℕ)) (next : Option ℕ) → method ≡ place → next ≡ next_overridden p method → more ≡ nexts ++ next ∷ []
    → AreFirstNexts p place nexts → AreFirstNexts p (place + 1) more
nexts_more p place method nexts more next at is added so_far = record {
  count = ap length added ∙ length-append nexts (next ∷ []) ∙ ap (λ n. n + 1) so_far.count;
  each = λ m found there. elim (at_either nexts (next ∷ []) m found (ap (λ xs. slice_get xs m) (sym added) ∙ there)) as (λ _. found ≡ next_overridden p m) [
    | inl old ↦ so_far.each m found old
    | inr new ↦ last m found new.0 new.1 new.2
  ];
}
  where
    last : (m : ℕ) (found : Option ℕ) (j : ℕ) → m ≡ length nexts + j → slice_get (next ∷ []) j ≡ Some found → found ≡ next_overridden p m
    last m found zero far there =
        let count = so_far.count in
        let e : method ≡ m = omega (arith, at, far, count) in
        sym (same_Some next found there) ∙ is ∙ ap (next_overridden p) e
    last m found (suc j) far there = absurd (none-some found there)

-- all; a method that isn't there overrides none
pub nexts_all : (p : CoreProgram) (place : ℕ) (nexts : List (Option ℕ)) → length (program_of p).methods ≤ place → AreFirstNexts p place nexts → (m : ℕ) → above_in nexts m ≡ next_overridden p m
nexts_all p place nexts past have m = by_cell (slice_get nexts m) refl
  where
    by_cell : (o : Option (Option ℕ)) → slice_get nexts m ≡ o → option_and_then (λ (up : Option ℕ). up) o ≡ next_overridden p m
    by_cell (Some next) there = have.each m next there
    by_cell None gone = sym (overrides_none (next_overridden p m) refl)
      where
        overrides_none : (o : Option ℕ) → next_overridden p m ≡ o → o ≡ None
        overrides_none None none = refl
        overrides_none (Some r) is =
            let o = next_overrides p m r is in
            let low = slice_get_within (program_of p).methods m o.method o.is in
            let count = have.count in
            let cell = get_below nexts m (omega (arith, low, past, count)) in
            absurd (none-some cell.0 (sym gone ∙ cell.1))

-- ---- the test

pub none_tested : (nexts : List (Option ℕ)) (order : List ℕ) (ranges : List Range) (over m : ℕ) → above_in nexts over ≡ None → above_in nexts over ≡ Some m → LiesIn order ranges over m
none_tested nexts order ranges over m none is = absurd (none-some m (sym none ∙ is))

pub one_tested : (nexts : List (Option ℕ)) (order : List ℕ) (ranges : List Range) (over next m : ℕ) → above_in nexts over ≡ Some next → Lies order (range_at ranges over) (range_at ranges next) over
    → above_in nexts over ≡ Some m → LiesIn order ranges over m
one_tested nexts order ranges over next m next_is lies is = subst (λ z. LiesIn order ranges over z) (same_Some next m (sym next_is ∙ is)) lies

-- what a cell has is what is above
pub above_is : (nexts : List (Option ℕ)) (over : ℕ) (cell : Option ℕ) → slice_get nexts over ≡ Some cell → above_in nexts over ≡ cell
above_is nexts over cell is = sym (above_at nexts over cell is)

-- those before a place, and the one there
pub more_tested : (nexts : List (Option ℕ)) (order : List ℕ) (ranges : List Range) (place over m : ℕ) → ((m : ℕ) → above_in nexts place ≡ Some m → LiesIn order ranges place m)
    → ((over m : ℕ) → over < place → above_in nexts over ≡ Some m → LiesIn order ranges over m) → over < place + 1 → above_in nexts over ≡ Some m → LiesIn order ranges over m
more_tested nexts order ranges place over m here before low is = by_test (over == place) refl
  where
    by_test : (b : Bool) → (over == place) ≡ b → LiesIn order ranges over m
    by_test true same =
        let e = eqb-true over place same in
        subst (λ z. LiesIn order ranges z m) (sym e) (here m (subst (λ z. above_in nexts z ≡ Some m) e is))
    by_test false other = let apart = eqb-false over place other in before over m (omega (arith, low, apart)) is

pub all_tested : (nexts : List (Option ℕ)) (order : List ℕ) (ranges : List Range) (place : ℕ) → length nexts ≤ place
    → ((over m : ℕ) → over < place → above_in nexts over ≡ Some m → LiesIn order ranges over m) → LieBelowNext nexts order ranges
all_tested nexts order ranges place past before over m is =
    let cell = then_parts (λ (up : Option ℕ). up) (slice_get nexts over) m is in
    let low = slice_get_within nexts over cell.0 cell.1 in
    before over m (omega (arith, low, past)) is
