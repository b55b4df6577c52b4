-- Before ranks are given; the methods that are asked in a round; and the last round.
use Rattle.std.proofs.Common.{◌≡◌, ◌⊎◌, ℕ, zero, suc, ◌+◌, ◌<◌, ◌≤◌, Bool, true, false, ◌||◌, List, [], ◌∷◌, ◌++◌, Option, Some, None, length, map, drop, get_or, slice_get, append-nil, append_assoc, refl, sym, ap, subst, ◌∙◌, if◌then◌else◌, arith, inl, inr}
use Rattle.std.proofs.lemmas.Bool.{or_parts}
use Rattle.std.proofs.lemmas.Option.{same_Some, none-some, slice_get_within}
use Rattle.std.proofs.Math.ListN.{drop_of_length-le}
use Rattle.std.proofs.Math.Nat.{eq-or-lt_of_le}
use Rattle.base.proofs.Lists.{next_drop}
use Rattle.paths.specs.Paths.{PathData}
use Rattle.algebra.specs.declared.basic.Basic.{Basic}
use Rattle.algebra.specs.Basics.{below_of}
use Rattle.core_program.specs.declared.program.CoreMethod.{CoreMethod}
use Rattle.core_program.specs.Core.{Program, Method}
use Rattle.core_program.specs.Views.{method_of}
use Rattle.rules.specs.Effect.{Assignment}
use Rattle.explain.specs.declared.grounds.Ground.{Ground}
use Rattle.explain.specs.declared.ranking.Bounds.{Bounds}
use Rattle.explain.specs.Explaining.{why_of}
use Rattle.explain.specs.Grounds.{lead_at, lead_in_row, level_in_row, rank_at, rank_in_row, why_by, why_from}
use Rattle.explain.specs.Leads.{IsLevel, IsMoreThanLimit, reason_lead, leads_below, limit_for}
use Rattle.explain.specs.Programs.{found_of}
use Rattle.explain.specs.Ranking.{AreCircling, AreRanked, AreStuck, first_from, first_ground, first_grounds, ground_with, is_stuck_at, may_rank, open_rank}

module _ (P : Program) (rel : ℕ → List PathData) (A : Assignment) (overs : ℕ → List ℕ) (bounds : Bounds) where
  abbrev first_of : ℕ → Method → Ground
  first_of m method = first_ground P rel A overs bounds m method

  abbrev from : ℕ → List Method → List Ground
  from m methods = first_from P rel A overs bounds m methods

  -- ---- each row is that of its method

  many : (methods : List Method) (m : ℕ) → length (from m methods) ≡ length methods
  many [] m = refl
  many (method ∷ methods) m = ap suc (many methods (m + 1))

  row_there : (methods : List Method) (m k j : ℕ) (method : Method) → j ≡ m + k → slice_get methods k ≡ Some method → slice_get (from m methods) k ≡ Some (first_of j method)
  row_there [] m k j method number is = absurd (none-some method is)
  row_there (first ∷ methods) m zero j method number is =
      let here : m ≡ j = omega (arith, number) in
      (λ i. Some (first_of (here i) (same_Some first method is i)))
  row_there (first ∷ methods) m (suc k) j method number is = row_there methods (m + 1) k j method (omega (arith, number)) is

  row_of : (methods : List Method) (m k : ℕ) (row : Ground) → slice_get (from m methods) k ≡ Some row → (method : Method) × (slice_get methods k ≡ Some method) × (row ≡ first_of (m + k) method)
  row_of [] m k row is = absurd (none-some row is)
  row_of (method ∷ methods) m zero row is =
      let here : m ≡ m + 0 = omega arith in
      (method, refl, sym (same_Some (first_of m method) row is) ∙ ap (λ n. first_of n method) here)
  row_of (method ∷ methods) m (suc k) row is =
      let h = row_of methods (m + 1) k row is in
      let here : (m + 1) + k ≡ m + suc k = omega arith in
      (h.0, h.1, h.2 ∙ ap (λ n. first_of n h.0) here)

  -- ---- what a row is

  -- it has rank 0 and leads nowhere, or has no rank; and it has no level
  record IsFirst (row : Ground) : Type 0 where
    either : ((row.rank ≡ 0) × (row.lead ≡ None)) ⊎ (row.rank ≡ open_rank)
    plain : row.level ≡ None

  first_is : (m : ℕ) (method : Method) → IsFirst (first_of m method)
  first_is m method = by (below_of (found_of A m method) (limit_for bounds P A m method))
    where
      by : (t : Bool) → IsFirst (if t then ground_with 0 None None else ground_with open_rank None (reason_lead P rel (why_of P rel A (overs m) m method (limit_for bounds P A m method))))
      by true = record { either = inl (refl, refl); plain = refl }
      by false = record { either = inr refl; plain = refl }

  row_is : (k : ℕ) (o : Option Ground) → slice_get (from 0 P.methods) k ≡ o → (((rank_in_row o ≡ 0) × (lead_in_row o ≡ None)) ⊎ (rank_in_row o ≡ open_rank)) × (level_in_row o ≡ None)
  row_is k None is = (inl (refl, refl), refl)
  row_is k (Some row) is =
      let h = row_of P.methods 0 k row is in
      let f = subst IsFirst (sym h.2) (first_is (0 + k) h.0) in
      (f.either, f.plain)

  -- one that has no rank is that of a method that is more than it may be
  open_above : (m : ℕ) (method : Method) → (first_of m method).rank ≡ open_rank → below_of (found_of A m method) (limit_for bounds P A m method) ≡ false
  open_above m method late = by (below_of (found_of A m method) (limit_for bounds P A m method)) late
    where
      by : (t : Bool) → (if t then ground_with 0 None None else ground_with open_rank None (reason_lead P rel (why_of P rel A (overs m) m method (limit_for bounds P A m method)))).rank ≡ open_rank → t ≡ false
      by true is = absurd (omega (arith, is))
      by false is = refl

  open_more : (k : ℕ) (o : Option Ground) → slice_get (from 0 P.methods) k ≡ o → rank_in_row o ≡ open_rank → (method : Method) × IsMoreThanLimit bounds P A k method
  open_more k None is late = absurd (omega (arith, late))
  open_more k (Some row) is late =
      let h = row_of P.methods 0 k row is in
      let here : 0 + k ≡ k = omega arith in
      (h.0, record { there = h.1; above = open_above k h.0 (sym (ap (λ (g : Ground). g.rank) (h.2 ∙ ap (λ n. first_of n h.0) here)) ∙ late) })

  lead_is : (k : ℕ) (method : Method) → IsMoreThanLimit bounds P A k method → lead_at (from 0 P.methods) k ≡ reason_lead P rel (why_of P rel A (overs k) k method (limit_for bounds P A k method))
  lead_is k method more =
      ap lead_in_row (row_there P.methods 0 k k method (omega arith) more.there)
      ∙ ap (λ (t : Bool). lead_in_row (Some (if t then ground_with 0 None None else ground_with open_rank None (reason_lead P rel (why_of P rel A (overs k) k method (limit_for bounds P A k method)))))) more.above

  pub first_ranked : AreRanked bounds P rel A overs (first_grounds P rel A overs bounds) 1
  first_ranked = record {
    each = many P.methods 0;
    early = λ k. elim ((row_is k (slice_get (from 0 P.methods) k) refl).0) as (λ _. (rank_at (from 0 P.methods) k < 1) ⊎ (rank_at (from 0 P.methods) k ≡ open_rank)) [
      | inl zeros ↦ inl (let e = zeros.0 in omega (arith, e))
      | inr late ↦ inr late
    ];
    leads = λ k method more. lead_is k method more ∙ ap (reason_lead P rel)
        (ap (λ l. why_from P rel A overs (from 0 P.methods) l (rank_at (from 0 P.methods) k) k method (limit_for bounds P A k method)) (sym (row_is k (slice_get (from 0 P.methods) k) refl).1));
    levels = λ k method more. subst (λ l. IsLevel l (why_by P rel A overs (from 0 P.methods) k method (limit_for bounds P A k method))) (sym (row_is k (slice_get (from 0 P.methods) k) refl).1) tt;
    falls = λ k ranked. elim ((row_is k (slice_get (from 0 P.methods) k) refl).0) as (λ _. leads_below (from 0 P.methods) (rank_at (from 0 P.methods) k) (lead_at (from 0 P.methods) k) ≡ true) [
      | inl zeros ↦ ap (leads_below (from 0 P.methods) (rank_at (from 0 P.methods) k)) zeros.1
      | inr late ↦ absurd (ranked late)
    ];
    plain = λ k late. (row_is k (slice_get (from 0 P.methods) k) refl).1;
    more = λ k late. open_more k (slice_get (from 0 P.methods) k) refl late;
    circles = λ k level has. absurd (none-some level (sym (row_is k (slice_get (from 0 P.methods) k) refl).1 ∙ has));
  }

  -- the rows so far and those of the rest, after one method more, and at the end
  pub one_more_row : (methods : List CoreMethod) (i : ℕ) (method : CoreMethod) (all all1 every : List Ground) (row : Ground) → i < length methods → method ≡ get_or methods i method → row ≡ first_of i (method_of method)
      → all1 ≡ all ++ row ∷ [] → all ++ from i (map method_of (drop i methods)) ≡ every → all1 ++ from (i + 1) (map method_of (drop (i + 1) methods)) ≡ every
  one_more_row methods i method all all1 every row below is row_is adds before =
      let rest = from (i + 1) (map method_of (drop (i + 1) methods)) in
      ap (λ l. l ++ rest) adds ∙ append_assoc all (row ∷ []) rest ∙ ap (λ r. all ++ (r ∷ rest)) row_is
      ∙ ap (λ l. all ++ from i (map method_of l)) (sym (next_drop methods i method below is)) ∙ before

  pub all_rows : (methods : List CoreMethod) (i : ℕ) (all : List Ground) → length methods ≤ i → map method_of methods ≡ P.methods
      → all ++ from i (map method_of (drop i methods)) ≡ from 0 (map method_of methods) → all ≡ first_grounds P rel A overs bounds
  all_rows methods i all past are so_far =
      sym (append-nil all) ∙ ap (λ ms. all ++ from i (map method_of ms)) (sym (drop_of_length-le methods past)) ∙ so_far ∙ ap (from 0) are

-- ---- a round

-- the method that a loop over methods is at
pub item_there : (methods : List CoreMethod) (i : ℕ) (method : CoreMethod) (all : List Method) → i < length methods → method ≡ get_or methods i method → map method_of methods ≡ all
    → slice_get all i ≡ Some (method_of method)
item_there methods i method all below is are = ap (λ ms. slice_get ms i) (sym are) ∙ here methods i below is
  where
    here : (ms : List CoreMethod) (k : ℕ) → k < length ms → method ≡ get_or ms k method → slice_get (map method_of ms) k ≡ Some (method_of method)
    here [] k low same = absurd (omega (arith, low))
    here (x ∷ xs) zero low same = ap (λ y. Some (method_of y)) (sym same)
    here (x ∷ xs) (suc k) low same = here xs k (omega (arith, low)) same

-- the methods before a place were asked: ranks are given as before, and where none was given, none of these methods can have this one
pub record Asked (P : Program) (rel : ℕ → List PathData) (A : Assignment) (overs : ℕ → List ℕ) (level : Basic) (round : ℕ) (at : ℕ) (any : Bool) (old now : List Ground) : Type 0 where
  pub many : length now ≡ length old
  pub ranked : (bounds : Bounds) → AreCircling bounds P rel A overs old (round + 1) → AreCircling bounds P rel A overs now (round + 1)
  pub same : any ≡ false → now ≡ old
  pub stuck : any ≡ false → (m : ℕ) (method : Method) → slice_get P.methods m ≡ Some method → m < at → is_stuck_at P rel A overs old level round m method ≡ true

module _ (P : Program) (rel : ℕ → List PathData) (A : Assignment) (overs : ℕ → List ℕ) (level : Basic) (round : ℕ) where
  pub asked_none : (old : List Ground) → Asked P rel A overs level round 0 false old old
  asked_none old = record {
    many = refl;
    ranked = λ bounds r. r;
    same = λ e. refl;
    stuck = λ e m method is low. absurd (omega (arith, low));
  }

  pub asked_more : (at : ℕ) (method : Method) (any one any1 : Bool) (old now now1 : List Ground) → slice_get P.methods at ≡ Some method → Asked P rel A overs level round at any old now → any1 ≡ (any || one) → length now1 ≡ length now
      → ((bounds : Bounds) → slice_get P.methods at ≡ Some method → AreCircling bounds P rel A overs now (round + 1) → AreCircling bounds P rel A overs now1 (round + 1)) → (one ≡ false → now1 ≡ now)
      → (one ≡ false → is_stuck_at P rel A overs now level round at method ≡ true) → Asked P rel A overs level round (at + 1) any1 old now1
  asked_more at method any one any1 old now now1 there asked any_is many ranked same stuck = record {
    many = many ∙ asked.many;
    ranked = λ bounds r. ranked bounds there (asked.ranked bounds r);
    same = λ none. let parts = or_parts any one (sym any_is ∙ none) in same parts.1 ∙ asked.same parts.0;
    stuck = λ none m other is low.
        let parts = or_parts any one (sym any_is ∙ none) in
        let up_to : m ≤ at = omega (arith, low) in
        elim (eq-or-lt_of_le up_to) as (λ _. is_stuck_at P rel A overs old level round m other ≡ true) [
          | inl here ↦
              let its : method ≡ other = same_Some method other (sym there ∙ ap (slice_get P.methods) (sym here) ∙ is) in
              subst (λ g. is_stuck_at P rel A overs g level round m other ≡ true) (asked.same parts.0)
              (subst (λ k. is_stuck_at P rel A overs now level round k other ≡ true) (sym here) (ap (is_stuck_at P rel A overs now level round at) (sym its) ∙ stuck parts.1))
          | inr before ↦ asked.stuck parts.0 m other is before
        ];
  }

  pub asked_all : (at : ℕ) (any : Bool) (old now : List Ground) → length P.methods ≤ at → Asked P rel A overs level round at any old now → any ≡ false → AreStuck P rel A overs now level round
  asked_all at any old now past asked none m method is =
      let low = slice_get_within P.methods m method is in
      subst (λ g. is_stuck_at P rel A overs g level round m method ≡ true) (sym (asked.same none)) (asked.stuck none m method is (omega (arith, low, past)))

-- ---- a pass over rows

-- the rows before a place were asked: ranks are given as before, and where none was given, the rows are as they were and none of these may have it
pub record Passed (round : ℕ) (at : ℕ) (any : Bool) (old now : List Ground) : Type 0 where
  pub many : length now ≡ length old
  pub ranked : (bounds : Bounds) (P : Program) (rel : ℕ → List PathData) (A : Assignment) (overs : ℕ → List ℕ) → AreRanked bounds P rel A overs old (round + 1) → AreRanked bounds P rel A overs now (round + 1)
  pub same : any ≡ false → now ≡ old
  pub stuck : any ≡ false → (place : ℕ) → place < at → may_rank old round (slice_get old place) ≡ false

pub passed_none : (round : ℕ) (old : List Ground) → Passed round 0 false old old
passed_none round old = record { many = refl; ranked = λ bounds P rel A overs r. r; same = λ e. refl; stuck = λ e place low. absurd (omega (arith, low)) }

pub passed_more : (round at : ℕ) (any one any1 : Bool) (old now now1 : List Ground) → Passed round at any old now → any1 ≡ (any || one) → length now1 ≡ length now
    → ((bounds : Bounds) (P : Program) (rel : ℕ → List PathData) (A : Assignment) (overs : ℕ → List ℕ) → AreRanked bounds P rel A overs now (round + 1) → AreRanked bounds P rel A overs now1 (round + 1))
    → (one ≡ false → now1 ≡ now) → (one ≡ false → may_rank now round (slice_get now at) ≡ false) → Passed round (at + 1) any1 old now1
passed_more round at any one any1 old now now1 passed any_is many ranked same stuck = record {
  many = many ∙ passed.many;
  ranked = λ bounds P rel A overs r. ranked bounds P rel A overs (passed.ranked bounds P rel A overs r);
  same = λ none. let parts = or_parts any one (sym any_is ∙ none) in same parts.1 ∙ passed.same parts.0;
  stuck = λ none place low.
      let parts = or_parts any one (sym any_is ∙ none) in
      let up_to : place ≤ at = omega (arith, low) in
      elim (eq-or-lt_of_le up_to) as (λ _. may_rank old round (slice_get old place) ≡ false) [
        | inl here ↦ subst (λ k. may_rank old round (slice_get old k) ≡ false) (sym here) (subst (λ g. may_rank g round (slice_get g at) ≡ false) (passed.same parts.0) (stuck parts.1))
        | inr before ↦ passed.stuck parts.0 place before
      ];
}

-- at the end all were asked
pub passed_all : (round at : ℕ) (any : Bool) (old now : List Ground) → length old ≤ at → Passed round at any old now → any ≡ false
    → (place : ℕ) → place < length old → may_rank old round (slice_get old place) ≡ false
passed_all round at any old now past passed none place low = passed.stuck none place (omega (arith, low, past))
