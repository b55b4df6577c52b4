-- A method is given a rank.
use Rattle.std.proofs.Common.{◌≡◌, ◌≢◌, ◌⊎◌, ℕ, zero, suc, ◌+◌, ◌<◌, ◌≤◌, ◌==◌, Bool, true, false, ◌&&◌, List, [], ◌∷◌, Option, Some, None, length, slice_get, slice_set, refl, sym, ap, subst, ◌∙◌, if◌then◌else◌, arith, inl, inr}
use Rattle.std.specs.Prelude.{nat_le, nat_lt}
use Rattle.std.proofs.lemmas.Bool.{and_parts, eq-eqb, eqb-true, eqb-false, le-leb, ltb-false, ltb-true, false≢true}
use Rattle.std.proofs.lemmas.Option.{same_Some, none-some, slice_get_within}
use Rattle.base.proofs.Lists.{set_here, set_other}
use Rattle.paths.specs.Paths.{PathData}
use Rattle.algebra.specs.declared.basic.Basic.{Basic}
use Rattle.algebra.specs.declared.basic.Basic.TheVariants.{Atomic}
use Rattle.core_program.specs.Core.{Program, Method}
use Rattle.rules.specs.Effect.{Assignment}
use Rattle.rules.specs.Rules.{AtMost}
use Rattle.explain.specs.declared.grounds.Ground.{Ground}
use Rattle.explain.specs.declared.ranking.Bounds.{Bounds}
use Rattle.explain.specs.Explaining.{why_of}
use Rattle.explain.specs.Grounds.{lead_at, lead_in_row, level_at, level_in_row, lowered, lowered_if, rank_at, rank_in_row, why_by, why_from}
use Rattle.explain.specs.Leads.{IsLevel, IsMoreThanLimit, LeadsAmong, RunsInCircle, is_grounded_by, is_reason, reason_lead, leads_below, limit_for}
use Rattle.explain.specs.Ranking.{AreCircling, AreRanked, ground_by, ground_with, known_reason, may_rank, open_rank}
use Rattle.explain.specs.Whys.{WhyData}

length_set : {X : Type 0} (xs : List X) (m : ℕ) (x : X) → length (slice_set xs m x) ≡ length xs
length_set [] m x = refl
length_set (y ∷ ys) zero x = refl
length_set (y ∷ ys) (suc m) x = ap suc (length_set ys m x)

-- a number is this one, or it isn't
which : (k m : ℕ) → (k ≡ m) ⊎ (k ≢ m)
which k m = by (k == m) refl
  where
    by : (t : Bool) → (k == m) ≡ t → (k ≡ m) ⊎ (k ≢ m)
    by true is = inl (eqb-true k m is)
    by false is = inr (eqb-false k m is)

-- ---- what is known before a rank, where the ranks of methods with that rank or a greater one change among these

module _ (P : Program) (rel : ℕ → List PathData) (A : Assignment) (overs : ℕ → List ℕ) where
  same_lowered : (old new : List Ground) (from : ℕ) (level : Basic) → ((k : ℕ) → nat_le from (rank_at new k) ≡ nat_le from (rank_at old k)) → lowered A new from level ≡ lowered A old from level
  same_lowered old new from level same = λ i. λ k H. lowered_if (same k i) level (A k H)

  pub same_why : (old new : List Ground) (from : ℕ) → ((k : ℕ) → nat_le from (rank_at new k) ≡ nat_le from (rank_at old k)) → (level : Option Basic) (m : ℕ) (method : Method) (limit : Basic)
      → why_from P rel A overs new level from m method limit ≡ why_from P rel A overs old level from m method limit
  same_why old new from same None m method limit = refl
  same_why old new from same (Some level) m method limit = ap (λ B. why_of P rel B (overs m) m method level) (same_lowered old new from level same)

-- ---- one more method is given a rank

pub record IsRankedNext (bounds : Bounds) (P : Program) (rel : ℕ → List PathData) (A : Assignment) (overs : ℕ → List ℕ) (grounds : List Ground) (m : ℕ) (row : Ground) (round : ℕ) : Type 0 where
  pub inside : m < length grounds
  pub low : round < open_rank
  pub was : rank_at grounds m ≡ open_rank
  pub rank : row.rank ≡ round
  pub falls : leads_below grounds round row.lead ≡ true
  pub lead : (method : Method) → IsMoreThanLimit bounds P A m method → row.lead ≡ reason_lead P rel (why_from P rel A overs grounds row.level round m method (limit_for bounds P A m method))
  pub level : (method : Method) → IsMoreThanLimit bounds P A m method → IsLevel row.level (why_from P rel A overs grounds row.level round m method (limit_for bounds P A m method))
  pub circle : (level : Basic) → row.level ≡ Some level → RunsInCircle bounds P rel A overs m

module _ (bounds : Bounds) (P : Program) (rel : ℕ → List PathData) (A : Assignment) (overs : ℕ → List ℕ) (grounds : List Ground) (m : ℕ) (row : Ground) (round : ℕ)
    (next : IsRankedNext bounds P rel A overs grounds m row round) (ranked : AreRanked bounds P rel A overs grounds (round + 1)) where
  abbrev now : List Ground
  now = slice_set grounds m row

  here : slice_get now m ≡ Some row
  here = set_here grounds m row next.inside

  there : (k : ℕ) → k ≢ m → slice_get now k ≡ slice_get grounds k
  there k other = set_other grounds m k row other

  rank_here : rank_at now m ≡ round
  rank_here = ap rank_in_row here ∙ next.rank

  level_here : level_at now m ≡ row.level
  level_here = ap level_in_row here

  lead_here : lead_at now m ≡ row.lead
  lead_here = ap lead_in_row here

  -- who has this rank or a greater one has it still
  same_late : (from : ℕ) → from ≤ round → (k : ℕ) → nat_le from (rank_at now k) ≡ nat_le from (rank_at grounds k)
  same_late from low k = elim (which k m) as (λ _. nat_le from (rank_at now k) ≡ nat_le from (rank_at grounds k)) [
    | inl is ↦
        let first : nat_le from round ≡ true = le-leb from round low in
        let h = next.low in
        let second : nat_le from open_rank ≡ true = le-leb from open_rank (omega (arith, low, h)) in
        subst (λ j. nat_le from (rank_at now j) ≡ nat_le from (rank_at grounds j)) (sym is) (ap (nat_le from) rank_here ∙ first ∙ sym second ∙ ap (nat_le from) (sym next.was))
    | inr other ↦ ap (λ o. nat_le from (rank_in_row o)) (there k other)
  ]

  -- who leads below a rank does so still
  still_below : (rank : ℕ) → rank ≤ open_rank → (lead : Option ℕ) → leads_below grounds rank lead ≡ true → leads_below now rank lead ≡ true
  still_below rank low None is = refl
  still_below rank low (Some k) is = elim (which k m) as (λ _. nat_lt (rank_at now k) rank ≡ true) [
    | inl same ↦
        let below : rank_at grounds k < rank = ltb-true (rank_at grounds k) rank is in
        let open_there : rank_at grounds k ≡ open_rank = ap (rank_at grounds) same ∙ next.was in
        absurd (omega (arith, below, open_there, low))
    | inr other ↦ ap (λ o. nat_lt (rank_in_row o) rank) (there k other) ∙ is
  ]

  -- who has no rank had none
  open_before : (k : ℕ) → rank_at now k ≡ open_rank → rank_at grounds k ≡ open_rank
  open_before k late = elim (which k m) as (λ _. rank_at grounds k ≡ open_rank) [
    | inl is ↦ ap (rank_at grounds) is ∙ next.was
    | inr other ↦ sym (ap rank_in_row (there k other)) ∙ late
  ]

  -- the reason of the method, and those of all others
  why_here : (method : Method) (limit : Basic) → why_by P rel A overs now m method limit ≡ why_from P rel A overs grounds row.level round m method limit
  why_here method limit =
      (λ i. why_from P rel A overs now (level_here i) (rank_here i) m method limit)
      ∙ same_why P rel A overs grounds now round (same_late round (omega arith)) row.level m method limit

  why_there : (k : ℕ) → k ≢ m → (method : Method) (limit : Basic) → why_by P rel A overs now k method limit ≡ why_by P rel A overs grounds k method limit
  why_there k other method limit =
      (λ i. why_from P rel A overs now (ap level_in_row (there k other) i) (ap rank_in_row (there k other) i) k method limit)
      ∙ elim (ranked.early k) as (λ _. why_from P rel A overs now (level_at grounds k) (rank_at grounds k) k method limit ≡ why_by P rel A overs grounds k method limit) [
        | inl early ↦ same_why P rel A overs grounds now (rank_at grounds k) (same_late (rank_at grounds k) (omega (arith, early))) (level_at grounds k) k method limit
        | inr late ↦
            let plain = ranked.plain k late in
            ap (λ l. why_from P rel A overs now l (rank_at grounds k) k method limit) plain ∙ ap (λ l. why_from P rel A overs grounds l (rank_at grounds k) k method limit) (sym plain)
      ]

  pub ranked_next : AreRanked bounds P rel A overs now (round + 1)
  ranked_next = record {
    each = length_set grounds m row ∙ ranked.each;
    early = λ k. elim (which k m) as (λ _. (rank_at now k < round + 1) ⊎ (rank_at now k ≡ open_rank)) [
      | inl is ↦ inl (let e : rank_at now k ≡ round = ap (rank_at now) is ∙ rank_here in omega (arith, e))
      | inr other ↦ subst (λ o. (rank_in_row o < round + 1) ⊎ (rank_in_row o ≡ open_rank)) (sym (there k other)) (ranked.early k)
    ];
    leads = λ k method more. elim (which k m) as (λ _. lead_at now k ≡ reason_lead P rel (why_by P rel A overs now k method (limit_for bounds P A k method))) [
      | inl is ↦ subst (λ j. IsMoreThanLimit bounds P A j method → lead_at now j ≡ reason_lead P rel (why_by P rel A overs now j method (limit_for bounds P A j method))) (sym is)
          (λ its. lead_here ∙ next.lead method its ∙ ap (reason_lead P rel) (sym (why_here method (limit_for bounds P A m method)))) more
      | inr other ↦ ap lead_in_row (there k other) ∙ ranked.leads k method more ∙ ap (reason_lead P rel) (sym (why_there k other method (limit_for bounds P A k method)))
    ];
    levels = λ k method more. elim (which k m) as (λ _. IsLevel (level_at now k) (why_by P rel A overs now k method (limit_for bounds P A k method))) [
      | inl is ↦ subst (λ j. IsMoreThanLimit bounds P A j method → IsLevel (level_at now j) (why_by P rel A overs now j method (limit_for bounds P A j method))) (sym is)
          (λ its. subst (λ w. IsLevel (level_at now m) w) (sym (why_here method (limit_for bounds P A m method)))
          (subst (λ l. IsLevel l (why_from P rel A overs grounds row.level round m method (limit_for bounds P A m method))) (sym level_here) (next.level method its))) more
      | inr other ↦ subst (λ w. IsLevel (level_at now k) w) (sym (why_there k other method (limit_for bounds P A k method)))
          (subst (λ l. IsLevel l (why_by P rel A overs grounds k method (limit_for bounds P A k method))) (sym (ap level_in_row (there k other))) (ranked.levels k method more))
    ];
    falls = λ k ranked_there. elim (which k m) as (λ _. leads_below now (rank_at now k) (lead_at now k) ≡ true) [
      | inl is ↦
          let h = next.low in
          let so : leads_below now round row.lead ≡ true = still_below round (omega (arith, h)) row.lead next.falls in
          subst (λ j. leads_below now (rank_at now j) (lead_at now j) ≡ true) (sym is) ((λ i. leads_below now (rank_here i) (lead_here i)) ∙ so)
      | inr other ↦
          let open_there : rank_at grounds k ≡ open_rank → ⊥ = λ e. ranked_there (ap rank_in_row (there k other) ∙ e) in
          let low : rank_at grounds k ≤ open_rank = elim (ranked.early k) as (λ _. rank_at grounds k ≤ open_rank) [
            | inl early ↦ (let h = next.low in omega (arith, early, h))
            | inr late ↦ absurd (open_there late)
          ] in
          (λ i. leads_below now (ap rank_in_row (there k other) i) (ap lead_in_row (there k other) i)) ∙ still_below (rank_at grounds k) low (lead_at grounds k) (ranked.falls k open_there)
    ];
    plain = λ k late. elim (which k m) as (λ _. level_at now k ≡ None) [
      | inl is ↦
          let h = next.low in
          let e : rank_at now k ≡ round = ap (rank_at now) is ∙ rank_here in
          absurd (omega (arith, e, late, h))
      | inr other ↦ ap level_in_row (there k other) ∙ ranked.plain k (sym (ap rank_in_row (there k other)) ∙ late)
    ];
    more = λ k late. ranked.more k (open_before k late);
    circles = λ k level has. elim (which k m) as (λ _. RunsInCircle bounds P rel A overs k) [
      | inl is ↦ subst (λ j. RunsInCircle bounds P rel A overs j) (sym is) (next.circle level (sym level_here ∙ ap (level_at now) (sym is) ∙ has))
      | inr other ↦ ranked.circles k level (sym (ap level_in_row (there k other)) ∙ has)
    ];
  }

  pub circling_next : ((k : ℕ) → rank_at grounds k ≡ open_rank → RunsInCircle bounds P rel A overs k) → AreCircling bounds P rel A overs now (round + 1)
  circling_next open_ones = record { ranked = ranked_next; open_ones = λ k late. open_ones k (open_before k late) }

-- the ranks that are smaller than one are smaller than the next
pub more_rounds : (bounds : Bounds) (P : Program) (rel : ℕ → List PathData) (A : Assignment) (overs : ℕ → List ℕ) (grounds : List Ground) (round : ℕ)
    → AreRanked bounds P rel A overs grounds round → AreRanked bounds P rel A overs grounds (round + 1)
more_rounds bounds P rel A overs grounds round ranked = record {
  each = ranked.each;
  early = λ k. elim (ranked.early k) as (λ _. (rank_at grounds k < round + 1) ⊎ (rank_at grounds k ≡ open_rank)) [
    | inl early ↦ inl (omega (arith, early))
    | inr late ↦ inr late
  ];
  leads = ranked.leads;
  levels = ranked.levels;
  falls = ranked.falls;
  plain = ranked.plain;
  more = ranked.more;
  circles = ranked.circles;
}

-- those that run into circles do so in the next round
pub more_circling : (bounds : Bounds) (P : Program) (rel : ℕ → List PathData) (A : Assignment) (overs : ℕ → List ℕ) (grounds : List Ground) (round : ℕ)
    → AreCircling bounds P rel A overs grounds round → AreCircling bounds P rel A overs grounds (round + 1)
more_circling bounds P rel A overs grounds round circling = record {
  ranked = more_rounds bounds P rel A overs grounds round circling.ranked;
  open_ones = circling.open_ones;
}

-- where no method can be ranked as it is, each that has no rank leads to one that has none
open_circle : (bounds : Bounds) (P : Program) (rel : ℕ → List PathData) (A : Assignment) (overs : ℕ → List ℕ) (grounds : List Ground) (round : ℕ) → AreRanked bounds P rel A overs grounds round
    → ((m : ℕ) → m < length grounds → may_rank grounds round (slice_get grounds m) ≡ false) → (m : ℕ) → rank_at grounds m ≡ open_rank → RunsInCircle bounds P rel A overs m
open_circle bounds P rel A overs grounds round ranked stuck m late = record {
  among = λ k. rank_at grounds k == open_rank;
  here = eq-eqb (rank_at grounds m) open_rank late;
  each = λ k is. led_on k (eqb-true (rank_at grounds k) open_rank is);
}
  where
    past_open : (k : ℕ) → nat_lt (rank_at grounds k) round ≡ false → rank_at grounds k ≡ open_rank
    past_open k past = elim (ranked.early k) as (λ _. rank_at grounds k ≡ open_rank) [
      | inl early ↦ (let h = ltb-false (rank_at grounds k) round past in absurd (omega (arith, early, h)))
      | inr is ↦ is
    ]

    by : (k : ℕ) (its : (method : Method) × IsMoreThanLimit bounds P A k method) (lead : Option ℕ) → lead ≡ reason_lead P rel (why_of P rel A (overs k) k its.0 (limit_for bounds P A k its.0))
        → leads_below grounds round lead ≡ false → LeadsAmong bounds P rel A overs (λ j. rank_at grounds j == open_rank) k
    by k its None is above = absurd (false≢true (sym above))
    by k its (Some next) is above = record { method = its.0; more = its.1; next = next; leads = sym is; inside = eq-eqb (rank_at grounds next) open_rank (past_open next above) }

    not_below : (o : Option Ground) → rank_in_row o ≡ open_rank → may_rank grounds round o ≡ false → leads_below grounds round (lead_in_row o) ≡ false
    not_below None is stuck_here = absurd (omega (arith, is))
    not_below (Some row) is stuck_here = ap (λ t. t && leads_below grounds round row.lead) (sym (eq-eqb row.rank open_rank is)) ∙ stuck_here

    inside : (k : ℕ) (o : Option Ground) → slice_get grounds k ≡ o → rank_in_row o ≡ open_rank → k < length grounds
    inside k None at is = absurd (omega (arith, is))
    inside k (Some row) at is = slice_get_within grounds k row at

    led_on : (k : ℕ) → rank_at grounds k ≡ open_rank → LeadsAmong bounds P rel A overs (λ j. rank_at grounds j == open_rank) k
    led_on k is =
        let its = ranked.more k is in
        by k its (lead_at grounds k)
        (ranked.leads k its.0 its.1 ∙ ap (λ l. reason_lead P rel (why_from P rel A overs grounds l (rank_at grounds k) k its.0 (limit_for bounds P A k its.0))) (ranked.plain k is))
        (not_below (slice_get grounds k) is (stuck k (inside k (slice_get grounds k) refl is)))

pub are_circling : (bounds : Bounds) (P : Program) (rel : ℕ → List PathData) (A : Assignment) (overs : ℕ → List ℕ) (old new : List Ground) (round : ℕ) → new ≡ old → AreRanked bounds P rel A overs old round
    → ((m : ℕ) → m < length old → may_rank old round (slice_get old m) ≡ false) → AreCircling bounds P rel A overs new round
are_circling bounds P rel A overs old new round same ranked stuck =
    subst (λ grounds. AreCircling bounds P rel A overs grounds round) (sym same)
    (record { ranked = ranked; open_ones = open_circle bounds P rel A overs old round ranked stuck })

-- ---- two ways to give it

-- a method whose explanation, as it is, leads nowhere or below the rank
led_is_next : (bounds : Bounds) (P : Program) (rel : ℕ → List PathData) (A : Assignment) (overs : ℕ → List ℕ) (grounds : List Ground) (m : ℕ) (was row : Ground) (round : ℕ) → slice_get grounds m ≡ Some was
    → was.rank ≡ open_rank → leads_below grounds round was.lead ≡ true → round < open_rank → row ≡ ground_with round was.level was.lead
    → AreRanked bounds P rel A overs grounds (round + 1) → IsRankedNext bounds P rel A overs grounds m row round
led_is_next bounds P rel A overs grounds m was row round is late falls low row_is ranked =
    let rank_there : rank_at grounds m ≡ open_rank = ap rank_in_row is ∙ late in
    let plain : was.level ≡ None = sym (ap level_in_row is) ∙ ranked.plain m rank_there in
    let level_is : row.level ≡ None = ap (λ (g : Ground). g.level) row_is ∙ plain in
    let lead_is : row.lead ≡ lead_at grounds m = ap (λ (g : Ground). g.lead) row_is ∙ sym (ap lead_in_row is) in
    record {
      inside = slice_get_within grounds m was is;
      low = low;
      was = rank_there;
      rank = ap (λ (g : Ground). g.rank) row_is;
      falls = ap (λ (g : Ground). leads_below grounds round g.lead) row_is ∙ falls;
      lead = λ method more. lead_is ∙ ranked.leads m method more ∙ ap (reason_lead P rel)
          (ap (λ l. why_from P rel A overs grounds l (rank_at grounds m) m method (limit_for bounds P A m method)) (ap level_in_row is ∙ plain)
          ∙ ap (λ l. why_from P rel A overs grounds l round m method (limit_for bounds P A m method)) (sym level_is));
      level = λ method more. subst (λ l. IsLevel l (why_from P rel A overs grounds l round m method (limit_for bounds P A m method))) (sym level_is) tt;
      circle = λ level has. absurd (none-some level (sym level_is ∙ has));
    }

-- a method with a reason by what is known before the rank
pub known_next : (bounds : Bounds) (P : Program) (rel : ℕ → List PathData) (A : Assignment) (overs : ℕ → List ℕ) (grounds : List Ground) (m : ℕ) (method : Method) (row : Ground) (level : Basic) (round : ℕ) → m < length grounds
    → rank_at grounds m ≡ open_rank → round < open_rank → AtMost Atomic level → ground_by P rel A overs grounds level round m method ≡ Some row → slice_get P.methods m ≡ Some method
    → AreCircling bounds P rel A overs grounds (round + 1) → AreCircling bounds P rel A overs (slice_set grounds m row) (round + 1)
known_next bounds P rel A overs grounds m method row level round inside late low atomic found there circling =
    by (is_grounded_by P rel grounds round why) refl found
  where
    why : WhyData
    why = known_reason P rel A overs grounds level round m method

    by : (t : Bool) → is_grounded_by P rel grounds round why ≡ t → (if t then Some (ground_with round (Some level) (reason_lead P rel why)) else None) ≡ Some row
        → AreCircling bounds P rel A overs (slice_set grounds m row) (round + 1)
    by false test is = absurd (none-some row is)
    by true test is =
        let made : Ground = ground_with round (Some level) (reason_lead P rel why) in
        let row_is : made ≡ row = same_Some made row is in
        let parts = and_parts (is_reason why) (leads_below grounds round (reason_lead P rel why)) test in
        subst (λ r. AreCircling bounds P rel A overs (slice_set grounds m r) (round + 1)) row_is
        (circling_next bounds P rel A overs grounds m made round
        (record {
          inside = inside;
          low = low;
          was = late;
          rank = refl;
          falls = parts.1;
          lead = λ other more. ap (λ x. reason_lead P rel (known_reason P rel A overs grounds level round m x)) (same_Some method other (sym there ∙ more.there));
          level = λ other more. (atomic, ap (λ x. is_reason (known_reason P rel A overs grounds level round m x)) (sym (same_Some method other (sym there ∙ more.there))) ∙ parts.0);
          circle = λ l has. circling.open_ones m late;
        }) circling.ranked circling.open_ones)

-- a row that may have the rank is there
pub may_be_there : (grounds : List Ground) (m : ℕ) (round : ℕ) → may_rank grounds round (slice_get grounds m) ≡ true → m < length grounds
may_be_there grounds m round may = by (slice_get grounds m) refl may
  where
    by : (o : Option Ground) → slice_get grounds m ≡ o → may_rank grounds round o ≡ true → m < length grounds
    by None at is = absurd (false≢true is)
    by (Some row) at is = slice_get_within grounds m row at

-- a row that may have the rank
module _ (bounds : Bounds) (P : Program) (rel : ℕ → List PathData) (A : Assignment) (overs : ℕ → List ℕ) (grounds : List Ground) (m : ℕ) (row : Ground) (round : ℕ) where
  row_is_next : (o : Option Ground) → slice_get grounds m ≡ o → may_rank grounds round o ≡ true → round < open_rank → ((was : Ground) → o ≡ Some was → row ≡ ground_with round was.level was.lead)
      → AreRanked bounds P rel A overs grounds (round + 1) → IsRankedNext bounds P rel A overs grounds m row round
  row_is_next None is may low row_is ranked = absurd (false≢true may)
  row_is_next (Some was) is may low row_is ranked =
      let parts = and_parts (was.rank == open_rank) (leads_below grounds round was.lead) may in
      led_is_next bounds P rel A overs grounds m was row round is (eqb-true was.rank open_rank parts.0) parts.1 low (row_is was refl) ranked

  pub led_row : may_rank grounds round (slice_get grounds m) ≡ true → round < open_rank → ((was : Ground) → slice_get grounds m ≡ Some was → row ≡ ground_with round was.level was.lead)
      → AreRanked bounds P rel A overs grounds (round + 1) → AreRanked bounds P rel A overs (slice_set grounds m row) (round + 1)
  led_row may low row_is ranked = ranked_next bounds P rel A overs grounds m row round (row_is_next (slice_get grounds m) refl may low row_is ranked) ranked

  -- the same where those that have no rank run into circles
  pub led_circling : may_rank grounds round (slice_get grounds m) ≡ true → round < open_rank → ((was : Ground) → slice_get grounds m ≡ Some was → row ≡ ground_with round was.level was.lead)
      → AreCircling bounds P rel A overs grounds (round + 1) → AreCircling bounds P rel A overs (slice_set grounds m row) (round + 1)
  led_circling may low row_is circling =
      circling_next bounds P rel A overs grounds m row round (row_is_next (slice_get grounds m) refl may low row_is circling.ranked) circling.ranked circling.open_ones

-- ---- ranks of methods of circles that are given one after the other

-- by what is known of a program
pub record KeepsCircling (P : Program) (rel : ℕ → List PathData) (A : Assignment) (overs : ℕ → List ℕ) (round : ℕ) (old now : List Ground) : Type 0 where
  pub many : length now ≡ length old
  pub circling : (bounds : Bounds) → AreCircling bounds P rel A overs old (round + 1) → AreCircling bounds P rel A overs now (round + 1)

-- as explanations are, of whatever program
pub record KeepsLed (round : ℕ) (old now : List Ground) : Type 0 where
  pub many : length now ≡ length old
  pub ranked : (bounds : Bounds) (P : Program) (rel : ℕ → List PathData) (A : Assignment) (overs : ℕ → List ℕ) → AreRanked bounds P rel A overs old (round + 1) → AreRanked bounds P rel A overs now (round + 1)
  pub circling : (bounds : Bounds) (P : Program) (rel : ℕ → List PathData) (A : Assignment) (overs : ℕ → List ℕ) → AreCircling bounds P rel A overs old (round + 1) → AreCircling bounds P rel A overs now (round + 1)
