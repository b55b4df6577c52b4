-- Tables whose demands are met make the least closed assignment.
use Rattle.std.proofs.Common.{◌≡◌, ◌↔◌, ℕ, zero, suc, ◌+◌, ◌-◌, ◌*◌, ◌^◌, ◌<◌, ◌≤◌, true, IsTrue, ◌&&◌, List, [], ◌∷◌, ◌++◌, length, filter, map, slice_get, Some, None, refl, sym, ap, subst, ◌∙◌, arith, ◌⊎◌, inl, inr}
use Rattle.std.specs.Prelude.{Option, Contains}
use Rattle.std.proofs.lemmas.List.Sums.{sum_by-cons}
use Rattle.std.proofs.lemmas.Nat.{pow_pos}
use Rattle.std.proofs.Math.Nat.{pow-succ'}
use Rattle.std.proofs.lemmas.Option.{slice_get_within}
use Rattle.std.proofs.lemmas.Bool.{and_from}
use Rattle.paths.specs.Paths.{PathData}
use Rattle.algebra.specs.declared.basic.Basic.{Basic}
use Rattle.algebra.specs.declared.basic.Basic.TheVariants.{Const, Mover, Atomic, Cmpd, Error}
use Rattle.algebra.specs.Basics.{rank_of, below_of}
use Rattle.algebra.specs.HeldPaths.{Held, has_path}
use Rattle.algebra.specs.Tables.{count_of_parts}
use Rattle.core_program.specs.Core.{Program, Method}
use Rattle.core_program.specs.Typed.{IsTyped}
use Rattle.fixpoint.specs.Assignments as fix
use Rattle.rules.specs.Near.{MethodPaths, AreRelevant, AreFew, rel_of}
use Rattle.rules.specs.Search.{row_at as overs_at}
use Rattle.rules.specs.Nearest.{AreNearest}
use Rattle.rules.specs.Effect.{Assignment, effect}
use Rattle.rules.specs.Rules.{IsSubset, AtMost, IsAntitone, AreBodiesBelow, IsClosed, held_in, HoldsBound, IsAdmissible, IsAccepted}
use Rattle.rules.proofs.BasicLemmas.{below_chain, both_below}
use Rattle.rules.proofs.SetLemmas.{first, second}
use Rattle.rules.proofs.UniqueSets.{unique_sets}
use Rattle.infer.specs.Tables.{chosen, table_or_empty, table_assignment}
use Rattle.infer.specs.Cells.{table_numbers, table_in, tables_in, all_const, inferred_effect, demands_of, demands_at, are_below, table_falls, is_met_by, is_met, room_of, rooms_of, AreTables}
use Rattle.infer.specs.Least.{IsLeast}
use Rattle.infer.specs.Verdicts.{HoldBounds}
use Rattle.infer.proofs.RunLemmas.{greatest_first, greatest_of_each, greatest_least, run_falls, run_rises}
use Rattle.infer.proofs.ChainLemmas.{follows}
use Rattle.infer.proofs.TableParts.{length_parts, chosen_parts, chosen_below, chosen_none, parts_below, in_first, in_second, in_either, in_filter, of_list, filter_has, bits_same, none_falls, parts_fall}
use Rattle.infer.proofs.CellLemmas.{tables_same, length_numbers, length_above, tables_fall, above_assigned, demand_is, le_test}
use Rattle.rules.proofs.Required.{required_in_rel}

const_least : (b : Basic) → AtMost Const b
const_least Const = refl
const_least Mover = refl
const_least Atomic = refl
const_least Cmpd = refl
const_least Error = refl

-- Closed.

-- the paths of the set with the required ones are all in the set
with_required : (requires_ rel : List PathData) (H : Held) → IsSubset (has_path requires_) H → IsSubset (has_path (requires_ ++ filter H rel)) H
with_required requires_ rel H has q e = elim (in_either requires_ (filter H rel) q e) as (λ _. H q ≡ true) [
  | inl before ↦ has q before
  | inr after ↦ in_filter H rel q after
]

module _ (P : Program) (overs : ℕ → List ℕ) (rel : ℕ → List PathData) (tables : List (List Basic)) (each_table : AreTables P rel tables) (met : (m : ℕ) → m < length tables → IsTrue (is_met P overs rel (table_numbers tables) m)) where
  met_tables : (m : ℕ) (method : Method) → slice_get P.methods m ≡ Some method → are_below (demands_of P overs rel (table_assignment rel tables) m (Some method)) (table_or_empty (slice_get tables m)) ≡ true
  met_tables m method is =
      let within = slice_get_within P.methods m method is in
      subst (λ o. are_below (demands_of P overs rel (table_assignment rel tables) m o) (table_or_empty (slice_get tables m)) ≡ true) is
      (second (table_falls (rel m) (table_or_empty (slice_get tables m))) (are_below (demands_at P overs rel (table_assignment rel tables) m) (table_or_empty (slice_get tables m)))
      (subst (λ ts. is_met_by P overs rel ts m ≡ true) (tables_same tables) (met m (omega (arith, within, each_table.count)))))

  table_size : (m : ℕ) → m < length tables → length (table_or_empty (slice_get tables m)) ≡ count_of_parts (rel m)
  table_size m within = size_at (slice_get tables m) refl
    where
      some_at : (ts : List (List Basic)) (k : ℕ) → k < length ts → slice_get ts k ≡ None → ⊥
      some_at [] k below e = absurd (omega arith)
      some_at (t ∷ ts) zero below e = absurd cc
      some_at (t ∷ ts) (suc k) below e = some_at ts k (omega arith) e

      size_at : (o : Option (List Basic)) → slice_get tables m ≡ o → length (table_or_empty o) ≡ count_of_parts (rel m)
      size_at None e = absurd (some_at tables m within e)
      size_at (Some table) e = each_table.size m table e

  -- what a call may come to is below the table, at every set that has the required paths
  run_below : (m : ℕ) (method : Method) → slice_get P.methods m ≡ Some method → (H : Held) → IsSubset (has_path method.requires_) H → AtMost (inferred_effect P rel (table_assignment rel tables) (overs m) method H) (table_assignment rel tables m H)
  run_below m method is H has =
      let within = slice_get_within P.methods m method is in
      let same = length_parts (λ held. inferred_effect P rel (table_assignment rel tables) (overs m) method (has_path held)) method.requires_ (rel m) ∙ sym (table_size m (omega (arith, within, each_table.count))) in
      let low = chosen_below (map H (rel m)) (demands_of P overs rel (table_assignment rel tables) m (Some method)) (table_or_empty (slice_get tables m)) same (met_tables m method is) in
      below_chain _ _ _
      (run_falls P rel (overs m) method (table_assignment rel tables) (tables_fall P rel tables each_table) (has_path (method.requires_ ++ filter H (rel m))) H (with_required method.requires_ (rel m) H has))
      (subst (λ b. AtMost b (table_assignment rel tables m H)) (demand_is P overs rel (table_assignment rel tables) m method H) low)

  -- the effect of each body is below the table
  met_bodies : AreBodiesBelow P rel (table_assignment rel tables)
  met_bodies m method is H part has = below_chain (effect P rel (table_assignment rel tables) method.body H) (inferred_effect P rel (table_assignment rel tables) (overs m) method H) (table_assignment rel tables m H)
      (greatest_first rel (table_assignment rel tables) (effect P rel (table_assignment rel tables) method.body H) (overs m) H) (run_below m method is H has)

  -- and what is assigned to each method of its row
  met_listed : (m over : ℕ) (method : Method) → slice_get P.methods m ≡ Some method → Contains (overs m) over → (H : Held) → IsSubset (has_path method.requires_) H
      → AtMost (table_assignment rel tables over (held_in (rel over) H)) (table_assignment rel tables m H)
  met_listed m over method is listed H has =
      below_chain (table_assignment rel tables over (held_in (rel over) H)) (inferred_effect P rel (table_assignment rel tables) (overs m) method H) (table_assignment rel tables m H)
      (greatest_of_each rel (table_assignment rel tables) (effect P rel (table_assignment rel tables) method.body H) (overs m) over H listed) (run_below m method is H has)

-- paths of both lists are in the set
append_in : (xs ys : List PathData) (K : Held) → IsSubset (has_path xs) K → IsSubset (has_path ys) K → IsSubset (has_path (xs ++ ys)) K
append_in xs ys K low high q e = elim (in_either xs ys q e) as (λ _. K q ≡ true) [
  | inl before ↦ low q before
  | inr after ↦ high q after
]

-- Any other closed assignment as numbers.

tables_in_at : (rel : ℕ → List PathData) (B : Assignment) (n count k : ℕ) → k < count → slice_get (tables_in rel B n count) k ≡ Some (table_in rel B (n + k))
tables_in_at rel B n zero k below = absurd (omega arith)
tables_in_at rel B n (suc count) zero below = let e : n ≡ n + 0 = omega arith in ap (λ i. Some (table_in rel B i)) e
tables_in_at rel B n (suc count) (suc k) below = let e : suc n + k ≡ n + suc k = omega arith in tables_in_at rel B (suc n) count k (omega arith) ∙ ap (λ i. Some (table_in rel B i)) e

table_or_none : (rel : ℕ → List PathData) (B : Assignment) (n count k : ℕ) → (slice_get (tables_in rel B n count) k ≡ Some (table_in rel B (n + k))) ⊎ (slice_get (tables_in rel B n count) k ≡ None)
table_or_none rel B n zero k = inr refl
table_or_none rel B n (suc count) zero = inl (tables_in_at rel B n (suc count) 0 (omega arith))
table_or_none rel B n (suc count) (suc k) = elim (table_or_none rel B (suc n) count k) as (λ _. (slice_get (tables_in rel B n (suc count)) (suc k) ≡ Some (table_in rel B (n + suc k))) ⊎ (slice_get (tables_in rel B n (suc count)) (suc k) ≡ None)) [
  | inl there ↦ inl (let e : suc n + k ≡ n + suc k = omega arith in there ∙ ap (λ i. Some (table_in rel B i)) e)
  | inr none ↦ inr none
]

ranks_above : (xs ys : List Basic) → length xs ≡ length ys → are_below xs ys ≡ true → fix.AreAtLeast (map rank_of ys) (map rank_of xs)
ranks_above [] [] e low = tt
ranks_above [] (y ∷ ys) e low = absurd (omega arith)
ranks_above (x ∷ xs) [] e low = absurd (omega arith)
ranks_above (x ∷ xs) (y ∷ ys) e low = (le_test x y (first (below_of x y) (are_below xs ys) low), ranks_above xs ys (omega arith) (second (below_of x y) (are_below xs ys) low))

-- any assignment lies above const everywhere
pub above_const : (rel : ℕ → List PathData) (B : Assignment) (n count : ℕ) → fix.IsAbove (table_numbers (tables_in rel B n count)) (table_numbers (tables_in rel all_const n count))
above_const rel B n zero = tt
above_const rel B n (suc count) = (
  ranks_above (table_in rel all_const n) (table_in rel B n)
      (length_parts (λ held. Const) [] (rel n) ∙ sym (length_parts (λ held. B n (has_path held)) [] (rel n)))
      (parts_below (λ held. Const) (λ held. B n (has_path held)) [] [] (rel n) (λ qs part. const_least (B n (has_path qs)))),
  above_const rel B (suc n) count,
)

-- The tables where it begins.

pub const_size : (rel : ℕ → List PathData) (n count m : ℕ) (table : List Basic) → slice_get (tables_in rel all_const n count) m ≡ Some table → length table ≡ count_of_parts (rel (n + m))
const_size rel n count m table is = elim (table_or_none rel all_const n count m) as (λ _. length table ≡ count_of_parts (rel (n + m))) [
  | inl there ↦ (let e : table ≡ table_in rel all_const (n + m) = (let f = sym is ∙ there in cc) in ap length e ∙ length_parts (λ held. Const) [] (rel (n + m)))
  | inr none ↦ absurd (let f = sym is ∙ none in cc)
]

const_falls : (rel : ℕ → List PathData) (count m : ℕ) (table : List Basic) → slice_get (tables_in rel all_const 0 count) m ≡ Some table → table_falls (rel m) table ≡ true
const_falls rel count m table is = elim (table_or_none rel all_const 0 count m) as (λ _. table_falls (rel m) table ≡ true) [
  | inl there ↦
      let e : 0 + m ≡ m = omega arith in
      let same : table_in rel all_const m ≡ table = (let f = sym (there ∙ ap (λ i. Some (table_in rel all_const i)) e) ∙ is in cc) in
      subst (λ t. table_falls (rel m) t ≡ true) same (parts_fall (λ held. Const) (λ q. true) (λ xs ys within part. refl) [] (rel m) (λ q e. refl))
  | inr none ↦ absurd (let f = sym is ∙ none in cc)
]

pub length_tables_in : (rel : ℕ → List PathData) (B : Assignment) (n count : ℕ) → length (tables_in rel B n count) ≡ count
length_tables_in rel B n zero = refl
length_tables_in rel B n (suc count) = ap suc (length_tables_in rel B (suc n) count)

pub const_tables : (P : Program) (rel : ℕ → List PathData) → AreTables P rel (tables_in rel all_const 0 (length P.methods))
const_tables P rel = record {
  count = length_tables_in rel all_const 0 (length P.methods);
  size = λ m table is. const_size rel 0 (length P.methods) m table is ∙ (let e : 0 + m ≡ m = omega arith in ap (λ i. count_of_parts (rel i)) e);
  falls = λ m table is. const_falls rel (length P.methods) m table is;
}

length_ranks : (xs ys : List Basic) → fix.AreAtLeast (map rank_of xs) (map rank_of ys) → length xs ≡ length ys
length_ranks [] [] up = refl
length_ranks [] (y ∷ ys) up = absurd up
length_ranks (x ∷ xs) [] up = absurd up
length_ranks (x ∷ xs) (y ∷ ys) up = ap suc (length_ranks xs ys up.1)

-- tables whose numbers meet every demand and lie above const
table_above : (x start : List (List Basic)) → fix.IsAbove (table_numbers x) (table_numbers start) → (m : ℕ) → length (table_or_empty (slice_get x m)) ≡ length (table_or_empty (slice_get start m))
table_above [] [] up m = refl
table_above [] (t ∷ start) up m = absurd up
table_above (u ∷ x) [] up m = absurd up
table_above (u ∷ x) (t ∷ start) up zero = length_ranks u t up.0
table_above (u ∷ x) (t ∷ start) up (suc m) = table_above x start up.1 m

met_are_tables : (P : Program) (overs : ℕ → List ℕ) (rel : ℕ → List PathData) (tables : List (List Basic)) → fix.AreAllMet (is_met P overs rel) (table_numbers tables)
    → fix.IsAbove (table_numbers tables) (table_numbers (tables_in rel all_const 0 (length P.methods))) → AreTables P rel tables
met_are_tables P overs rel tables closed up =
    let start = tables_in rel all_const 0 (length P.methods) in
    let count : length tables ≡ length P.methods = sym (length_numbers tables) ∙ length_above (table_numbers tables) (table_numbers start) up ∙ length_numbers start ∙ length_tables_in rel all_const 0 (length P.methods) in
    record {
      count = count;
      size = λ m table is.
          let within = slice_get_within tables m table is in
          let e : 0 + m ≡ m = omega arith in
          let begun = tables_in_at rel all_const 0 (length P.methods) m (omega (arith, within, count)) in
          sym (ap (λ o. length (table_or_empty o)) is) ∙ table_above tables start up m ∙ ap (λ o. length (table_or_empty o)) begun ∙ length_parts (λ held. Const) [] (rel (0 + m)) ∙ ap (λ i. count_of_parts (rel i)) e;
      falls = λ m table is.
          let within : m < length (table_numbers tables) = subst (λ n. m < n) (sym (length_numbers tables)) (slice_get_within tables m table is) in
          subst (λ o. table_falls (rel m) (table_or_empty o) ≡ true) is
          (first (table_falls (rel m) (table_or_empty (slice_get tables m))) (are_below (demands_at P overs rel (table_assignment rel tables) m) (table_or_empty (slice_get tables m)))
          (subst (λ ts. is_met_by P overs rel ts m ≡ true) (tables_same tables) (closed m within)));
    }

module _ (P : Program) (typed : IsTyped P) (rows : List (List ℕ)) (nearest : AreNearest P rows) (rel : ℕ → List PathData) (needs : (m : ℕ) (method : Method) → slice_get P.methods m ≡ Some method → IsSubset (has_path method.requires_) (has_path (rel m))) where
  abbrev overs : ℕ → List ℕ
  overs = overs_at rows

  module _ (B : Assignment) (falling : IsAntitone rel B) (closed : IsClosed P rel B) where
    -- its tables are nowhere above it
    tables_under : (m : ℕ) (H : Held) → IsSubset H (has_path (rel m)) → AtMost (table_assignment rel (tables_in rel B 0 (length P.methods)) m H) (B m H)
    tables_under m H part = elim (table_or_none rel B 0 (length P.methods) m) as (λ _. AtMost (table_assignment rel (tables_in rel B 0 (length P.methods)) m H) (B m H)) [
      | inl there ↦ subst (λ o. AtMost (chosen (map H (rel m)) (table_or_empty o)) (B m H)) (sym (there ∙ (let e : 0 + m ≡ m = omega arith in ap (λ i. Some (table_in rel B i)) e)))
          (subst (λ b. AtMost b (B m H)) (sym (chosen_parts (λ held. B m (has_path held)) H [] (rel m)))
          (falling m H (has_path (filter H (rel m))) (of_list H (rel m)) (λ q e. filter_has H (rel m) q e (part q e))))
      | inr none ↦ subst (λ o. AtMost (chosen (map H (rel m)) (table_or_empty o)) (B m H)) (sym none)
          (subst (λ b. AtMost b (B m H)) (sym (chosen_none (map H (rel m)))) (const_least (B m H)))
    ]

    demand_met : (m : ℕ) (method : Method) → slice_get P.methods m ≡ Some method → are_below (demands_of P overs rel (table_assignment rel (tables_in rel B 0 (length P.methods))) m (Some method)) (table_in rel B m) ≡ true
    demand_met m method is =
        let T = table_assignment rel (tables_in rel B 0 (length P.methods)) in
        parts_below (λ held. inferred_effect P rel T (overs m) method (has_path held)) (λ held. B m (has_path held)) method.requires_ [] (rel m) (λ qs part.
        let K = has_path (method.requires_ ++ qs) in
        let within : IsSubset K (has_path (rel m)) = λ q e. append_in method.requires_ qs (has_path (rel m)) (needs m method is) part q e in
        let has : IsSubset (has_path method.requires_) K = λ q e. in_first method.requires_ qs q e in
        below_chain _ _ _ (run_rises P rel (overs m) method T B tables_under K)
        (below_chain _ _ _
        (greatest_least rel B (effect P rel B method.body K) (B m K) (overs m) K (closed.bodies m method is K within has) (λ n listed. closed.overrides m n method is (nearest.sound m n listed) K within has))
        (falling m (has_path qs) K within (λ q e. in_second method.requires_ qs q e))))

    met_at : (m : ℕ) (o : Option Method) → slice_get P.methods m ≡ o → are_below (demands_of P overs rel (table_assignment rel (tables_in rel B 0 (length P.methods))) m o) (table_or_empty (slice_get (tables_in rel B 0 (length P.methods)) m)) ≡ true
    met_at m None is = refl
    met_at m (Some method) is =
        let e : 0 + m ≡ m = omega arith in
        let there = tables_in_at rel B 0 (length P.methods) m (slice_get_within P.methods m method is) ∙ ap (λ i. Some (table_in rel B i)) e in
        subst (λ o. are_below (demands_of P overs rel (table_assignment rel (tables_in rel B 0 (length P.methods))) m (Some method)) (table_or_empty o) ≡ true) (sym there) (demand_met m method is)

    -- its tables fall
    table_in_falls : (m : ℕ) → table_falls (rel m) (table_or_empty (slice_get (tables_in rel B 0 (length P.methods)) m)) ≡ true
    table_in_falls m = elim (table_or_none rel B 0 (length P.methods) m) as (λ _. table_falls (rel m) (table_or_empty (slice_get (tables_in rel B 0 (length P.methods)) m)) ≡ true) [
      | inl there ↦ subst (λ o. table_falls (rel m) (table_or_empty o) ≡ true) (sym (there ∙ (let e : 0 + m ≡ m = omega arith in ap (λ i. Some (table_in rel B i)) e)))
          (parts_fall (λ held. B m (has_path held)) (has_path (rel m)) (λ xs ys within part. falling m (has_path xs) (has_path ys) within part) [] (rel m) (λ q e. e))
      | inr none ↦ subst (λ o. table_falls (rel m) (table_or_empty o) ≡ true) (sym none) (none_falls (rel m))
    ]

    -- its tables meet every demand
    pub tables_met : fix.AreAllMet (is_met P overs rel) (table_numbers (tables_in rel B 0 (length P.methods)))
    tables_met m within =
        subst (λ ts. is_met_by P overs rel ts m ≡ true) (sym (tables_same (tables_in rel B 0 (length P.methods))))
        (and_from (table_falls (rel m) (table_or_empty (slice_get (tables_in rel B 0 (length P.methods)) m))) _ (table_in_falls m) (met_at m (slice_get P.methods m) refl))

  -- the least numbers that meet every demand, from const on, are the least closed assignment
  pub is_least : (tables : List (List Basic)) → fix.AreAllMet (is_met P overs rel) (table_numbers tables)
      → fix.IsBetween (is_met P overs rel) (table_numbers (tables_in rel all_const 0 (length P.methods))) (table_numbers tables) → IsLeast P rel (table_assignment rel tables)
  is_least tables closed between =
      let each_table = met_are_tables P overs rel tables closed between.above in
      let falls = tables_fall P rel tables each_table in
      let met : (m : ℕ) → m < length tables → IsTrue (is_met P overs rel (table_numbers tables) m) = λ m within. closed m (subst (λ n. m < n) (sym (length_numbers tables)) within) in
      record {
        falling = falls;
        closed = record {
          bodies = met_bodies P overs rel tables each_table met;
          overrides = λ m over method is o H part has.
              (follows P typed rows nearest rel needs (table_assignment rel tables) falls (met_listed P overs rel tables each_table met) m over method is H has (nearest.lead m over o)).below;
        };
        below = λ B falls closed_there m H part.
            let up = between.below (table_numbers (tables_in rel B 0 (length P.methods))) (tables_met B falls closed_there) (above_const rel B 0 (length P.methods)) in
            below_chain _ _ _
            (subst (λ ts. AtMost (table_assignment rel tables m H) (table_assignment rel ts m H)) (tables_same (tables_in rel B 0 (length P.methods))) (above_assigned rel (table_numbers (tables_in rel B 0 (length P.methods))) tables up m H))
            (tables_under B falls closed_there m H part);
        relevant = λ m H. ap (λ bits. chosen bits (table_or_empty (slice_get tables m))) (bits_same H (rel m));
      }

module _ (P : Program) (rel : ℕ → List PathData) (needs : (m : ℕ) (method : Method) → slice_get P.methods m ≡ Some method → IsSubset (has_path method.requires_) (has_path (rel m))) where
  -- a bound that the least assignment breaks is broken by every closed one
  pub least_bound : (A : Assignment) → IsLeast P rel A → (B : Assignment) → IsAntitone rel B → IsClosed P rel B → (m : ℕ) (method : Method) → slice_get P.methods m ≡ Some method → HoldsBound B m method → HoldsBound A m method
  least_bound A least B falling closed m method is bound = below_chain _ _ _ (least.below B falling closed m (has_path method.requires_) (needs m method is)) bound

  -- some assignment is admissible where the least one keeps every bound, and only there
  pub least_decides : (A : Assignment) → IsLeast P rel A → HoldBounds P A ↔ ((B : Assignment) × IsAdmissible P rel B)
  least_decides A least = (
    λ bounds. (A, record { falling = least.falling; closed = least.closed; bounds = bounds }),
    λ some m method is. least_bound A least some.0 some.1.falling some.1.closed m method is (some.1.bounds m method is),
  )

-- few paths have few parts
parts_few : (k : ℕ) (ps : List PathData) → length ps ≤ k → count_of_parts ps ≤ 2 ^ k
parts_few k [] few = pow_pos k
parts_few zero (p ∷ ps) few = absurd (omega arith)
parts_few (suc k) (p ∷ ps) few = let r = parts_few k ps (omega arith) in let e = pow-succ' 2 k in omega arith

room_few : (table : List Basic) → room_of table ≤ 4 * length table
room_few [] = omega arith
room_few (b ∷ table) = let r = room_few table in omega (arith, sum_by-cons (λ c. 4 - rank_of c) b table, r)

rooms_few : (tables : List (List Basic)) → ((m : ℕ) (table : List Basic) → slice_get tables m ≡ Some table → length table ≤ 256) → rooms_of tables ≤ 1024 * length tables
rooms_few [] few = omega arith
rooms_few (table ∷ tables) few =
    let own = few 0 table refl in
    let one = room_few table in
    let rest = rooms_few tables (λ m t is. few (suc m) t is) in
    omega (arith, sum_by-cons room_of table tables, own, one, rest)

-- where each method has at most eight relevant paths, there is room for every rise
pub const_room : (P : Program) (sets : List MethodPaths) → AreFew sets → rooms_of (tables_in (rel_of sets) all_const 0 (length P.methods)) ≤ 1024 * length (tables_in (rel_of sets) all_const 0 (length P.methods))
const_room P sets few = rooms_few (tables_in (rel_of sets) all_const 0 (length P.methods)) (λ m table is.
    let size = (const_tables P (rel_of sets)).size m table is in
    let most = parts_few 8 (rel_of sets m) (few.rel m) in
    omega (arith, size, most))

-- with few relevant sets the least assignment decides whether the program is accepted
pub least_accepts : (P : Program) (sets : List MethodPaths) (A : Assignment) → IsTyped P → AreRelevant P sets → AreFew sets → IsLeast P (rel_of sets) A → HoldBounds P A ↔ IsAccepted P
least_accepts P sets A typed relevant few least =
    let decides = least_decides P (rel_of sets) (λ m method is. required_in_rel P sets relevant typed m method is) A least in (
      λ bounds. let some = decides.0 bounds in record { sets = sets; relevant = relevant; few = few; assignment = some.0; admissible = some.1 },
      λ accepted. decides.1 (accepted.assignment, subst (λ s. IsAdmissible P (rel_of s) accepted.assignment) (unique_sets P accepted.sets sets accepted.relevant relevant) accepted.admissible),
    )

-- there is one least assignment
pub least_unique : (P : Program) (rel : ℕ → List PathData) (A B : Assignment) → IsLeast P rel A → IsLeast P rel B → (m : ℕ) (H : Held) → A m H ≡ B m H
least_unique P rel A B a b m H =
    let K : Held = λ q. has_path (rel m) q && H q in
    let within : IsSubset K (has_path (rel m)) = λ q e. first (has_path (rel m) q) (H q) e in
    a.relevant m H ∙ both_below (A m K) (B m K) (a.below B b.falling b.closed m K within) (b.below A a.falling a.closed m K within) ∙ sym (b.relevant m H)
