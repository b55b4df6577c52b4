-- Tables as cells: the numbers of tables, and what one rise of a table keeps.
use Rattle.std.proofs.Common.{◌≡◌, ℕ, zero, suc, ◌+◌, ◌-◌, ◌<◌, ◌≤◌, Bool, true, false, IsTrue, ◌&&◌, List, [], ◌∷◌, ◌++◌, length, filter, map, slice_get, slice_set, Some, None, refl, sym, ap, subst, ◌∙◌, arith, inl, inr}
use Rattle.std.specs.Prelude.{Option, if◌then◌else◌}
use Rattle.std.proofs.lemmas.List.Sums.{sum_by-cons}
use Rattle.std.proofs.lemmas.Bool.Decides.{nat_tests}
use Rattle.std.proofs.lemmas.Bool.{and_from}
use Rattle.paths.specs.Paths.{PathData}
use Rattle.algebra.specs.declared.basic.Basic.{Basic}
use Rattle.algebra.specs.declared.basic.Basic.TheVariants.{Const, Mover, Atomic, Cmpd, Error}
use Rattle.algebra.specs.Basics.{rank_of, below_of, join_of}
use Rattle.algebra.specs.HeldPaths.{Held, has_path}
use Rattle.algebra.specs.Tables.{count_of_parts}
use Rattle.algebra.proofs.Ranks.{most_rank}
use Rattle.core_program.specs.Core.{Program, Method}
use Rattle.fixpoint.specs.Assignments.{AreAtLeast, IsAbove}
use Rattle.fixpoint.proofs.NoteLemmas.{set_at}
use Rattle.rules.specs.Effect.{Assignment}
use Rattle.rules.specs.Rules.{IsSubset, AtMost, IsAntitone}
use Rattle.rules.proofs.SetLemmas.{first, second}
use Rattle.infer.specs.Tables.{chosen, table_or_empty, table_assignment}
use Rattle.infer.specs.Cells.{basic_of, table_numbers, tables_of, inferred_effect, demands_of, demands_at, are_below, joined_tables, table_falls, is_met, room_of, rooms_of, AreTables}
use Rattle.infer.proofs.RunLemmas.{run_falls, run_rises}
use Rattle.infer.proofs.TableParts.{length_parts, chosen_parts, chosen_below, chosen_none, length_joined, parts_below, below_lists, falls_chosen, none_falls, parts_fall, joined_falls}

-- Basics and numbers.

pub basic_rank : (b : Basic) → basic_of (rank_of b) ≡ b
basic_rank Const = refl
basic_rank Mover = refl
basic_rank Atomic = refl
basic_rank Cmpd = refl
basic_rank Error = refl

rank_low : (n : ℕ) → rank_of (basic_of n) ≤ n
rank_low zero = omega arith
rank_low (suc zero) = omega arith
rank_low (suc (suc zero)) = omega arith
rank_low (suc (suc (suc zero))) = omega arith
rank_low (suc (suc (suc (suc n)))) = omega arith

below_number : (b : Basic) (n : ℕ) → rank_of b ≤ n → below_of b (basic_of n) ≡ true
below_number Const zero h = refl
below_number Const (suc zero) h = refl
below_number Const (suc (suc zero)) h = refl
below_number Const (suc (suc (suc zero))) h = refl
below_number Const (suc (suc (suc (suc n)))) h = refl
below_number Mover zero h = absurd (omega arith)
below_number Mover (suc zero) h = refl
below_number Mover (suc (suc zero)) h = refl
below_number Mover (suc (suc (suc zero))) h = refl
below_number Mover (suc (suc (suc (suc n)))) h = refl
below_number Atomic zero h = absurd (omega arith)
below_number Atomic (suc zero) h = absurd (omega arith)
below_number Atomic (suc (suc zero)) h = refl
below_number Atomic (suc (suc (suc zero))) h = refl
below_number Atomic (suc (suc (suc (suc n)))) h = refl
below_number Cmpd zero h = absurd (omega arith)
below_number Cmpd (suc zero) h = absurd (omega arith)
below_number Cmpd (suc (suc zero)) h = absurd (omega arith)
below_number Cmpd (suc (suc (suc zero))) h = refl
below_number Cmpd (suc (suc (suc (suc n)))) h = refl
below_number Error zero h = absurd (omega arith)
below_number Error (suc zero) h = absurd (omega arith)
below_number Error (suc (suc zero)) h = absurd (omega arith)
below_number Error (suc (suc (suc zero))) h = absurd (omega arith)
below_number Error (suc (suc (suc (suc n)))) h = refl

pub le_test : (b c : Basic) → below_of b c ≡ true → rank_of b ≤ rank_of c
le_test b c h = grind (arith, nat_tests)

gt_test : (b c : Basic) → below_of b c ≡ false → rank_of c < rank_of b
gt_test b c h = grind (arith, nat_tests)

-- the tables of the numbers of tables
row_same : (table : List Basic) → map basic_of (map rank_of table) ≡ table
row_same [] = refl
row_same (b ∷ table) = λ i. basic_rank b i ∷ row_same table i

pub tables_same : (tables : List (List Basic)) → tables_of (table_numbers tables) ≡ tables
tables_same [] = refl
tables_same (table ∷ tables) = λ i. row_same table i ∷ tables_same tables i

pub length_numbers : (tables : List (List Basic)) → length (table_numbers tables) ≡ length tables
length_numbers [] = refl
length_numbers (table ∷ tables) = ap suc (length_numbers tables)

pub length_above : (x y : List (List ℕ)) → IsAbove x y → length x ≡ length y
length_above [] [] up = refl
length_above [] (low ∷ y) up = absurd up
length_above (row ∷ x) [] up = absurd up
length_above (row ∷ x) (low ∷ y) up = ap suc (length_above x y up.1)

-- Numbers above a table.

pub row_length : (row : List ℕ) (table : List Basic) → AreAtLeast row (map rank_of table) → length table ≡ length (map basic_of row)
row_length [] [] up = refl
row_length [] (b ∷ table) up = absurd up
row_length (n ∷ row) [] up = absurd up
row_length (n ∷ row) (b ∷ table) up = ap suc (row_length row table up.1)

row_below : (row : List ℕ) (table : List Basic) → AreAtLeast row (map rank_of table) → are_below table (map basic_of row) ≡ true
row_below [] [] up = refl
row_below [] (b ∷ table) up = absurd up
row_below (n ∷ row) [] up = absurd up
row_below (n ∷ row) (b ∷ table) up = and_from (below_of b (basic_of n)) (are_below table (map basic_of row)) (below_number b n up.0) (row_below row table up.1)

-- the row of a cell
abbrev pub row_of : Option (List ℕ) → List ℕ
row_of None = []
row_of (Some row) = row

pub table_of_row : (x : List (List ℕ)) (m : ℕ) → table_or_empty (slice_get (tables_of x) m) ≡ map basic_of (row_of (slice_get x m))
table_of_row [] m = refl
table_of_row (row ∷ x) zero = refl
table_of_row (row ∷ x) (suc m) = table_of_row x m

pub row_above : (x : List (List ℕ)) (tables : List (List Basic)) → IsAbove x (table_numbers tables) → (m : ℕ) → AreAtLeast (row_of (slice_get x m)) (map rank_of (table_or_empty (slice_get tables m)))
row_above [] [] up m = tt
row_above [] (table ∷ tables) up m = absurd up
row_above (row ∷ x) [] up m = absurd up
row_above (row ∷ x) (table ∷ tables) up zero = up.0
row_above (row ∷ x) (table ∷ tables) up (suc m) = row_above x tables up.1 m

-- numbers above those of tables make a greater assignment
pub above_assigned : (rel : ℕ → List PathData) (x : List (List ℕ)) (tables : List (List Basic)) → IsAbove x (table_numbers tables) → (m : ℕ) (H : Held) → AtMost (table_assignment rel tables m H) (table_assignment rel (tables_of x) m H)
above_assigned rel x tables up m H =
    let row = row_above x tables up m in
    subst (λ t. AtMost (table_assignment rel tables m H) (chosen (map H (rel m)) t)) (sym (table_of_row x m))
    (chosen_below (map H (rel m)) (table_or_empty (slice_get tables m)) (map basic_of (row_of (slice_get x m)))
    (row_length (row_of (slice_get x m)) (table_or_empty (slice_get tables m)) row) (row_below (row_of (slice_get x m)) (table_or_empty (slice_get tables m)) row))

-- Lists of tables with one of them set.

pub length_set : (tables : List (List Basic)) (m : ℕ) (table : List Basic) → length (slice_set tables m table) ≡ length tables
length_set [] m table = refl
length_set (t ∷ tables) zero table = refl
length_set (t ∷ tables) (suc m) table = ap suc (length_set tables m table)

-- above tables that had one of them set
above_set : (x : List (List ℕ)) (tables : List (List Basic)) (m : ℕ) (table : List Basic) → IsAbove x (table_numbers tables) → AreAtLeast (row_of (slice_get x m)) (map rank_of table) → IsAbove x (table_numbers (slice_set tables m table))
above_set [] [] m table up row = tt
above_set [] (t ∷ tables) m table up row = absurd up
above_set (r ∷ x) [] m table up row = absurd up
above_set (r ∷ x) (t ∷ tables) zero table up row = (row, up.1)
above_set (r ∷ x) (t ∷ tables) (suc m) table up row = (up.0, above_set x tables m table up.1 row)

row_itself : (table : List Basic) → AreAtLeast (map rank_of table) (map rank_of table)
row_itself [] = tt
row_itself (b ∷ table) = (omega arith, row_itself table)

all_itself : (tables : List (List Basic)) → IsAbove (table_numbers tables) (table_numbers tables)
all_itself [] = tt
all_itself (t ∷ tables) = (row_itself t, all_itself tables)

set_above : (tables : List (List Basic)) (m : ℕ) (table : List Basic) → AreAtLeast (map rank_of table) (map rank_of (table_or_empty (slice_get tables m))) → IsAbove (table_numbers (slice_set tables m table)) (table_numbers tables)
set_above [] m table up = tt
set_above (t ∷ tables) zero table up = (up, all_itself tables)
set_above (t ∷ tables) (suc m) table up = (row_itself t, set_above tables m table up)

-- Joined tables as numbers.

join_rank : (b c : Basic) (n : ℕ) → below_of b (basic_of n) ≡ true → rank_of c ≤ n → rank_of (join_of b c) ≤ n
join_rank b c n low up = join_at (below_of b c)
  where
    low_rank : rank_of b ≤ n
    low_rank = let l = le_test b (basic_of n) low in let k = rank_low n in omega arith

    join_at : (t : Bool) → rank_of (if t then c else b) ≤ n
    join_at true = up
    join_at false = low_rank

join_over : (b c : Basic) (t : Bool) → below_of b c ≡ t → rank_of c ≤ rank_of (if t then c else b)
join_over b c true e = omega arith
join_over b c false e = let g = gt_test b c e in omega arith

joined_least : (row : List ℕ) (xs ys : List Basic) → length xs ≡ length ys → are_below xs (map basic_of row) ≡ true → AreAtLeast row (map rank_of ys) → AreAtLeast row (map rank_of (joined_tables xs ys))
joined_least row [] [] e low up = up
joined_least row [] (y ∷ ys) e low up = absurd (omega arith)
joined_least row (x ∷ xs) [] e low up = absurd (omega arith)
joined_least [] (x ∷ xs) (y ∷ ys) e low up = absurd up
joined_least (n ∷ row) (x ∷ xs) (y ∷ ys) e low up = (
  join_rank x y n (first (below_of x (basic_of n)) (are_below xs (map basic_of row)) low) up.0,
  joined_least row xs ys (omega arith) (second (below_of x (basic_of n)) (are_below xs (map basic_of row)) low) up.1,
)

joined_over : (xs ys : List Basic) → length xs ≡ length ys → AreAtLeast (map rank_of (joined_tables xs ys)) (map rank_of ys)
joined_over [] [] e = tt
joined_over [] (y ∷ ys) e = absurd (omega arith)
joined_over (x ∷ xs) [] e = absurd (omega arith)
joined_over (x ∷ xs) (y ∷ ys) e = (join_over x y (below_of x y) refl, joined_over xs ys (omega arith))

-- Room for rises.

room_step : (b c : Basic) (t : Bool) → below_of b c ≡ t → 4 - rank_of (if t then c else b) ≤ 4 - rank_of c
room_step b c t e = let o = join_over b c t e in omega arith

room_joined : (xs ys : List Basic) → length xs ≡ length ys → room_of (joined_tables xs ys) ≤ room_of ys
room_joined [] [] e = omega arith
room_joined [] (y ∷ ys) e = absurd (omega arith)
room_joined (x ∷ xs) [] e = absurd (omega arith)
room_joined (x ∷ xs) (y ∷ ys) e =
    let s = room_step x y (below_of x y) refl in
    let r = room_joined xs ys (omega arith) in
    omega (arith, sum_by-cons (λ b. 4 - rank_of b) (join_of x y) (joined_tables xs ys), sum_by-cons (λ b. 4 - rank_of b) y ys, s, r)

room_less : (x y : Basic) → below_of x y ≡ false → 4 - rank_of x < 4 - rank_of y
room_less x y e = let g = gt_test x y e in let m = most_rank x in omega arith

room_falls_at : (x y : Basic) (xs ys : List Basic) (t : Bool) → below_of x y ≡ t → length xs ≡ length ys → (t && are_below xs ys) ≡ false → (are_below xs ys ≡ false → room_of (joined_tables xs ys) < room_of ys)
    → (4 - rank_of (if t then y else x)) + room_of (joined_tables xs ys) < (4 - rank_of y) + room_of ys
room_falls_at x y xs ys true e same up rest = let r = rest up in omega arith
room_falls_at x y xs ys false e same up rest = let l = room_less x y e in let r = room_joined xs ys same in omega arith

-- a table that isn't met has less room when it is
room_falls : (xs ys : List Basic) → length xs ≡ length ys → are_below xs ys ≡ false → room_of (joined_tables xs ys) < room_of ys
room_falls [] ys e up = absurd (let k : true ≡ false = up in cc)
room_falls (x ∷ xs) [] e up = absurd (omega arith)
room_falls (x ∷ xs) (y ∷ ys) e up =
    let r = room_falls_at x y xs ys (below_of x y) refl (omega arith) up (room_falls xs ys (omega arith)) in
    omega (arith, sum_by-cons (λ b. 4 - rank_of b) (join_of x y) (joined_tables xs ys), sum_by-cons (λ b. 4 - rank_of b) y ys, r)

rooms_fall : (tables : List (List Basic)) (m : ℕ) (old table : List Basic) → slice_get tables m ≡ Some old → room_of table < room_of old → rooms_of (slice_set tables m table) < rooms_of tables
rooms_fall [] m old table is less = absurd cc
rooms_fall (t ∷ tables) zero old table is less =
    let same : t ≡ old = cc in
    let r : room_of table < room_of t = subst (λ u. room_of table < room_of u) (sym same) less in
    omega (arith, sum_by-cons room_of table tables, sum_by-cons room_of t tables, r)
rooms_fall (t ∷ tables) (suc m) old table is less =
    let r = rooms_fall tables m old table is less in
    omega (arith, sum_by-cons room_of t (slice_set tables m table), sum_by-cons room_of t tables, r)

-- What calls demand.

-- the entry of a method's demands at a set
pub demand_is : (P : Program) (overs : ℕ → List ℕ) (rel : ℕ → List PathData) (A : Assignment) (m : ℕ) (method : Method) (H : Held)
    → chosen (map H (rel m)) (demands_of P overs rel A m (Some method)) ≡ inferred_effect P rel A (overs m) method (has_path (method.requires_ ++ filter H (rel m)))
demand_is P overs rel A m method H = chosen_parts (λ held. inferred_effect P rel A (overs m) method (has_path held)) H method.requires_ (rel m)

-- a greater assignment demands no less
demands_rise : (P : Program) (overs : ℕ → List ℕ) (rel : ℕ → List PathData) (A B : Assignment) → ((m : ℕ) (H : Held) → IsSubset H (has_path (rel m)) → AtMost (A m H) (B m H))
    → (m : ℕ) (method : Method) → are_below (demands_of P overs rel A m (Some method)) (demands_of P overs rel B m (Some method)) ≡ true
demands_rise P overs rel A B above m method =
    parts_below (λ held. inferred_effect P rel A (overs m) method (has_path held)) (λ held. inferred_effect P rel B (overs m) method (has_path held)) method.requires_ method.requires_ (rel m)
    (λ qs part. run_rises P rel (overs m) method A B above (has_path (method.requires_ ++ qs)))

-- what is demanded under a falling assignment falls
demands_fall : (P : Program) (overs : ℕ → List ℕ) (rel : ℕ → List PathData) (A : Assignment) → IsAntitone rel A → (m : ℕ) (method : Method) → table_falls (rel m) (demands_of P overs rel A m (Some method)) ≡ true
demands_fall P overs rel A falling m method = parts_fall (λ held. inferred_effect P rel A (overs m) method (has_path held)) (λ q. true)
    (λ xs ys within part. run_falls P rel (overs m) method A falling (has_path xs) (has_path ys) part) method.requires_ (rel m) (λ q e. refl)

-- falling tables make a falling assignment
fall_at : (P : Program) (rel : ℕ → List PathData) (tables : List (List Basic)) → AreTables P rel tables → (m : ℕ) (o : Option (List Basic)) → slice_get tables m ≡ o
    → (H K : Held) → IsSubset H K → AtMost (chosen (map K (rel m)) (table_or_empty o)) (chosen (map H (rel m)) (table_or_empty o))
fall_at P rel tables each m None is H K part =
    subst (λ b. AtMost b (chosen (map H (rel m)) [])) (sym (chosen_none (map K (rel m)))) (subst (λ b. AtMost Const b) (sym (chosen_none (map H (rel m)))) refl)
fall_at P rel tables each m (Some table) is H K part = falls_chosen (rel m) table (each.size m table is) (each.falls m table is) H K part

pub tables_fall : (P : Program) (rel : ℕ → List PathData) (tables : List (List Basic)) → AreTables P rel tables → IsAntitone rel (table_assignment rel tables)
tables_fall P rel tables each m H K within part = fall_at P rel tables each m (slice_get tables m) refl H K part

falls_at : (P : Program) (rel : ℕ → List PathData) (tables : List (List Basic)) → AreTables P rel tables → (m : ℕ) (o : Option (List Basic)) → slice_get tables m ≡ o → table_falls (rel m) (table_or_empty o) ≡ true
falls_at P rel tables each m None is = none_falls (rel m)
falls_at P rel tables each m (Some table) is = each.falls m table is

-- every table falls, also one that isn't there
pub each_falls : (P : Program) (rel : ℕ → List PathData) (tables : List (List Basic)) → AreTables P rel tables → (m : ℕ) → table_falls (rel m) (table_or_empty (slice_get tables m)) ≡ true
each_falls P rel tables each m = falls_at P rel tables each m (slice_get tables m) refl

-- One rise.

module _ (P : Program) (overs : ℕ → List ℕ) (rel : ℕ → List PathData) (tables : List (List Basic)) (m : ℕ) (method : Method) (old : List Basic) (is : slice_get P.methods m ≡ Some method) (is_old : slice_get tables m ≡ Some old) (each : AreTables P rel tables) where
  -- what calls of the method demand, and the table with it
  abbrev pub demanded : List Basic
  demanded = demands_of P overs rel (table_assignment rel tables) m (Some method)

  abbrev pub risen : List Basic
  risen = joined_tables demanded old

  pub demanded_length : length demanded ≡ length old
  demanded_length = length_parts (λ held. inferred_effect P rel (table_assignment rel tables) (overs m) method (has_path held)) method.requires_ (rel m) ∙ sym (each.size m old is_old)

  risen_falls : table_falls (rel m) risen ≡ true
  risen_falls = joined_falls (rel m) demanded old demanded_length (demands_fall P overs rel (table_assignment rel tables) (tables_fall P rel tables each) m method) (each.falls m old is_old)

  risen_size : (k : ℕ) (table : List Basic) → slice_get (slice_set tables m risen) k ≡ Some table → length table ≡ count_of_parts (rel k)
  risen_size k table at = elim (set_at tables m risen k) as (λ _. length table ≡ count_of_parts (rel k)) [
    | inl same ↦
        let new : risen ≡ table = (let e : Some risen ≡ Some table = sym same.1 ∙ at in cc) in
        sym (ap length new) ∙ length_joined demanded old ∙ demanded_length ∙ each.size m old is_old ∙ ap (λ n. count_of_parts (rel n)) same.0
    | inr other ↦ each.size k table (sym other ∙ at)
  ]

  pub risen_tables : AreTables P rel (slice_set tables m risen)
  risen_tables = record {
    count = length_set tables m risen ∙ each.count;
    size = risen_size;
    falls = λ k table at. elim (set_at tables m risen k) as (λ _. table_falls (rel k) table ≡ true) [
      | inl same ↦
          let new : risen ≡ table = (let e : Some risen ≡ Some table = sym same.1 ∙ at in cc) in
          subst (λ t. table_falls (rel k) t ≡ true) new (subst (λ n. table_falls (rel n) risen ≡ true) same.0 risen_falls)
      | inr other ↦ each.falls k table (sym other ∙ at)
    ];
  }

  pub risen_above : IsAbove (table_numbers (slice_set tables m risen)) (table_numbers tables)
  risen_above = set_above tables m risen (subst (λ o. AreAtLeast (map rank_of risen) (map rank_of (table_or_empty o))) (sym is_old) (joined_over demanded old demanded_length))

  pub risen_room : are_below demanded old ≡ false → rooms_of (slice_set tables m risen) < rooms_of tables
  risen_room up = rooms_fall tables m old risen is_old (room_falls demanded old demanded_length up)

  -- numbers that are above and meet the demand of the method stay above
  pub risen_under : (x : List (List ℕ)) → IsTrue (is_met P overs rel x m) → IsAbove x (table_numbers tables) → IsAbove x (table_numbers (slice_set tables m risen))
  risen_under x met up =
      let row = subst (λ o. AreAtLeast (row_of (slice_get x m)) (map rank_of (table_or_empty o))) is_old (row_above x tables up m) in
      let rise = demands_rise P overs rel (table_assignment rel tables) (table_assignment rel (tables_of x)) (λ k H within. above_assigned rel x tables up k H) m method in
      let met_there : are_below (demands_of P overs rel (table_assignment rel (tables_of x)) m (Some method)) (table_or_empty (slice_get (tables_of x) m)) ≡ true
      = subst (λ o. are_below (demands_of P overs rel (table_assignment rel (tables_of x)) m o) (table_or_empty (slice_get (tables_of x) m)) ≡ true) is
      (second (table_falls (rel m) (table_or_empty (slice_get (tables_of x) m))) (are_below (demands_at P overs rel (table_assignment rel (tables_of x)) m) (table_or_empty (slice_get (tables_of x) m))) met) in
      let met_row : are_below (demands_of P overs rel (table_assignment rel (tables_of x)) m (Some method)) (map basic_of (row_of (slice_get x m))) ≡ true
      = subst (λ t. are_below (demands_of P overs rel (table_assignment rel (tables_of x)) m (Some method)) t ≡ true) (table_of_row x m) met_there in
      let same = length_parts (λ held. inferred_effect P rel (table_assignment rel (tables_of x)) (overs m) method (has_path held)) method.requires_ (rel m)
      ∙ sym (each.size m old is_old) ∙ row_length (row_of (slice_get x m)) old row in
      above_set x tables m risen up
      (joined_least (row_of (slice_get x m)) demanded old demanded_length
      (below_lists demanded (demands_of P overs rel (table_assignment rel (tables_of x)) m (Some method)) (map basic_of (row_of (slice_get x m))) same rise met_row) row)
