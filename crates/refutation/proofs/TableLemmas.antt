-- Tables: what they say with const everywhere, and what they say after one of them was raised.
use Rattle.std.proofs.Common.{◌≡◌, ℕ, zero, suc, ◌+◌, ◌<◌, ◌≤◌, ◌/◌, ◌⊎◌, Bool, true, false, ◌&&◌, ◌==◌, List, [], ◌∷◌, ◌++◌, length, take, drop, get_or, slice_get, slice_set, Some, None, refl, sym, ap, subst, ◌∙◌, arith, inl, inr}
use Rattle.std.specs.Prelude.{map, if◌then◌else◌}
use Rattle.std.proofs.lemmas.List.{length-append}
use Rattle.std.proofs.lemmas.Option.{slice_get-get_or, slice_get_cases}
use Rattle.std.proofs.lemmas.Bool.{and_from, eqb-true, eqb-false}
use Rattle.base.proofs.Lists.{set_here}
use Rattle.fixpoint.proofs.NoteLemmas.{set_at}
use Rattle.paths.specs.Paths.{PathData}
use Rattle.algebra.specs.declared.basic.Basic.{Basic}
use Rattle.algebra.specs.declared.basic.Basic.TheVariants.{Const}
use Rattle.algebra.specs.Basics.{join_of}
use Rattle.algebra.specs.HeldPaths.{Held, has_path}
use Rattle.algebra.specs.Tables.{half_table, count_of_parts}
use Rattle.algebra.proofs.Halves.{half_is, half_sizes}
use Rattle.rules.specs.Search.{row_or_none, row_at}
use Rattle.rules.specs.Rules.{AtMost}
use Rattle.rules.proofs.BasicLemmas.{below_chain, join_mono, below_itself, both_below}
use Rattle.rules.proofs.SetLemmas.{first, second}
use Rattle.refutation.specs.Lines.{LineData, covers, line_at, floor}
use Rattle.refutation.specs.Tables.{table_entry, said_by, consts, raised_at_marks, raised_at_subsets, IsRaised, TablesSay}
use Rattle.refutation.proofs.Sets.{join_least, join_first, join_second, join_const, choice_low, covers_part, part_covers}
use Rattle.refutation.proofs.FloorLaws.{choice_falls, floor_more, floor_has, floor_both}

-- Halves of tables.

drop_empty : (n : ℕ) (xs : List Basic) → xs ≡ [] → drop n xs ≡ []
drop_empty zero xs e = e
drop_empty (suc n) [] e = refl
drop_empty (suc n) (x ∷ xs) e = absurd (omega (arith, ap length e))

take_empty : (n : ℕ) (xs : List Basic) → xs ≡ [] → take n xs ≡ []
take_empty zero xs e = refl
take_empty (suc n) [] e = refl
take_empty (suc n) (x ∷ xs) e = absurd (omega (arith, ap length e))

half_none : (b : Bool) → half_table b [] ≡ []
half_none true = drop_empty (length {A = Basic} [] / 2) [] refl
half_none false = take_empty (length {A = Basic} [] / 2) [] refl

either_same : (b : Bool) (xs : List Basic) → (if b then xs else xs) ≡ xs
either_same true xs = refl
either_same false xs = refl

-- At marks that tell which paths are held, a table is raised as at these.
pub raised_marked : (rel held : List PathData) (marks : List Bool) (b : Basic) (table : List Basic) → marks ≡ map (has_path held) rel → raised_at_marks marks b table ≡ raised_at_subsets rel held b table
raised_marked rel held marks b table are = ap (λ ms. raised_at_marks ms b table) are ∙ by rel table
  where
    by : (rel : List PathData) (table : List Basic) → raised_at_marks (map (has_path held) rel) b table ≡ raised_at_subsets rel held b table
    by [] table = refl
    by (p ∷ ps) table =
        let without = by ps (half_table false table) in
        let with_it = by ps (half_table true table) in
        (λ i. without i ++ (if has_path held p then with_it i else half_table true table))

-- Where nothing is said.

pub consts_length : (rel : List PathData) → length (consts rel) ≡ count_of_parts rel
consts_length [] = refl
consts_length (p ∷ ps) = let l = length-append (consts ps) (consts ps) in let half_is = consts_length ps in omega (arith, l, half_is)

pub entry_consts : (rel : List PathData) (H : Held) → table_entry rel (consts rel) H ≡ Const
entry_consts [] H = refl
entry_consts (p ∷ ps) H = ap (λ t. table_entry ps t H) (half_is (H p) (consts ps) (consts ps) refl ∙ either_same (H p) (consts ps)) ∙ entry_consts ps H

entry_none : (rel : List PathData) (H : Held) → table_entry rel [] H ≡ Const
entry_none [] H = refl
entry_none (p ∷ ps) H = ap (λ t. table_entry ps t H) (half_none (H p)) ∙ entry_none ps H

pub tables_more : (f : ℕ → List Basic) (tables : List (List Basic)) (table : List Basic) → ((m : ℕ) → m < length tables → row_at tables m ≡ f m) → table ≡ f (length tables) → (m : ℕ) → m < length (tables ++ table ∷ []) → row_at (tables ++ table ∷ []) m ≡ f m
tables_more f [] table each is zero below = is
tables_more f [] table each is (suc m) below = absurd (omega (arith, below))
tables_more f (t ∷ tables) table each is zero below = each 0 (omega arith)
tables_more f (t ∷ tables) table each is (suc m) below = tables_more (λ k. f (suc k)) tables table (λ k less. each (suc k) (omega (arith, less))) is m (omega (arith, below))

pub tables_step : (rel : ℕ → List PathData) (old new : List (List Basic)) (table : List Basic) (place method : ℕ) (paths : List PathData) → length old ≡ place → method ≡ place → paths ≡ rel method → table ≡ consts paths → new ≡ old ++ table ∷ []
    → ((m : ℕ) → m < length old → row_at old m ≡ consts (rel m)) → (length new ≡ place + 1) × ((m : ℕ) → m < length new → row_at new m ≡ consts (rel m))
tables_step rel old new table place method paths size at its is put none =
    let here : table ≡ consts (rel (length old)) = is ∙ ap consts its ∙ ap (λ k. consts (rel k)) (at ∙ sym size) in
    let l = length-append old (table ∷ []) in (
      ap length put ∙ omega (arith, l, size),
      λ m below. ap (λ ts. row_at ts m) put ∙ tables_more (λ k. consts (rel k)) old table none here m (subst (λ ts. m < length ts) put below),
    )

pub says_none : (rel : ℕ → List PathData) (tables : List (List Basic)) → ((m : ℕ) → m < length tables → row_at tables m ≡ consts (rel m)) → TablesSay rel tables []
says_none rel tables none = record {
  sized = λ m below. ap length (none m below) ∙ consts_length (rel m);
  says = λ i m H. at m H (slice_get_cases tables m).1 i;
}
  where
    at : (m : ℕ) (H : Held) → ((x : List Basic) × (m < length tables) × (slice_get tables m ≡ Some x) × (get_or tables m x ≡ x)) ⊎ ((length tables ≤ m) × (slice_get tables m ≡ None)) → table_entry (rel m) (row_at tables m) H ≡ Const
    at m H (inl there) = ap (λ t. table_entry (rel m) t H) (none m there.1) ∙ entry_consts (rel m) H
    at m H (inr past) = ap (λ t. table_entry (rel m) t H) (ap row_or_none past.1) ∙ entry_none (rel m) H

-- A table that is raised.

either_length : (c : Bool) (xs ys : List Basic) (n : ℕ) → length xs ≡ n → length ys ≡ n → length (if c then xs else ys) ≡ n
either_length true xs ys n e f = e
either_length false xs ys n e f = f

raised_length : (rel held : List PathData) (b : Basic) (table : List Basic) → length table ≡ count_of_parts rel → length (raised_at_subsets rel held b table) ≡ count_of_parts rel
raised_length [] held b [] e = e
raised_length [] held b (x ∷ xs) e = e
raised_length (p ∷ ps) held b table e =
    let low = raised_length ps held b (half_table false table) (half_sizes p ps table false e) in
    let high = either_length (has_path held p) (raised_at_subsets ps held b (half_table true table)) (half_table true table) (count_of_parts ps)
    (raised_length ps held b (half_table true table) (half_sizes p ps table true e)) (half_sizes p ps table true e) in
    let l = length-append (raised_at_subsets ps held b (half_table false table)) (if has_path held p then raised_at_subsets ps held b (half_table true table) else half_table true table) in
    omega (arith, low, high, l)

entry_raised : (rel held : List PathData) (b : Basic) (table : List Basic) (H : Held) → length table ≡ count_of_parts rel
    → table_entry rel (raised_at_subsets rel held b table) H ≡ join_of (table_entry rel table H) (if covers held rel H then b else Const)
entry_raised [] held b [] H e = absurd (omega (arith, e))
entry_raised [] held b (x ∷ xs) H e = refl
entry_raised (p ∷ ps) held b table H e =
    let low = raised_at_subsets ps held b (half_table false table) in
    let high = raised_at_subsets ps held b (half_table true table) in
    let same : length low ≡ length (if has_path held p then high else half_table true table) =
    raised_length ps held b (half_table false table) (half_sizes p ps table false e)
    ∙ sym (either_length (has_path held p) high (half_table true table) (count_of_parts ps) (raised_length ps held b (half_table true table) (half_sizes p ps table true e)) (half_sizes p ps table true e)) in
    ap (λ t. table_entry ps t H) (half_is (H p) low (if has_path held p then high else half_table true table) same)
    ∙ at_test (H p) (has_path held p) (entry_raised ps held b (half_table false table) H (half_sizes p ps table false e)) (entry_raised ps held b (half_table true table) H (half_sizes p ps table true e))
  where
    at_test : (h k : Bool) → table_entry ps (raised_at_subsets ps held b (half_table false table)) H ≡ join_of (table_entry ps (half_table false table) H) (if covers held ps H then b else Const)
        → table_entry ps (raised_at_subsets ps held b (half_table true table)) H ≡ join_of (table_entry ps (half_table true table) H) (if covers held ps H then b else Const)
        → table_entry ps (if h then (if k then raised_at_subsets ps held b (half_table true table) else half_table true table) else raised_at_subsets ps held b (half_table false table)) H
        ≡ join_of (table_entry ps (half_table h table) H) (if (if h then k else true) && covers held ps H then b else Const)
    at_test false k one other = one
    at_test true true one other = other
    at_test true false one other = sym (join_const (table_entry ps (half_table true table) H))

-- the table of one method, raised in its place
pub table_raised : (rel : List PathData) (tables : List (List Basic)) (place : ℕ) (l : LineData) (table longer none : List Basic) → place ≡ l.method → place < length tables → table ≡ get_or tables place none → longer ≡ raised_at_subsets rel l.held l.found table
    → IsRaised rel tables (slice_set tables place longer) l
table_raised rel tables place l table longer none place_is below is put k = elim (l.method == k) as (λ b. (l.method == k) ≡ b → row_at (slice_set tables place longer) k ≡ (if b then raised_at_subsets rel l.held l.found (row_at tables k) else row_at tables k)) [
  | true ↦ λ e.
      let same : place ≡ k = place_is ∙ eqb-true l.method k e in
      let there : row_at tables k ≡ table = ap row_or_none (subst (λ n. slice_get tables n ≡ Some table) same (slice_get-get_or tables place none below ∙ ap Some (sym is))) in
      let here : row_at (slice_set tables place longer) k ≡ longer = ap row_or_none (subst (λ n. slice_get (slice_set tables place longer) n ≡ Some longer) same (set_here tables place longer below)) in
      here ∙ put ∙ ap (λ t. raised_at_subsets rel l.held l.found t) (sym there)
  | false ↦ λ e. elim (set_at tables place longer k) as (λ _. row_at (slice_set tables place longer) k ≡ row_at tables k) [
    | inl here ↦ absurd (eqb-false l.method k e (sym place_is ∙ here.0))
    | inr other ↦ ap row_or_none other
  ]
] refl

-- lines with one more at their end
pub lines_is : (rel : ℕ → List PathData) (ls : List LineData) (l : LineData) (m : ℕ) (H : Held) → floor rel (ls ++ l ∷ []) m H ≡ join_of (floor rel ls m H) (line_at rel l m H)
lines_is rel ls l m H = both_below _ _
    (floor_both rel ls l m H _ (join_first _ _) (join_second _ _))
    (join_least _ _ _ (floor_more rel ls l m H) (floor_has rel ls l m H))

-- what the floor says at paths, it says at each set that they cover
floor_covered : (rel : ℕ → List PathData) (ls : List LineData) (m : ℕ) (held : List PathData) (H : Held) → covers held (rel m) H ≡ true → AtMost (floor rel ls m (has_path held)) (floor rel ls m H)
floor_covered rel [] m held H c = refl
floor_covered rel (l ∷ ls) m held H c = join_mono _ _ _ _
    (choice_falls ((l.method == m) && covers l.held (rel m) (has_path held)) ((l.method == m) && covers l.held (rel m) H) l.found (λ e.
    and_from (l.method == m) (covers l.held (rel m) H) (first (l.method == m) (covers l.held (rel m) (has_path held)) e)
    (part_covers l.held (rel m) H (λ q h r. covers_part l.held (rel m) (has_path held) (second (l.method == m) (covers l.held (rel m) (has_path held)) e) q (covers_part held (rel m) H c q h r) r))))
    (floor_covered rel ls m held H c)

-- a line that is at most the floor at its own paths adds nothing
known_line : (rel : ℕ → List PathData) (ls : List LineData) (l : LineData) → AtMost l.found (floor rel ls l.method (has_path l.held)) → (m : ℕ) (H : Held) → AtMost (line_at rel l m H) (floor rel ls m H)
known_line rel ls l low m H = choice_low ((l.method == m) && covers l.held (rel m) H) l.found (floor rel ls m H) (λ e.
    let is = eqb-true l.method m (first (l.method == m) (covers l.held (rel m) H) e) in
    subst (λ n. covers l.held (rel n) H ≡ true → AtMost l.found (floor rel ls n H)) is
    (λ c. below_chain _ _ _ low (floor_covered rel ls l.method l.held H c)) (second (l.method == m) (covers l.held (rel m) H) e))

-- the tables say what the lines say with one more, which is said already
pub says_known : (rel : ℕ → List PathData) (tables : List (List Basic)) (l : LineData) (ls : List LineData) → TablesSay rel tables ls → AtMost l.found (said_by rel tables l.method (has_path l.held)) → TablesSay rel tables (ls ++ l ∷ [])
says_known rel tables l ls said low = record { sized = said.sized; says = said.says ∙ (λ i m H. same m H i) }
  where
    low_floor : AtMost l.found (floor rel ls l.method (has_path l.held))
    low_floor = subst (λ (A : ℕ → Held → Basic). AtMost l.found (A l.method (has_path l.held))) said.says low

    same : (m : ℕ) (H : Held) → floor rel ls m H ≡ floor rel (ls ++ l ∷ []) m H
    same m H = both_below _ _ (floor_more rel ls l m H) (floor_both rel ls l m H _ (below_itself _) (known_line rel ls l low_floor m H))

-- or with which the table of its method was raised
pub says_more : (rel : ℕ → List PathData) (tables now : List (List Basic)) (l : LineData) → IsRaised (rel l.method) tables now l → length now ≡ length tables → l.method < length tables → (ls : List LineData) → TablesSay rel tables ls → TablesSay rel now (ls ++ l ∷ [])
says_more rel tables now l is size below ls said = record {
  sized = λ m less. ap length (is m) ∙ sized_at m (l.method == m) refl (subst (λ n. m < n) size less);
  says = λ i m H. at m H i;
}
  where
    sized_at : (m : ℕ) (b : Bool) → (l.method == m) ≡ b → m < length tables → length (if b then raised_at_subsets (rel l.method) l.held l.found (row_at tables m) else row_at tables m) ≡ count_of_parts (rel m)
    sized_at m true e less =
        ap (λ k. length (raised_at_subsets (rel k) l.held l.found (row_at tables m))) (eqb-true l.method m e) ∙ raised_length (rel m) l.held l.found (row_at tables m) (said.sized m less)
    sized_at m false e less = said.sized m less

    said_at : (m : ℕ) (H : Held) → table_entry (rel m) (row_at tables m) H ≡ floor rel ls m H
    said_at m H = ap (λ (A : ℕ → Held → Basic). A m H) said.says

    at_test : (m : ℕ) (H : Held) (b : Bool) → (l.method == m) ≡ b → table_entry (rel m) (if b then raised_at_subsets (rel l.method) l.held l.found (row_at tables m) else row_at tables m) H
        ≡ join_of (floor rel ls m H) (if b && covers l.held (rel m) H then l.found else Const)
    at_test m H true e =
        let same : l.method ≡ m = eqb-true l.method m e in
        ap (λ k. table_entry (rel m) (raised_at_subsets (rel k) l.held l.found (row_at tables m)) H) same
        ∙ entry_raised (rel m) l.held l.found (row_at tables m) H (said.sized m (subst (λ k. k < length tables) same below))
        ∙ ap (λ b. join_of b (if covers l.held (rel m) H then l.found else Const)) (said_at m H)
    at_test m H false e = said_at m H ∙ sym (join_const (floor rel ls m H))

    at : (m : ℕ) (H : Held) → table_entry (rel m) (row_at now m) H ≡ floor rel (ls ++ l ∷ []) m H
    at m H = ap (λ t. table_entry (rel m) t H) (is m) ∙ at_test m H (l.method == m) refl ∙ sym (lines_is rel ls l m H)

-- as the calls tell it
pub add_says : (rel : ℕ → List PathData) (rows base now written : List (List Basic)) (its : List PathData) (l : LineData) → base ≡ rows → written ≡ now → its ≡ rel l.method → length now ≡ length base → l.method < length rows → IsRaised its base now l
    → (ls : List LineData) → TablesSay rel rows ls → TablesSay rel written (ls ++ l ∷ [])
add_says rel rows base now written its l one two paths size below raised_at_subsets ls said =
    subst (λ ts. TablesSay rel ts (ls ++ l ∷ [])) (sym two)
    (says_more rel rows now l (subst (λ xs. IsRaised xs rows now l) paths (subst (λ xs. IsRaised its xs now l) one raised_at_subsets)) (size ∙ ap length one) below ls said)
