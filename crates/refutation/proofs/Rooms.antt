-- How far what tables say can still rise, and the work of looks that is left by it.
use Rattle.std.proofs.Common.{◌≡◌, ℕ, zero, suc, ◌+◌, ◌-◌, ◌*◌, ◌<◌, ◌≤◌, ◌==◌, Bool, true, false, List, [], ◌∷◌, ◌++◌, length, nat_le, Contains, refl, sym, ap, subst, ◌∙◌, arith}
use Rattle.std.specs.Prelude.{Option, Some, None, IfSome, MatchOption, filter, if◌then◌else◌}
use Rattle.std.proofs.Math.Nat.{mul-suc, mul-le-mul_left}
use Rattle.std.proofs.lemmas.List.{take-append-drop}
use Rattle.std.proofs.lemmas.Bool.{leb-true, leb-false, eqb-true, eqb-false}
use Rattle.std.proofs.lemmas.Option.{slice_get_within}
use Rattle.paths.specs.Paths.{PathData}
use Rattle.algebra.specs.declared.basic.Basic.{Basic}
use Rattle.algebra.specs.Basics.{rank_of, below_of, join_of}
use Rattle.algebra.specs.HeldPaths.{has_path}
use Rattle.algebra.specs.Tables.{half_table, count_of_parts}
use Rattle.algebra.proofs.Halves.{half_sizes}
use Rattle.algebra.proofs.Ranks.{most_rank}
use Rattle.core_program.specs.Core.{Program}
use Rattle.core_program.specs.Dispatch.{Overrides}
use Rattle.rules.specs.Overriding.{AreOverriders}
use Rattle.rules.specs.Search.{row_at}
use Rattle.refutation.specs.Lines.{LineData, overrides, numbers, overriding}
use Rattle.refutation.specs.Tables.{table_entry, raised_at_subsets, said_by, IsRaised, TablesSay}
use Rattle.refutation.specs.Works.{most_work, table_room, work_left, program_work, look_work, rising, IsOverWork}
use Rattle.refutation.proofs.Over.{is_overrides}
use Rattle.refutation.proofs.Sets.{join_first, join_second}

room_append : (xs ys : List Basic) → table_room (xs ++ ys) ≡ table_room xs + table_room ys
room_append [] ys = omega arith
room_append (x ∷ xs) ys = let more = room_append xs ys in omega (arith, more)

-- the room of both halves
room_halves : (table : List Basic) → table_room (half_table false table) + table_room (half_table true table) ≡ table_room table
room_halves table = sym (room_append (half_table false table) (half_table true table)) ∙ ap table_room (take-append-drop _ table)

-- joining a basic leaves no more room
join_room : (x b : Basic) → 4 - rank_of (join_of x b) ≤ 4 - rank_of x
join_room x b = let rises = leb-true (rank_of x) (rank_of (join_of x b)) (join_first x b) in omega (arith, rises)

-- and less where the basic says more
join_less : (x b : Basic) → below_of b x ≡ false → (4 - rank_of (join_of x b)) + 1 ≤ 4 - rank_of x
join_less x b new =
    let more = leb-false (rank_of b) (rank_of x) new in
    let has = leb-true (rank_of b) (rank_of (join_of x b)) (join_second x b) in
    let most = most_rank (join_of x b) in
    omega (arith, more, has, most)

either_room : (c : Bool) (xs ys : List Basic) (n : ℕ) → table_room xs ≤ n → table_room ys ≤ n → table_room (if c then xs else ys) ≤ n
either_room true xs ys n e f = e
either_room false xs ys n e f = f

-- a raised table has no more room
raised_room : (rel held : List PathData) (b : Basic) (table : List Basic) → table_room (raised_at_subsets rel held b table) ≤ table_room table
raised_room [] held b [] = omega arith
raised_room [] held b (x ∷ xs) = let one = join_room x b in omega (arith, one)
raised_room (p ∷ ps) held b table =
    let low = raised_room ps held b (half_table false table) in
    let same : table_room (half_table true table) ≤ table_room (half_table true table) = omega arith in
    let high = either_room (has_path held p) (raised_at_subsets ps held b (half_table true table)) (half_table true table) (table_room (half_table true table)) (raised_room ps held b (half_table true table)) same in
    let both = room_append (raised_at_subsets ps held b (half_table false table)) (if has_path held p then raised_at_subsets ps held b (half_table true table) else half_table true table) in
    let halves = room_halves table in
    omega (arith, low, high, both, halves)

-- and less where it was raised at a set at which the basic says more
raised_less : (rel held : List PathData) (b : Basic) (table : List Basic) → length table ≡ count_of_parts rel → below_of b (table_entry rel table (has_path held)) ≡ false
    → table_room (raised_at_subsets rel held b table) + 1 ≤ table_room table
raised_less [] held b [] size new = absurd (omega (arith, size))
raised_less [] held b (x ∷ xs) size new = let one = join_less x b new in omega (arith, one)
raised_less (p ∷ ps) held b table size new =
    let halves = room_halves table in
    at_test (has_path held p) new (raised_less ps held b (half_table true table) (half_sizes p ps table true size)) (raised_less ps held b (half_table false table) (half_sizes p ps table false size))
  where
    at_test : (h : Bool) → below_of b (table_entry ps (half_table h table) (has_path held)) ≡ false
        → (below_of b (table_entry ps (half_table true table) (has_path held)) ≡ false → table_room (raised_at_subsets ps held b (half_table true table)) + 1 ≤ table_room (half_table true table))
        → (below_of b (table_entry ps (half_table false table) (has_path held)) ≡ false → table_room (raised_at_subsets ps held b (half_table false table)) + 1 ≤ table_room (half_table false table))
        → table_room (raised_at_subsets ps held b (half_table false table) ++ (if h then raised_at_subsets ps held b (half_table true table) else half_table true table)) + 1 ≤ table_room table
    at_test true new high low =
        let less = high new in
        let other = raised_room ps held b (half_table false table) in
        let both = room_append (raised_at_subsets ps held b (half_table false table)) (raised_at_subsets ps held b (half_table true table)) in
        let halves = room_halves table in
        omega (arith, less, other, both, halves)
    at_test false new high low =
        let less = low new in
        let both = room_append (raised_at_subsets ps held b (half_table false table)) (half_table true table) in
        let halves = room_halves table in
        omega (arith, less, both, halves)

-- one look less
look_less : (look small large : ℕ) → small + 1 ≤ large → look * small + look ≤ look * large
look_less look small large less =
    let one : suc small ≤ large = omega (arith, less) in
    let more = mul-le-mul_left look one in
    let is = mul-suc look small in
    omega (arith, more, is)

-- Over all methods.

module _ (looks : ℕ → ℕ) (rel : List PathData) (tables now : List (List Basic)) (l : LineData) (is : IsRaised rel tables now l) where
  other_row : (k : ℕ) (same : Bool) → (l.method == k) ≡ same → same ≡ false → row_at now k ≡ row_at tables k
  other_row k same e none = is k ∙ ap (λ b. if b then raised_at_subsets rel l.held l.found (row_at tables k) else row_at tables k) (e ∙ none)

  -- the methods before the raised one
  work_same : (n : ℕ) → n ≤ l.method → work_left looks now n ≡ work_left looks tables n
  work_same zero within = refl
  work_same (suc n) within =
      let rest = work_same n (omega (arith, within)) in
      let other : row_at now n ≡ row_at tables n = other_row n (l.method == n) refl (ne_test n (omega (arith, within))) in
      ap (λ t. looks n * table_room t + work_left looks now n) other ∙ ap (λ w. looks n * table_room (row_at tables n) + w) rest
    where
      ne_test : (n : ℕ) → n < l.method → (l.method == n) ≡ false
      ne_test n below = elim (l.method == n) as (λ b. (l.method == n) ≡ b → b ≡ false) [
        | true ↦ λ e. absurd (omega (arith, below, eqb-true l.method n e))
        | false ↦ λ e. refl
      ] refl

  module _ (size : length (row_at tables l.method) ≡ count_of_parts rel) (new : below_of l.found (table_entry rel (row_at tables l.method) (has_path l.held)) ≡ false) where
    -- the line takes a look at its method from what is left
    pub work_raised : (n : ℕ) → l.method < n → work_left looks now n + looks l.method ≤ work_left looks tables n
    work_raised zero below = absurd (omega (arith, below))
    work_raised (suc n) below = elim (l.method == n) as (λ b. (l.method == n) ≡ b → work_left looks now (suc n) + looks l.method ≤ work_left looks tables (suc n)) [
      | true ↦ λ e.
          let same : l.method ≡ n = eqb-true l.method n e in
          let row : row_at now n ≡ raised_at_subsets rel l.held l.found (row_at tables n) = is n ∙ ap (λ b. if b then raised_at_subsets rel l.held l.found (row_at tables n) else row_at tables n) e in
          let less = subst (λ m. table_room (raised_at_subsets rel l.held l.found (row_at tables m)) + 1 ≤ table_room (row_at tables m)) same (raised_less rel l.held l.found (row_at tables l.method) size new) in
          let room : table_room (row_at now n) + 1 ≤ table_room (row_at tables n) = subst (λ t. table_room t + 1 ≤ table_room (row_at tables n)) (sym row) less in
          let here = look_less (looks n) (table_room (row_at now n)) (table_room (row_at tables n)) room in
          let rest = work_same n (omega (arith, same)) in
          let look : looks l.method ≡ looks n = ap looks same in
          omega (arith, here, rest, look)
      | false ↦ λ e.
          let apart = eqb-false l.method n e in
          let less : l.method < n = below_but l.method n below apart in
          let rest = work_raised n less in
          let other : looks n * table_room (row_at now n) ≡ looks n * table_room (row_at tables n) = ap (λ t. looks n * table_room t) (other_row n (l.method == n) refl e) in
          omega (arith, rest, other)
    ] refl
      where
        below_but : (m n : ℕ) → m < suc n → (m ≡ n → ⊥) → m < n
        below_but m n below apart = omega (arith, below, apart)

-- Where nothing is said.

room_length : (table : List Basic) → table_room table ≤ 4 * length table
room_length [] = omega arith
room_length (b ∷ bs) = let rest = room_length bs in omega (arith, rest)

pub work_start : (looks : ℕ → ℕ) (rel : ℕ → List PathData) (tables : List (List Basic)) (n : ℕ) → ((m : ℕ) → m < n → length (row_at tables m) ≡ count_of_parts (rel m)) → work_left looks tables n ≤ program_work looks rel n
work_start looks rel tables zero sized = omega arith
work_start looks rel tables (suc n) sized =
    let rest = work_start looks rel tables n (λ m below. sized m (omega (arith, below))) in
    let size = sized n (omega arith) in
    let room : table_room (row_at tables n) ≤ 4 * count_of_parts (rel n) = let most = room_length (row_at tables n) in omega (arith, most, size) in
    let here = mul-le-mul_left (looks n) room in
    omega (arith, rest, here)

-- what is left for a method of which more can be said
pub work_some : (looks : ℕ → ℕ) (tables : List (List Basic)) (m n : ℕ) → m < n → 1 ≤ table_room (row_at tables m) → looks m ≤ work_left looks tables n
work_some looks tables m zero below some = absurd (omega (arith, below))
work_some looks tables m (suc n) below some = elim (m == n) as (λ b. (m == n) ≡ b → looks m ≤ work_left looks tables (suc n)) [
  | true ↦ λ e.
      let same = eqb-true m n e in
      let room : 0 + 1 ≤ table_room (row_at tables n) = subst (λ k. 0 + 1 ≤ table_room (row_at tables k)) same some in
      let here = look_less (looks n) 0 (table_room (row_at tables n)) room in
      let look : looks m ≡ looks n = ap looks same in
      omega (arith, here, look)
  | false ↦ λ e.
      let apart = eqb-false m n e in
      let less : m < n = omega (arith, below, apart) in
      let rest = work_some looks tables m n less some in
      omega (arith, rest)
] refl

-- A line of which nothing says as much yet.

-- what is said at its paths, as the code sees them
pub not_said : (rel : ℕ → List PathData) (tables : List (List Basic)) (l : LineData) (found there : Basic) (method : ℕ) (held : List PathData) (test : Bool) → found ≡ l.found → method ≡ l.method → held ≡ l.held
    → there ≡ said_by rel tables method (has_path held) → test ≡ below_of found there → test ≡ false → below_of l.found (said_by rel tables l.method (has_path l.held)) ≡ false
not_said rel tables l found there method held test found_is method_is held_is at asked fails =
    (λ i. below_of (sym found_is i) (said_by rel tables (sym method_is i) (has_path (sym held_is i)))) ∙ (λ i. below_of found (sym at i)) ∙ sym asked ∙ fails

module _ (looks : ℕ → ℕ) (rel : ℕ → List PathData) (tables : List (List Basic)) (before : List LineData) (says : TablesSay rel tables before) (l : LineData) (there : l.method < length tables)
    (new : below_of l.found (said_by rel tables l.method (has_path l.held)) ≡ false) where
  -- a look at its method is among those that are left
  pub look_within : looks l.method ≤ work_left looks tables (length tables)
  look_within =
      let less = raised_less (rel l.method) l.held l.found (row_at tables l.method) (says.sized l.method there) new in
      let some : 1 ≤ table_room (row_at tables l.method) = omega (arith, less) in
      work_some looks tables l.method (length tables) there some

  -- and no more once it is said
  pub look_taken : (now : List (List Basic)) → IsRaised (rel l.method) tables now l → work_left looks now (length tables) + looks l.method ≤ work_left looks tables (length tables)
  look_taken now raised_at_subsets = work_raised looks (rel l.method) tables now l raised_at_subsets (says.sized l.method there) new (length tables) there

-- What the loop over lines keeps of the work.

-- what is told of a line that was looked at
pub some_told : (justified : Bool) (Q : Type 0) (o : Option Bool) (b : Bool) → o ≡ Some b → IfSome o (λ b. (b ≡ justified) × (b ≡ true → Q)) → (b ≡ justified) × (b ≡ true → Q)
some_told justified Q o b is told = subst (λ x. IfSome x (λ b. (b ≡ justified) × (b ≡ true → Q))) is told

-- the work that it took
pub some_spent : (less spent : Type 0) (o : Option Bool) (b : Bool) → o ≡ Some b → MatchOption o less (λ b. b ≡ true → spent) → b ≡ true → spent
some_spent less spent o b is told = subst (λ x. MatchOption x less (λ b. b ≡ true → spent)) is told

-- too little was left
pub none_spent : (less spent : Type 0) (o : Option Bool) → o ≡ None → MatchOption o less (λ b. b ≡ true → spent) → less
none_spent less spent o is told = subst (λ x. MatchOption x less (λ b. b ≡ true → spent)) is told

pub left_start : (looks : ℕ → ℕ) (rel : ℕ → List PathData) (tables : List (List Basic)) (all : ℕ) → length tables ≡ all → TablesSay rel tables [] → most_work + work_left looks tables all ≤ most_work + program_work looks rel all
left_start looks rel tables all size says =
    let start = work_start looks rel tables all (λ m below. says.sized m (omega (arith, size, below))) in
    omega (arith, start)

pub left_kept : (looks : ℕ → ℕ) (rel : ℕ → List PathData) (tables now : List (List Basic)) (old new all : ℕ) → length tables ≡ all → most_work + work_left looks tables all ≤ old + program_work looks rel all
    → old + work_left looks now (length tables) ≤ new + work_left looks tables (length tables) → most_work + work_left looks now all ≤ new + program_work looks rel all
left_kept looks rel tables now old new all size left spent =
    let step = subst (λ n. old + work_left looks now n ≤ new + work_left looks tables n) size spent in
    omega (arith, left, step)

pub left_none : (P : Program) (rel : ℕ → List PathData) (tables : List (List Basic)) (left : ℕ) → length tables ≡ length P.methods
    → most_work + work_left (look_work P) tables (length P.methods) ≤ left + program_work (look_work P) rel (length P.methods) → left < work_left (look_work P) tables (length tables) → IsOverWork P rel
left_none P rel tables left size enough less =
    let step = subst (λ n. left < work_left (look_work P) tables n) size less in
    omega (arith, enough, step)

-- Of overriding methods each is counted at most once.

-- how many of so many numbers from the first on pass a test
hits : (ℕ → Bool) → ℕ → ℕ → ℕ
hits test first count = length (filter test (numbers first count))

hit_first : (test : ℕ → Bool) (first count : ℕ) (t : Bool) → test first ≡ t → hits test (first + 1) count ≤ hits test first (suc count)
unfolding hits
hit_first test first count true e = rw e (omega arith)
hit_first test first count false e = rw e (omega arith)

hit_here : (test : ℕ → Bool) (first count : ℕ) → test first ≡ true → suc (hits test (first + 1) count) ≤ hits test first (suc count)
unfolding hits
hit_here test first count e = rw e (omega arith)

-- one that passes, and all behind it
hit_later : (test : ℕ → Bool) (first k count : ℕ) → test (first + k) ≡ true → suc (hits test (first + k + 1) count) ≤ hits test first (k + suc count)
hit_later test first zero count e =
    let same : first + 0 ≡ first = omega arith in
    let all : 0 + suc count ≡ suc count = omega arith in
    let here = subst (λ n. suc (hits test (n + 1) count) ≤ hits test first (suc count)) (sym same) (hit_here test first count (ap test (sym same) ∙ e)) in
    subst (λ n. suc (hits test (first + 0 + 1) count) ≤ hits test first n) (sym all) here
hit_later test first (suc k) count e =
    let same : first + 1 + k ≡ first + suc k = omega arith in
    let rest = hit_later test (first + 1) k count (ap test same ∙ e) in
    let all : suc (k + suc count) ≡ suc k + suc count = omega arith in
    let here = subst (λ n. hits test (first + 1) (k + suc count) ≤ hits test first n) all (hit_first test first (k + suc count) (test first) refl) in
    let moved : suc (hits test (first + suc k + 1) count) ≤ hits test (first + 1) (k + suc count) = subst (λ n. suc (hits test (n + 1) count) ≤ hits test (first + 1) (k + suc count)) same rest in
    omega (arith, moved, here)

rising_hits : (test : ℕ → Bool) (all : ℕ) (xs : List ℕ) (least : ℕ) → ((x : ℕ) → Contains xs x → (test x ≡ true) × (x < all)) → rising least xs ≤ hits test least (all - least)
rising_hits test all [] least each = omega arith
rising_hits test all (x ∷ xs) least each = elim (nat_le least x) as (λ b. nat_le least x ≡ b → (if b then suc (rising (suc x) xs) else rising least xs) ≤ hits test least (all - least)) [
  | true ↦ λ e.
      let above = leb-true least x e in
      let here = each x (0, omega arith, refl) in
      let rest = rising_hits test all xs (suc x) later in
      let k = x - least in
      let at : least + k ≡ x = omega (arith, above) in
      let more = hit_later test least k (all - suc x) (ap test at ∙ here.0) in
      let count : k + suc (all - suc x) ≡ all - least = omega (arith, above, here.1) in
      let next : least + k + 1 ≡ suc x = omega (arith, above) in
      let counted : suc (hits test (suc x) (all - suc x)) ≤ hits test least (all - least) =
      subst (λ n. suc (hits test n (all - suc x)) ≤ hits test least (all - least)) next (subst (λ n. suc (hits test (least + k + 1) (all - suc x)) ≤ hits test least n) count more) in
      omega (arith, rest, counted)
  | false ↦ λ e. rising_hits test all xs least later
] refl
  where
    later : (y : ℕ) → Contains xs y → (test y ≡ true) × (y < all)
    later y has = each y (suc has.0, omega (arith, has.1), has.2)

rising_few : (P : Program) (m : ℕ) (row : List ℕ) → ((over : ℕ) → Contains row over → Overrides P over m) → rising 0 row ≤ length (overriding P m)
unfolding hits
rising_few P m row each =
    let test : ℕ → Bool = λ over. overrides P over m in
    let all : length P.methods - 0 ≡ length P.methods = omega arith in
    subst (λ n. rising 0 row ≤ hits test 0 n) all
    (rising_hits test (length P.methods) row 0 (λ over has. (let pair = each over has in (is_overrides P over m pair, slice_get_within P.methods over pair.method pair.is))))

pub row_few : (P : Program) (rows : List (List ℕ)) (m : ℕ) (row : List ℕ) → AreOverriders P rows → row ≡ row_at rows m → rising 0 row ≤ length (overriding P m)
row_few P rows m row overriders is = rising_few P m row (λ over has. (overriders m over).0 (subst (λ xs. Contains xs over) is has))
