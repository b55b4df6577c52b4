-- Rows of basics, one place more at a time.
use Rattle.std.proofs.Common.{◌≡◌, ℕ, zero, suc, ◌+◌, ◌-◌, ◌<◌, ◌≤◌, true, false, ◌&&◌, ◌||◌, List, [], ◌∷◌, ◌++◌, length, length-append, take, drop, get_or, slice_get, None, refl, sym, ap, subst, ◌∙◌, arith, append_assoc}
use Rattle.std.specs.Prelude.{Result, Ok, Err, OnOk}
use Rattle.std.proofs.lemmas.List.Folds.{list_any-append}
use Rattle.std.proofs.Math.Bool.{or-false}
use Rattle.std.proofs.Math.Seq.{take-append_seam, drop-append_seam}
use Rattle.std.proofs.Math.Numerals.{add-one}
use Rattle.paths.specs.Paths.{PathData, path_eq}
use Rattle.paths.proofs.PathOrder.{eq_is}
use Rattle.algebra.specs.declared.basic.Basic.{Basic}
use Rattle.algebra.specs.declared.basic.Basic.TheVariants.{Const}
use Rattle.algebra.specs.HeldPaths.{Held, has_path}
use Rattle.infer.specs.Cells.{at_parts, below_some, are_below, join_some, joined_tables}

drop_none : (i : ℕ) → drop {A = Basic} i [] ≡ []
drop_none zero = refl
drop_none (suc i) = refl

below_next : (row table : List Basic) (i : ℕ) (d : Basic) → i < length row → are_below (drop i row) (drop i table) ≡ (below_some (get_or row i d) (slice_get table i) && are_below (drop (suc i) row) (drop (suc i) table))
below_next [] table i d below = absurd (omega arith)
below_next (b ∷ row) [] zero d below = refl
below_next (b ∷ row) (c ∷ table) zero d below = refl
below_next (b ∷ row) [] (suc i) d below = subst (λ t. are_below (drop i row) t ≡ (below_some (get_or row i d) None && are_below (drop (suc i) row) [])) (drop_none i) (below_next row [] i d (omega arith))
below_next (b ∷ row) (c ∷ table) (suc i) d below = below_next row table i d (omega arith)

-- at one place
pub below_step : (row table : List Basic) (i : ℕ) (d : Basic) → i < length row → are_below (drop i row) (drop i table) ≡ (below_some (get_or row i d) (slice_get table i) && are_below (drop (i + 1) row) (drop (i + 1) table))
below_step row table i d below = rw (add-one i) (below_next row table i d below)

-- a place that is below
pub below_more : (row table : List Basic) (i : ℕ) (d : Basic) → i < length row → true ≡ below_some (get_or row i d) (slice_get table i) → are_below (drop i row) (drop i table) ≡ are_below row table → are_below (drop (i + 1) row) (drop (i + 1) table) ≡ are_below row table
below_more row table i d below passes whole = ap (λ b. b && are_below (drop (i + 1) row) (drop (i + 1) table)) passes ∙ sym (below_step row table i d below) ∙ whole

-- a place that isn't below
pub below_fails : (row table : List Basic) (i : ℕ) (d : Basic) → i < length row → false ≡ below_some (get_or row i d) (slice_get table i) → are_below (drop i row) (drop i table) ≡ are_below row table → false ≡ are_below row table
below_fails row table i d below fails whole = ap (λ b. b && are_below (drop (i + 1) row) (drop (i + 1) table)) fails ∙ sym (below_step row table i d below) ∙ whole

joined_next : (row table : List Basic) (i : ℕ) (d : Basic) → i < length row → joined_tables (drop i row) (drop i table) ≡ join_some (get_or row i d) (slice_get table i) ∷ joined_tables (drop (suc i) row) (drop (suc i) table)
joined_next [] table i d below = absurd (omega arith)
joined_next (b ∷ row) [] zero d below = ap (λ bs. b ∷ bs) (sym (rest_alone row))
  where
    rest_alone : (bs : List Basic) → joined_tables bs [] ≡ bs
    rest_alone [] = refl
    rest_alone (c ∷ bs) = refl
joined_next (b ∷ row) (c ∷ table) zero d below = refl
joined_next (b ∷ row) [] (suc i) d below = subst (λ t. joined_tables (drop i row) t ≡ get_or row i d ∷ joined_tables (drop (suc i) row) []) (drop_none i) (joined_next row [] i d (omega arith))
joined_next (b ∷ row) (c ∷ table) (suc i) d below = joined_next row table i d (omega arith)

pub joined_step : (row table : List Basic) (i : ℕ) (d : Basic) → i < length row → joined_tables (drop i row) (drop i table) ≡ join_some (get_or row i d) (slice_get table i) ∷ joined_tables (drop (i + 1) row) (drop (i + 1) table)
joined_step row table i d below = rw (add-one i) (joined_next row table i d below)

-- one place more was joined
pub joined_more : (row table old new : List Basic) (i : ℕ) (b d : Basic) → i < length row → b ≡ join_some (get_or row i d) (slice_get table i) → new ≡ old ++ b ∷ []
    → old ++ joined_tables (drop i row) (drop i table) ≡ joined_tables row table → new ++ joined_tables (drop (i + 1) row) (drop (i + 1) table) ≡ joined_tables row table
joined_more row table old new i b d below is new_is so_far =
    ap (λ bs. bs ++ joined_tables (drop (i + 1) row) (drop (i + 1) table)) new_is ∙ append_assoc old (b ∷ []) (joined_tables (drop (i + 1) row) (drop (i + 1) table))
    ∙ ap (λ c. old ++ c ∷ joined_tables (drop (i + 1) row) (drop (i + 1) table)) is ∙ ap (λ bs. old ++ bs) (sym (joined_step row table i d below)) ∙ so_far

-- the parts without the first path, and those with it
pub parts_more : (f : List PathData → Basic) (old one two : List Basic) (held held1 held2 paths rest : List PathData) (p : PathData) → paths ≡ p ∷ rest
    → held2 ≡ held1 ++ p ∷ [] → held1 ≡ held → one ≡ old ++ at_parts f held rest → two ≡ one ++ at_parts f held2 rest → two ≡ old ++ at_parts f held paths
parts_more f old one two held held1 held2 paths rest p paths_are held2_is held1_is one_is two_is =
    two_is ∙ ap (λ bs. bs ++ at_parts f held2 rest) one_is ∙ append_assoc old (at_parts f held rest) (at_parts f held2 rest)
    ∙ ap (λ hs. old ++ (at_parts f held rest ++ at_parts f hs rest)) (held2_is ∙ ap (λ hs. hs ++ p ∷ []) held1_is) ∙ ap (λ ps. old ++ at_parts f held ps) (sym paths_are)

-- a path that is held already adds nothing to the set
held_again : (held : List PathData) (p q : PathData) → has_path held p ≡ true → has_path (held ++ p ∷ []) q ≡ has_path held q
held_again held p q has = list_any-append (λ r. path_eq r q) held (p ∷ []) ∙ elim (path_eq p q) as (λ b. path_eq p q ≡ b → (has_path held q || (b || false)) ≡ has_path held q) [
  | true ↦ λ e. let here : has_path held q ≡ true = ap (has_path held) (sym (eq_is p q e)) ∙ has in ap (λ b. b || true) here ∙ sym here
  | false ↦ λ e. or-false (has_path held q)
] refl

-- equal sets have equal basics at all parts
parts_same : (f : Held → Basic) (one two paths : List PathData) → ((q : PathData) → has_path one q ≡ has_path two q) → at_parts (λ qs. f (has_path qs)) one paths ≡ at_parts (λ qs. f (has_path qs)) two paths
parts_same f one two [] same = ap (λ H. f H ∷ []) (λ i q. same q i)
parts_same f one two (p ∷ ps) same = let first = parts_same f one two ps same in let second = parts_same f (one ++ p ∷ []) (two ++ p ∷ []) ps (same_more one two p same) in λ i. first i ++ second i
  where
    same_more : (xs ys : List PathData) (r : PathData) → ((q : PathData) → has_path xs q ≡ has_path ys q) → (q : PathData) → has_path (xs ++ r ∷ []) q ≡ has_path (ys ++ r ∷ []) q
    same_more xs ys r equal q = list_any-append (λ s. path_eq s q) xs (r ∷ []) ∙ ap (λ b. b || (path_eq r q || false)) (equal q) ∙ sym (list_any-append (λ s. path_eq s q) ys (r ∷ []))

-- the parts without a path that is held already, twice
pub parts_repeated : {E : Type 0} (result : Result (Unit {0}) E) (f : Held → Basic) (old one two : List Basic) (held paths rest : List PathData) (p : PathData) (first : ℕ) → paths ≡ p ∷ rest → has_path held p ≡ true → first ≡ length old
    → one ≡ old ++ at_parts (λ qs. f (has_path qs)) held rest → OnOk result (two ≡ one ++ drop first one) → OnOk result (two ≡ old ++ at_parts (λ qs. f (has_path qs)) held paths)
parts_repeated (Err e) f old one two held paths rest p first paths_are has first_is one_is repeated = repeated
parts_repeated (Ok a) f old one two held paths rest p first paths_are has first_is one_is repeated =
    let parts = at_parts (λ qs. f (has_path qs)) held rest in
    repeated ∙ ap (λ n. one ++ drop n one) first_is ∙ ap (λ bs. bs ++ drop (length old) bs) one_is ∙ ap (λ bs. (old ++ parts) ++ bs) (drop-append_seam old parts) ∙ append_assoc old parts parts
    ∙ ap (λ bs. old ++ (parts ++ bs)) (parts_same f held (held ++ p ∷ []) rest λ q. sym (held_again held p q has)) ∙ ap (λ ps. old ++ at_parts (λ qs. f (has_path qs)) held ps) (sym paths_are)

pub consts_longer : (old one : List Basic) (rest : List PathData) (first : ℕ) → first ≡ length old → ((held : List PathData) → one ≡ old ++ at_parts (λ qs. Const) held rest) → first ≤ length one
consts_longer old one rest first first_is one_is = omega (arith, first_is, ap length (one_is []), length-append old (at_parts (λ qs. Const) [] rest))

-- const at all parts, twice
pub consts_repeated : {E : Type 0} (result : Result (Unit {0}) E) (old one two : List Basic) (paths rest : List PathData) (p : PathData) (first : ℕ) → paths ≡ p ∷ rest → first ≡ length old
    → ((held : List PathData) → one ≡ old ++ at_parts (λ qs. Const) held rest) → OnOk result (two ≡ one ++ drop first one) → OnOk result ((held : List PathData) → two ≡ old ++ at_parts (λ qs. Const) held paths)
consts_repeated (Err e) old one two paths rest p first paths_are first_is one_is repeated = repeated
consts_repeated (Ok a) old one two paths rest p first paths_are first_is one_is repeated = λ held.
    let parts = at_parts (λ qs. Const) held rest in
    let others = at_parts (λ qs. Const) (held ++ p ∷ []) rest in
    repeated ∙ ap (λ n. one ++ drop n one) first_is ∙ (let front = one_is held in let back = one_is (held ++ p ∷ []) in λ i. front i ++ drop (length old) (back i))
    ∙ ap (λ bs. (old ++ parts) ++ bs) (drop-append_seam old others) ∙ append_assoc old parts others ∙ ap (λ ps. old ++ at_parts (λ qs. Const) held ps) (sym paths_are)

-- what was put behind a list and taken away again leaves the list
pub put_and_taken : {X : Type 0} (old first put second taken : List X) (x : X) (count : ℕ) → first ≡ old → put ≡ first ++ x ∷ [] → second ≡ put → count ≡ length second → taken ≡ take (count - 1) second → taken ≡ old
put_and_taken old first put second taken x count first_is put_is second_is count_is taken_is =
    let all = second_is ∙ put_is ∙ ap (λ xs. xs ++ x ∷ []) first_is in
    let size = ap length all ∙ length-append old (x ∷ []) in
    let less : count - 1 ≡ length old = omega (arith, size, count_is) in
    taken_is ∙ (λ i. take (less i) (all i)) ∙ take-append_seam old (x ∷ [])
