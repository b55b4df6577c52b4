-- A table by addresses is the map of its entries.
use Rattle.std.proofs.Common.{◌≡◌, ◌≢◌, ℕ, zero, suc, ◌+◌, ◌-◌, ◌<◌, ◌≤◌, Bool, true, false, ◌&&◌, List, [], ◌∷◌, ◌++◌, length, refl, sym, ap, subst, ◌∙◌, arith, ◌==◌}
use Rattle.std.specs.declared.alloc.AllocError.{AllocError}
use Rattle.std.specs.Prelude.{Result, Ok, Err, OnOk, OnErr, Option, Some, None, IsSome, slice_get, cond, T, is_some}
use Rattle.std.proofs.Math.ListN.{set}
use Rattle.std.proofs.lemmas.Bool.Decides.{nat_tests}
use Rattle.std.specs.Ordering.{is_lt, is_eq, eq_by_cmp}
use Rattle.std.specs.FinMap as M
use Rattle.std.specs.FinMap.{FinMap, find, is_sorted, get-from_sorted, entries-from_sorted, get-insert, get-remove, same_map, len-insert, len-remove, len-entries, empty_of_len}
use Rattle.std.specs.FinMap.Entries.{below_all}
use Rattle.std.proofs.lemmas.Bool.{eqb-true, eqb-false}
use Rattle.state.specs.declared.value.Address.{Address}
use Rattle.state.specs.Memory.{address_cmp}
use Rattle.state.specs.Slots.{slot_at, in_row, grid_at, slots_entries, rows_entries, grid_map, SlotWritten, IsPlaced}
use Rattle.state.proofs.Addresses.{address_total, address_exact, apart, alike}
use Rattle.state.proofs.Numbering.{less_is, first_fact, second_fact}

number_test : (a b : ℕ) → a ≢ b → (a == b) ≡ false
number_test a b other = grind (arith, nat_tests)

pub key_test : (b a : Address) → eq_by_cmp address_cmp b a ≡ ((b.thread == a.thread) && (b.count == a.count))
key_test b a = elim (b.thread == a.thread) as (λ x. (b.thread == a.thread) ≡ x → eq_by_cmp address_cmp b a ≡ (x && (b.count == a.count))) [
  | false ↦ λ e. apart a b (λ same. eqb-false _ _ e (ap (λ c. c.thread) same))
  | true ↦ λ e. elim (b.count == a.count) as (λ y. (b.count == a.count) ≡ y → eq_by_cmp address_cmp b a ≡ y) [
    | false ↦ λ f. apart a b (λ same. eqb-false _ _ f (ap (λ c. c.count) same))
    | true ↦ λ f.
        let same : b ≡ a = λ j. record { thread = eqb-true b.thread a.thread e j; count = eqb-true b.count a.count f j } in
        subst (λ c. eq_by_cmp address_cmp b c ≡ true) same (alike b)
  ] refl
] refl

both : (a b : Bool) → T a → T b → T (a && b)
both true b p q = q
both false b p q = p

earlier_count : (t c d : ℕ) → c < d → is_lt (address_cmp (record { thread = t; count = c }) (record { thread = t; count = d })) ≡ true
earlier_count t c d below = grind (arith, nat_tests)

earlier_thread : (t u c d : ℕ) → t < u → is_lt (address_cmp (record { thread = t; count = c }) (record { thread = u; count = d })) ≡ true
earlier_thread t u c d below = grind (arith, nat_tests)

true_test : (b : Bool) → b ≡ true → T b
true_test true e = tt
true_test false e = absurd cc

two_tests : {A : Type 0} (p q : Bool) (x y z : A) → (p ≡ true → z ≡ y) → cond p (cond q x y) z ≡ cond (p && q) x z
two_tests true true x y z h = refl
two_tests true false x y z h = sym (h refl)
two_tests false q x y z h = refl

one_test : {A : Type 0} (p : Bool) (x z : A) → (p ≡ true → x ≡ z) → cond p x z ≡ z
one_test true x z h = h refl
one_test false x z h = refl

module _ {X : Type 0} where
  below_append : (x : Address) (xs ys : List (Address × X)) → T (below_all address_cmp x xs) → T (below_all address_cmp x ys) → T (below_all address_cmp x (xs ++ ys))
  below_append x [] ys h k = k
  below_append x (e ∷ xs) ys h k = both _ _ (true_test _ (first_fact _ _ h)) (below_append x xs ys (second_fact (is_lt (address_cmp x e.0)) _ h) k)

  below_slots : (t c d : ℕ) (slots : List (Option X)) → c < d → T (below_all address_cmp (record { thread = t; count = c }) (slots_entries t d slots))
  below_slots t c d [] below = tt
  below_slots t c d (None ∷ slots) below = below_slots t c (d + 1) slots (omega arith)
  below_slots t c d (Some v ∷ slots) below = both _ _ (true_test _ (earlier_count t c d below)) (below_slots t c (d + 1) slots (omega arith))

  below_row : (t u c d : ℕ) (slots : List (Option X)) → t < u → T (below_all address_cmp (record { thread = t; count = c }) (slots_entries u d slots))
  below_row t u c d [] below = tt
  below_row t u c d (None ∷ slots) below = below_row t u c (d + 1) slots below
  below_row t u c d (Some v ∷ slots) below = both _ _ (true_test _ (earlier_thread t u c d below)) (below_row t u c (d + 1) slots below)

  below_rows : (t u c : ℕ) (rows : List (List (Option X))) → t < u → T (below_all address_cmp (record { thread = t; count = c }) (rows_entries u rows))
  below_rows t u c [] below = tt
  below_rows t u c (slots ∷ rows) below =
      below_append (record { thread = t; count = c }) (slots_entries u 0 slots) (rows_entries (u + 1) rows) (below_row t u c 0 slots below) (below_rows t (u + 1) c rows (omega arith))

  sorted_slots : (t c : ℕ) (slots : List (Option X)) (rest : List (Address × X)) → ((d : ℕ) → T (below_all address_cmp (record { thread = t; count = d }) rest)) → T (is_sorted address_cmp rest)
      → T (is_sorted address_cmp (slots_entries t c slots ++ rest))
  sorted_slots t c [] rest under sorted = sorted
  sorted_slots t c (None ∷ slots) rest under sorted = sorted_slots t (c + 1) slots rest under sorted
  sorted_slots t c (Some v ∷ slots) rest under sorted =
      both _ _ (below_append (record { thread = t; count = c }) (slots_entries t (c + 1) slots) rest (below_slots t c (c + 1) slots (omega arith)) (under c))
      (sorted_slots t (c + 1) slots rest under sorted)

  pub sorted_rows : (t : ℕ) (rows : List (List (Option X))) → T (is_sorted address_cmp (rows_entries t rows))
  sorted_rows t [] = tt
  sorted_rows t (slots ∷ rows) = sorted_slots t 0 slots (rows_entries (t + 1) rows) (λ d. below_rows t (t + 1) d rows (omega arith)) (sorted_rows (t + 1) rows)

  find_below : (q : Address) (es : List (Address × X)) → T (below_all address_cmp q es) → find address_cmp q es ≡ None
  find_below q [] h = refl
  find_below q (e ∷ es) h =
      ap (λ b. cond b (Some e.1) (find address_cmp q es)) (ap is_eq (less_is (address_cmp q e.0) (first_fact _ _ h)))
      ∙ find_below q es (second_fact (is_lt (address_cmp q e.0)) _ h)

  -- an entry of another key is passed over
  passed : (q a : Address) (v : X) (es : List (Address × X)) → q ≢ a → find address_cmp q ((a, v) ∷ es) ≡ find address_cmp q es
  passed q a v es other = ap (λ b. cond b (Some v) (find address_cmp q es)) (apart a q other)

  find_other : (q : Address) (t c : ℕ) (slots : List (Option X)) (rest : List (Address × X)) → q.thread ≢ t → find address_cmp q (slots_entries t c slots ++ rest) ≡ find address_cmp q rest
  find_other q t c [] rest other = refl
  find_other q t c (None ∷ slots) rest other = find_other q t (c + 1) slots rest other
  find_other q t c (Some v ∷ slots) rest other =
      passed q (record { thread = t; count = c }) v (slots_entries t (c + 1) slots ++ rest) (λ same. other (ap (λ a. a.thread) same)) ∙ find_other q t (c + 1) slots rest other

  find_past : (t c n : ℕ) (slots : List (Option X)) (rest : List (Address × X)) → n < c → find address_cmp (record { thread = t; count = n }) rest ≡ None
      → find address_cmp (record { thread = t; count = n }) (slots_entries t c slots ++ rest) ≡ None
  find_past t c n [] rest below none = none
  find_past t c n (None ∷ slots) rest below none = find_past t (c + 1) n slots rest (omega arith) none
  find_past t c n (Some v ∷ slots) rest below none =
      passed (record { thread = t; count = n }) (record { thread = t; count = c }) v (slots_entries t (c + 1) slots ++ rest) (λ same. let e = ap (λ a. a.count) same in omega arith)
      ∙ find_past t (c + 1) n slots rest (omega arith) none

  find_here : (t c k n : ℕ) (slots : List (Option X)) (rest : List (Address × X)) → n ≡ c + k → find address_cmp (record { thread = t; count = n }) rest ≡ None
      → find address_cmp (record { thread = t; count = n }) (slots_entries t c slots ++ rest) ≡ slot_at slots k
  find_here t c k n [] rest is none = none
  find_here t c zero n (None ∷ slots) rest is none = find_past t (c + 1) n slots rest (omega arith) none
  find_here t c zero n (Some v ∷ slots) rest is none =
      let same : n ≡ c = omega arith in
      ap (λ b. cond b (Some v) (find address_cmp (record { thread = t; count = n }) (slots_entries t (c + 1) slots ++ rest)))
      (subst (λ m. eq_by_cmp address_cmp (record { thread = t; count = n }) (record { thread = t; count = m }) ≡ true) same (alike (record { thread = t; count = n })))
  find_here t c (suc k) n (None ∷ slots) rest is none = find_here t (c + 1) k n slots rest (omega arith) none
  find_here t c (suc k) n (Some v ∷ slots) rest is none =
      passed (record { thread = t; count = n }) (record { thread = t; count = c }) v (slots_entries t (c + 1) slots ++ rest) (λ same. let e = ap (λ a. a.count) same in omega arith)
      ∙ find_here t (c + 1) k n slots rest (omega arith) none

  find_rows : (t k n c : ℕ) (rows : List (List (Option X))) → n ≡ t + k → find address_cmp (record { thread = n; count = c }) (rows_entries t rows) ≡ in_row (slice_get rows k) c
  find_rows t k n c [] is = refl
  find_rows t zero n c (slots ∷ rows) is =
      let same : t ≡ n = omega arith in
      subst (λ m. find address_cmp (record { thread = m; count = c }) (slots_entries t 0 slots ++ rows_entries (t + 1) rows) ≡ slot_at slots c) same
      (find_here t 0 c c slots (rows_entries (t + 1) rows) (omega arith) (find_below (record { thread = t; count = c }) (rows_entries (t + 1) rows) (below_rows t (t + 1) c rows (omega arith))))
  find_rows t (suc k) n c (slots ∷ rows) is =
      find_other (record { thread = n; count = c }) t 0 slots (rows_entries (t + 1) rows) (λ same. omega arith) ∙ find_rows (t + 1) k n c rows (omega arith)

  -- the table's value at an address
  pub get_grid : (rows : List (List (Option X))) (a : Address) → M.get (grid_map rows) a ≡ grid_at rows a
  get_grid rows a = get-from_sorted address_cmp (rows_entries 0 rows) a (sorted_rows 0 rows) ∙ find_rows 0 a.thread a.thread a.count rows (omega arith)

  pub entries_grid : (rows : List (List (Option X))) → M.entries (grid_map rows) ≡ rows_entries 0 rows
  entries_grid rows = entries-from_sorted address_cmp (rows_entries 0 rows) (sorted_rows 0 rows)

  pub len_grid : (rows : List (List (Option X))) → M.len (grid_map rows) ≡ length (rows_entries 0 rows)
  len_grid rows = len-entries (grid_map rows) ∙ ap length (entries_grid rows)

  pub empty_grid : ◌≡◌ {A = FinMap address_cmp X} (grid_map []) M.empty
  empty_grid = empty_of_len (grid_map []) (len_grid [])

  pub placed_map : (old new : List (List (Option X))) (a : Address) (v : X) → IsPlaced old new a (Some v) → grid_map new ≡ M.insert (grid_map old) a v
  placed_map old new a v placed = same_map address_total address_exact (grid_map new) (M.insert (grid_map old) a v)
      (λ q. get_grid new q ∙ placed q ∙ ap (cond (eq_by_cmp address_cmp q a) (Some v)) (sym (get_grid old q)) ∙ sym (get-insert address_total (grid_map old) a v q))

  pub cleared_map : (old new : List (List (Option X))) (a : Address) → IsPlaced old new a None → grid_map new ≡ M.remove (grid_map old) a
  cleared_map old new a placed = same_map address_total address_exact (grid_map new) (M.remove (grid_map old) a)
      (λ q. get_grid new q ∙ placed q ∙ ap (cond (eq_by_cmp address_cmp q a) None) (sym (get_grid old q)) ∙ sym (get-remove address_total (grid_map old) a q))

  pub same_grid : (old new : List (List (Option X))) → ((b : Address) → grid_at new b ≡ grid_at old b) → grid_map new ≡ grid_map old
  same_grid old new same = same_map address_total address_exact (grid_map new) (grid_map old) (λ q. get_grid new q ∙ same q ∙ sym (get_grid old q))

  if_none : (o : Option X) (n : ℕ) → o ≡ None → cond (is_some o) n (n + 1) ≡ n + 1
  if_none None n e = refl
  if_none (Some x) n e = absurd cc

  if_some : (o : Option X) (n m : ℕ) → IsSome o → cond (is_some o) n m ≡ n
  if_some None n m e = absurd cc
  if_some (Some x) n m e = refl

  pub put_length : (old new : List (List (Option X))) (a : Address) (v : X) → IsPlaced old new a (Some v) → grid_at old a ≡ None → length (rows_entries 0 new) ≡ length (rows_entries 0 old) + 1
  put_length old new a v placed none =
      sym (len_grid new) ∙ ap M.len (placed_map old new a v placed) ∙ len-insert address_total (grid_map old) a v
      ∙ if_none (M.get (grid_map old) a) (M.len (grid_map old)) (get_grid old a ∙ none) ∙ ap (λ n. n + 1) (len_grid old)

  pub replace_length : (old new : List (List (Option X))) (a : Address) (v : X) → IsPlaced old new a (Some v) → IsSome (grid_at old a) → length (rows_entries 0 new) ≡ length (rows_entries 0 old)
  replace_length old new a v placed some =
      sym (len_grid new) ∙ ap M.len (placed_map old new a v placed) ∙ len-insert address_total (grid_map old) a v
      ∙ if_some (M.get (grid_map old) a) (M.len (grid_map old)) (M.len (grid_map old) + 1) (subst (λ o. IsSome o) (sym (get_grid old a)) some) ∙ len_grid old

  pub clear_length : (old new : List (List (Option X))) (a : Address) → IsPlaced old new a None → IsSome (grid_at old a) → length (rows_entries 0 new) ≡ length (rows_entries 0 old) - 1
  clear_length old new a placed some =
      sym (len_grid new) ∙ ap M.len (cleared_map old new a placed) ∙ len-remove address_total (grid_map old) a
      ∙ if_some (M.get (grid_map old) a) (M.len (grid_map old) - 1) (M.len (grid_map old)) (subst (λ o. IsSome o) (sym (get_grid old a)) some) ∙ ap (λ n. n - 1) (len_grid old)

  pub same_length : (old new : List (List (Option X))) → ((b : Address) → grid_at new b ≡ grid_at old b) → length (rows_entries 0 new) ≡ length (rows_entries 0 old)
  same_length old new same = sym (len_grid new) ∙ ap M.len (same_grid old new same) ∙ len_grid old

  pub some_row : (rows : List (List (Option X))) (a : Address) → IsSome (grid_at rows a) → a.thread < length rows
  some_row rows a some = inside rows a.thread some
    where
      inside : (rows : List (List (Option X))) (t : ℕ) → IsSome (in_row (slice_get rows t) a.count) → t < length rows
      inside [] t some = absurd cc
      inside (slots ∷ rows) zero some = omega arith
      inside (slots ∷ rows) (suc t) some = let p = inside rows t some in omega arith

  row_set : (rows : List (List (Option X))) (t u c : ℕ) (slots : List (Option X)) → t < length rows → in_row (slice_get (set rows t slots) u) c ≡ cond (u == t) (slot_at slots c) (in_row (slice_get rows u) c)
  row_set [] t u c slots below = absurd (omega arith)
  row_set (s ∷ rows) zero zero c slots below = refl
  row_set (s ∷ rows) zero (suc u) c slots below = ap (λ b. cond b (slot_at slots c) (in_row (slice_get rows u) c)) (sym (number_test (suc u) 0 (λ e. omega arith)))
  row_set (s ∷ rows) (suc t) zero c slots below = ap (λ b. cond b (slot_at slots c) (slot_at s c)) (sym (number_test 0 (suc t) (λ e. omega arith)))
  row_set (s ∷ rows) (suc t) (suc u) c slots below = row_set rows t u c slots (omega arith) ∙ ap (λ b. cond b (slot_at slots c) (in_row (slice_get rows u) c)) (shifted u t)
    where
      shifted : (u t : ℕ) → (u == t) ≡ (suc u == suc t)
      shifted u t = grind (arith, nat_tests)

  row_get : (rows : List (List (Option X))) (t c : ℕ) (slots : List (Option X)) → slice_get rows t ≡ Some slots → in_row (slice_get rows t) c ≡ slot_at slots c
  row_get rows t c slots is = ap (λ o. in_row o c) is

  -- a written slot of a row is a written slot of the table
  pub set_placed : (rows : List (List (Option X))) (a : Address) (slots slots' : List (Option X)) (o : Option X) → slice_get rows a.thread ≡ Some slots → a.thread < length rows
      → SlotWritten slots slots' a.count o → IsPlaced rows (set rows a.thread slots') a o
  set_placed rows a slots slots' o is below written b =
      row_set rows a.thread b.thread b.count slots' below
      ∙ ap (λ x. cond (b.thread == a.thread) x (grid_at rows b)) (written b.count)
      ∙ two_tests (b.thread == a.thread) (b.count == a.count) o (slot_at slots b.count) (grid_at rows b)
      (λ e. ap (λ t. in_row (slice_get rows t) b.count) (eqb-true b.thread a.thread e) ∙ row_get rows a.thread b.count slots is)
      ∙ ap (λ x. cond x o (grid_at rows b)) (sym (key_test b a))

  -- the row of an entry that is there
  pub some_slot : (rows : List (List (Option X))) (a : Address) (slots : List (Option X)) → slice_get rows a.thread ≡ Some slots → IsSome (grid_at rows a) → IsSome (slot_at slots a.count)
  some_slot rows a slots is some = subst (λ o. IsSome o) (row_get rows a.thread a.count slots is) some

  -- the free slot of an address, in rows of which some were added
  pub free_slot : (old mid : List (List (Option X))) (a : Address) (slots : List (Option X)) → ((b : Address) → grid_at mid b ≡ grid_at old b) → slice_get mid a.thread ≡ Some slots → grid_at old a ≡ None
      → slot_at slots a.count ≡ None
  free_slot old mid a slots same is none = sym (row_get mid a.thread a.count slots is) ∙ same a ∙ none

  pub placed_put : (r : Result (Unit {0}) AllocError) (old mid : List (List (Option X))) (a : Address) (slots slots' : List (Option X)) (v : X) → ((b : Address) → grid_at mid b ≡ grid_at old b)
      → slice_get mid a.thread ≡ Some slots → a.thread < length mid → OnOk r (SlotWritten slots slots' a.count (Some v)) → OnOk r (IsPlaced old (set mid a.thread slots') a (Some v))
  placed_put (Err e) old mid a slots slots' v same is below h = tt
  placed_put (Ok u) old mid a slots slots' v same is below h =
      λ b. set_placed mid a slots slots' (Some v) is below h b ∙ ap (cond (eq_by_cmp address_cmp b a) (Some v)) (same b)

  pub kept_put : (r : Result (Unit {0}) AllocError) (old mid : List (List (Option X))) (a : Address) (slots slots' : List (Option X)) → ((b : Address) → grid_at mid b ≡ grid_at old b)
      → slice_get mid a.thread ≡ Some slots → a.thread < length mid → OnErr r ((c : ℕ) → slot_at slots' c ≡ slot_at slots c) → OnErr r ((b : Address) → grid_at (set mid a.thread slots') b ≡ grid_at old b)
  kept_put (Ok u) old mid a slots slots' same is below h = tt
  kept_put (Err e) old mid a slots slots' same is below h =
      λ b. row_set mid a.thread b.thread b.count slots' below
      ∙ one_test (b.thread == a.thread) (slot_at slots' b.count) (grid_at mid b)
      (λ t. h b.count ∙ sym (row_get mid a.thread b.count slots is) ∙ sym (ap (λ u. in_row (slice_get mid u) b.count) (eqb-true b.thread a.thread t)))
      ∙ same b

  -- where an entry is there the table has some
  pub some_entries : (rows : List (List (Option X))) (a : Address) → IsSome (grid_at rows a) → 1 ≤ length (rows_entries 0 rows)
  some_entries rows a some = has (rows_entries 0 rows)
      (subst (λ o. IsSome o) (sym (sym (get-from_sorted address_cmp (rows_entries 0 rows) a (sorted_rows 0 rows)) ∙ get_grid rows a)) some)
    where
      has : (es : List (Address × X)) → IsSome (find address_cmp a es) → 1 ≤ length es
      has [] h = absurd cc
      has (e ∷ es) h = omega arith

  -- an object that was changed in its slot
  pub changed_length : (old new : List (List (Option X))) (a : Address) (f : X → X) → ((o : X) → grid_at old a ≡ Some o → IsPlaced old new a (Some (f o))) → IsSome (grid_at old a)
      → length (rows_entries 0 new) ≡ length (rows_entries 0 old)
  changed_length old new a f placed some =
      elim (grid_at old a) as (λ g. grid_at old a ≡ g → IsSome g → length (rows_entries 0 new) ≡ length (rows_entries 0 old)) [
        | None ↦ λ e h. absurd cc
        | Some o ↦ λ e h. replace_length old new a (f o) (placed o e) some
      ] refl some

  pub changed_row : (rows : List (List (Option X))) (a : Address) (slots slots' : List (Option X)) (f : X → X) → slice_get rows a.thread ≡ Some slots → a.thread < length rows
      → ((o : X) → slot_at slots a.count ≡ Some o → SlotWritten slots slots' a.count (Some (f o))) → (o : X) → grid_at rows a ≡ Some o → IsPlaced rows (set rows a.thread slots') a (Some (f o))
  changed_row rows a slots slots' f is below written o here =
      set_placed rows a slots slots' (Some (f o)) is below (written o (sym (row_get rows a.thread a.count slots is) ∙ here))

pub on_err : {A E : Type 0} {P : Type 0} (r : Result A E) → P → OnErr r P
on_err (Ok x) p = tt
on_err (Err e) p = p
