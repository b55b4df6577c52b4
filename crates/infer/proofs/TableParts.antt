-- Tables over the parts of a list of paths: their entries, place by place.
use Rattle.std.proofs.Common.{◌≡◌, ℕ, zero, suc, ◌+◌, ◌-◌, ◌/◌, Bool, true, false, ◌&&◌, List, [], ◌∷◌, ◌++◌, length, filter, map, take, drop, refl, sym, ap, subst, ◌∙◌, arith, ◌⊎◌, inl, inr, append_assoc, append-nil}
use Rattle.std.specs.Prelude.{if◌then◌else◌}
use Rattle.std.proofs.lemmas.List.{length-append}
use Rattle.std.proofs.lemmas.List.Folds.{list_any-append}
use Rattle.std.proofs.lemmas.Bool.{and_from, or_cases, or_left, or_right}
use Rattle.paths.specs.Paths.{PathData, path_eq}
use Rattle.paths.proofs.PathOrder.{eq_is}
use Rattle.algebra.specs.declared.basic.Basic.{Basic}
use Rattle.algebra.specs.declared.basic.Basic.TheVariants.{Const}
use Rattle.algebra.specs.Basics.{below_of, join_of}
use Rattle.algebra.specs.HeldPaths.{Held, has_path}
use Rattle.algebra.specs.Tables.{first_entry, half_table, count_of_parts}
use Rattle.algebra.proofs.Halves.{half_is, half_sizes, half_lengths}
use Rattle.rules.specs.Rules.{IsSubset, AtMost}
use Rattle.rules.proofs.BasicLemmas.{below_itself, below_chain, join_mono}
use Rattle.rules.proofs.SetLemmas.{first, second}
use Rattle.rules.proofs.UniqueSets.{first_has}
use Rattle.infer.specs.Tables.{chosen}
use Rattle.infer.specs.Cells.{at_parts, are_below, joined_tables, table_falls}

-- Sets of paths as lists.

-- a path of the first list, or of the second
pub in_either : (xs ys : List PathData) (q : PathData) → has_path (xs ++ ys) q ≡ true → (has_path xs q ≡ true) ⊎ (has_path ys q ≡ true)
in_either xs ys q h = or_cases (has_path xs q) (has_path ys q) (sym (list_any-append (λ p. path_eq p q) xs ys) ∙ h)

pub in_first : (xs ys : List PathData) (q : PathData) → has_path xs q ≡ true → has_path (xs ++ ys) q ≡ true
in_first xs ys q h = list_any-append (λ p. path_eq p q) xs ys ∙ or_left (has_path xs q) (has_path ys q) h

pub in_second : (xs ys : List PathData) (q : PathData) → has_path ys q ≡ true → has_path (xs ++ ys) q ≡ true
in_second xs ys q h = list_any-append (λ p. path_eq p q) xs ys ∙ or_right (has_path xs q) (has_path ys q) h

pub later : (p : PathData) (ps : List PathData) (q : PathData) → has_path ps q ≡ true → has_path (p ∷ ps) q ≡ true
later p ps q h = or_right (path_eq p q) (has_path ps q) h

-- one more path in front is in a set that has it and all others
pub in_front : (p : PathData) (ps : List PathData) (K : Held) → K p ≡ true → IsSubset (has_path ps) K → IsSubset (has_path (p ∷ ps)) K
in_front p ps K has part q e = elim (or_cases (path_eq p q) (has_path ps q) e) as (λ _. K q ≡ true) [
  | inl same ↦ ap K (sym (eq_is p q same)) ∙ has
  | inr other ↦ part q other
]

in_filter_at : (H : Held) (x : PathData) (xs : List PathData) (b : Bool) → H x ≡ b → IsSubset (has_path (filter H xs)) H → IsSubset (has_path (if b then x ∷ filter H xs else filter H xs)) H
in_filter_at H x xs true passes rest = in_front x (filter H xs) H passes rest
in_filter_at H x xs false passes rest = rest

-- the listed paths of a set are in it, and in the list
pub in_filter : (H : Held) (xs : List PathData) → IsSubset (has_path (filter H xs)) H
in_filter H [] q e = absurd (let k : false ≡ true = e in cc)
in_filter H (x ∷ xs) q e = in_filter_at H x xs _ refl (in_filter H xs) q e

of_list_at : (H : Held) (x : PathData) (xs : List PathData) (b : Bool) → IsSubset (has_path (filter H xs)) (has_path xs) → IsSubset (has_path (if b then x ∷ filter H xs else filter H xs)) (has_path (x ∷ xs))
of_list_at H x xs true rest = in_front x (filter H xs) (has_path (x ∷ xs)) (first_has x xs) (λ q e. later x xs q (rest q e))
of_list_at H x xs false rest = λ q e. later x xs q (rest q e)

pub of_list : (H : Held) (xs : List PathData) → IsSubset (has_path (filter H xs)) (has_path xs)
of_list H [] q e = e
of_list H (x ∷ xs) q e = of_list_at H x xs (H x) (of_list H xs) q e

filter_has_at : (H : Held) (x : PathData) (xs : List PathData) (q : PathData) (b : Bool) → H x ≡ b → H q ≡ true → (has_path xs q ≡ true → has_path (filter H xs) q ≡ true) → has_path (x ∷ xs) q ≡ true → has_path (if b then x ∷ filter H xs else filter H xs) q ≡ true
filter_has_at H x xs q true passes kept rest h = elim (or_cases (path_eq x q) (has_path xs q) h) as (λ _. has_path (x ∷ filter H xs) q ≡ true) [
  | inl same ↦ or_left (path_eq x q) (has_path (filter H xs) q) same
  | inr other ↦ later x (filter H xs) q (rest other)
]
filter_has_at H x xs q false passes kept rest h = elim (or_cases (path_eq x q) (has_path xs q) h) as (λ _. has_path (filter H xs) q ≡ true) [
  | inl same ↦ absurd (let e : false ≡ true = sym passes ∙ ap H (eq_is x q same) ∙ kept in cc)
  | inr other ↦ rest other
]

-- a path of the set and of the list is one of the listed paths
pub filter_has : (H : Held) (xs : List PathData) (q : PathData) → H q ≡ true → has_path xs q ≡ true → has_path (filter H xs) q ≡ true
filter_has H [] q kept h = h
filter_has H (x ∷ xs) q kept h = filter_has_at H x xs q _ refl kept (filter_has H xs q kept) h

filter_part_at : (H K : Held) (x : PathData) (xs : List PathData) (q : PathData) (b c : Bool) → (b ≡ true → c ≡ true) → IsSubset (has_path (filter H xs)) (has_path (filter K xs))
    → has_path (if b then x ∷ filter H xs else filter H xs) q ≡ true → has_path (if c then x ∷ filter K xs else filter K xs) q ≡ true
filter_part_at H K x xs q true true grows rest h = elim (or_cases (path_eq x q) (has_path (filter H xs) q) h) as (λ _. has_path (x ∷ filter K xs) q ≡ true) [
  | inl same ↦ or_left (path_eq x q) (has_path (filter K xs) q) same
  | inr other ↦ later x (filter K xs) q (rest q other)
]
filter_part_at H K x xs q true false grows rest h = absurd (let e : false ≡ true = grows refl in cc)
filter_part_at H K x xs q false true grows rest h = later x (filter K xs) q (rest q h)
filter_part_at H K x xs q false false grows rest h = rest q h

-- more held paths leave more of the list
pub filter_part : (H K : Held) → IsSubset H K → (xs : List PathData) → IsSubset (has_path (filter H xs)) (has_path (filter K xs))
filter_part H K part [] q e = e
filter_part H K part (x ∷ xs) q e = filter_part_at H K x xs q (H x) (K x) (part x) (filter_part H K part xs) e

pub append_part : (hs xs ys : List PathData) → IsSubset (has_path xs) (has_path ys) → IsSubset (has_path (hs ++ xs)) (has_path (hs ++ ys))
append_part hs xs ys part q e = elim (in_either hs xs q e) as (λ _. has_path (hs ++ ys) q ≡ true) [
  | inl before ↦ in_first hs ys q before
  | inr after ↦ in_second hs ys q (part q after)
]

-- Entries of tables.

pub length_parts : (f : List PathData → Basic) (held ps : List PathData) → length (at_parts f held ps) ≡ count_of_parts ps
length_parts f held [] = refl
length_parts f held (p ∷ ps) = length-append (at_parts f held ps) (at_parts f (held ++ p ∷ []) ps) ∙ (λ i. length_parts f held ps i + length_parts f (held ++ p ∷ []) ps i)

-- what is said of each list within the held paths and those of the list is all that the parts tell
pub parts_within : (f g : List PathData → Basic) (held ps : List PathData) → ((qs : List PathData) → IsSubset (has_path qs) (has_path (held ++ ps)) → f qs ≡ g qs) → at_parts f held ps ≡ at_parts g held ps
parts_within f g held [] same = ap (λ b. b ∷ []) (same held (λ q e. in_first held [] q e))
parts_within f g held (p ∷ ps) same =
    let without = parts_within f g held ps (λ qs part. same qs (λ q e. append_part held ps (p ∷ ps) (later p ps) q (part q e))) in
    let with = parts_within f g (held ++ p ∷ []) ps (λ qs part. same qs (λ q e. subst (λ hs. has_path hs q ≡ true) (append_assoc held (p ∷ []) ps) (part q e))) in
    λ i. without i ++ with i

chosen_at : (f : List PathData → Basic) (H : Held) (held : List PathData) (p : PathData) (ps : List PathData) (b : Bool)
    → chosen (map H ps) (at_parts f held ps) ≡ f (held ++ filter H ps)
    → chosen (map H ps) (at_parts f (held ++ p ∷ []) ps) ≡ f ((held ++ p ∷ []) ++ filter H ps)
    → chosen (map H ps) (if b then at_parts f (held ++ p ∷ []) ps else at_parts f held ps) ≡ f (held ++ (if b then p ∷ filter H ps else filter H ps))
chosen_at f H held p ps true without with = with ∙ ap f (append_assoc held (p ∷ []) (filter H ps))
chosen_at f H held p ps false without with = without

-- the entry at a set is the basic at the held paths and those of the list that are in the set
pub chosen_parts : (f : List PathData → Basic) (H : Held) (held ps : List PathData) → chosen (map H ps) (at_parts f held ps) ≡ f (held ++ filter H ps)
chosen_parts f H held [] = ap f (sym (append-nil held))
chosen_parts f H held (p ∷ ps) =
    ap (chosen (map H ps)) (half_is (H p) (at_parts f held ps) (at_parts f (held ++ p ∷ []) ps) (length_parts f held ps ∙ sym (length_parts f (held ++ p ∷ []) ps)))
    ∙ chosen_at f H held p ps (H p) (chosen_parts f H held ps) (chosen_parts f H (held ++ p ∷ []) ps)

-- an empty table has const everywhere
pub chosen_none : (bits : List Bool) → chosen bits [] ≡ Const
chosen_none [] = refl
chosen_none (true ∷ bits) = chosen_none bits
chosen_none (false ∷ bits) = chosen_none bits

-- Below, place by place.

below_parts_at : (f g : List PathData → Basic) (h k : List PathData) → AtMost (f (h ++ [])) (g (k ++ [])) → AtMost (f h) (g k)
below_parts_at f g h k at = subst (λ x. AtMost (f x) (g k)) (append-nil h) (subst (λ y. AtMost (f (h ++ [])) (g y)) (append-nil k) at)

pub below_append : (us vs xs ys : List Basic) → are_below us xs ≡ true → are_below vs ys ≡ true → length us ≡ length xs → are_below (us ++ vs) (xs ++ ys) ≡ true
below_append [] vs [] ys low high e = high
below_append [] vs (x ∷ xs) ys low high e = absurd (omega arith)
below_append (u ∷ us) vs [] ys low high e = absurd (omega arith)
below_append (u ∷ us) vs (x ∷ xs) ys low high e =
    and_from (below_of u x) (are_below (us ++ vs) (xs ++ ys)) (first (below_of u x) (are_below us xs) low)
    (below_append us vs xs ys (second (below_of u x) (are_below us xs) low) high (omega arith))

-- two tables over the same paths, where one is below the other at each part
pub parts_below : (f g : List PathData → Basic) (h k ps : List PathData) → ((qs : List PathData) → IsSubset (has_path qs) (has_path ps) → AtMost (f (h ++ qs)) (g (k ++ qs)))
    → are_below (at_parts f h ps) (at_parts g k ps) ≡ true
parts_below f g h k [] at = and_from (below_of (f h) (g k)) true (below_parts_at f g h k (at [] (λ q e. e))) refl
parts_below f g h k (p ∷ ps) at =
    below_append (at_parts f h ps) (at_parts f (h ++ p ∷ []) ps) (at_parts g k ps) (at_parts g (k ++ p ∷ []) ps)
    (parts_below f g h k ps (λ qs part. at qs (λ q e. later p ps q (part q e))))
    (parts_below f g (h ++ p ∷ []) (k ++ p ∷ []) ps (λ qs part.
    subst (λ xs. AtMost (f xs) (g ((k ++ p ∷ []) ++ qs))) (sym (append_assoc h (p ∷ []) qs))
    (subst (λ ys. AtMost (f (h ++ (p ∷ qs))) (g ys)) (sym (append_assoc k (p ∷ []) qs))
    (at (p ∷ qs) (in_front p qs (has_path (p ∷ ps)) (first_has p ps) (λ q e. later p ps q (part q e)))))))
    (length_parts f h ps ∙ sym (length_parts g k ps))

below_take : (n : ℕ) (xs ys : List Basic) → are_below xs ys ≡ true → are_below (take n xs) (take n ys) ≡ true
below_take zero xs ys e = refl
below_take (suc n) [] ys e = refl
below_take (suc n) (x ∷ xs) [] e = absurd (let k : false ≡ true = e in cc)
below_take (suc n) (x ∷ xs) (y ∷ ys) e = and_from (below_of x y) (are_below (take n xs) (take n ys)) (first (below_of x y) (are_below xs ys) e) (below_take n xs ys (second (below_of x y) (are_below xs ys) e))

below_drop : (n : ℕ) (xs ys : List Basic) → are_below xs ys ≡ true → are_below (drop n xs) (drop n ys) ≡ true
below_drop zero xs ys e = e
below_drop (suc n) [] ys e = refl
below_drop (suc n) (x ∷ xs) [] e = absurd (let k : false ≡ true = e in cc)
below_drop (suc n) (x ∷ xs) (y ∷ ys) e = below_drop n xs ys (second (below_of x y) (are_below xs ys) e)

below_half : (b : Bool) (xs ys : List Basic) → length xs ≡ length ys → are_below xs ys ≡ true → are_below (half_table b xs) (half_table b ys) ≡ true
below_half true xs ys e low = subst (λ n. are_below (half_table true xs) (drop n ys) ≡ true) (ap (λ n. n / 2) e) (below_drop (length xs / 2) xs ys low)
below_half false xs ys e low = subst (λ n. are_below (half_table false xs) (take n ys) ≡ true) (ap (λ n. n / 2) e) (below_take (length xs / 2) xs ys low)

-- a table that is below another has smaller entries
pub chosen_below : (bits : List Bool) (xs ys : List Basic) → length xs ≡ length ys → are_below xs ys ≡ true → AtMost (chosen bits xs) (chosen bits ys)
chosen_below [] [] [] e low = refl
chosen_below [] [] (y ∷ ys) e low = absurd (omega arith)
chosen_below [] (x ∷ xs) [] e low = absurd (omega arith)
chosen_below [] (x ∷ xs) (y ∷ ys) e low = first (below_of x y) (are_below xs ys) low
chosen_below (b ∷ bits) xs ys e low = chosen_below bits (half_table b xs) (half_table b ys) (half_lengths b xs ys e) (below_half b xs ys e low)

pub below_lists : (xs ys zs : List Basic) → length ys ≡ length zs → are_below xs ys ≡ true → are_below ys zs ≡ true → are_below xs zs ≡ true
below_lists [] ys zs e low high = refl
below_lists (x ∷ xs) [] zs e low high = absurd (let k : false ≡ true = low in cc)
below_lists (x ∷ xs) (y ∷ ys) [] e low high = absurd (omega arith)
below_lists (x ∷ xs) (y ∷ ys) (z ∷ zs) e low high =
    and_from (below_of x z) (are_below xs zs) (below_chain x y z (first (below_of x y) (are_below xs ys) low) (first (below_of y z) (are_below ys zs) high))
    (below_lists xs ys zs (omega arith) (second (below_of x y) (are_below xs ys) low) (second (below_of y z) (are_below ys zs) high))

-- Joined tables.

pub length_joined : (xs ys : List Basic) → length (joined_tables xs ys) ≡ length xs
length_joined [] ys = refl
length_joined (x ∷ xs) [] = refl
length_joined (x ∷ xs) (y ∷ ys) = ap suc (length_joined xs ys)

take_joined : (n : ℕ) (xs ys : List Basic) → take n (joined_tables xs ys) ≡ joined_tables (take n xs) (take n ys)
take_joined zero xs ys = refl
take_joined (suc n) [] ys = refl
take_joined (suc n) (x ∷ xs) [] = refl
take_joined (suc n) (x ∷ xs) (y ∷ ys) = ap (λ zs. join_of x y ∷ zs) (take_joined n xs ys)

joined_none : (xs : List Basic) → joined_tables xs [] ≡ xs
joined_none [] = refl
joined_none (x ∷ xs) = refl

drop_joined : (n : ℕ) (xs ys : List Basic) → drop n (joined_tables xs ys) ≡ joined_tables (drop n xs) (drop n ys)
drop_joined zero xs ys = refl
drop_joined (suc n) [] ys = refl
drop_joined (suc n) (x ∷ xs) [] = sym (joined_none (drop n xs))
drop_joined (suc n) (x ∷ xs) (y ∷ ys) = drop_joined n xs ys

half_joined : (b : Bool) (xs ys : List Basic) → length xs ≡ length ys → half_table b (joined_tables xs ys) ≡ joined_tables (half_table b xs) (half_table b ys)
half_joined true xs ys e =
    ap (λ n. drop (n / 2) (joined_tables xs ys)) (length_joined xs ys) ∙ drop_joined (length xs / 2) xs ys ∙ ap (λ n. joined_tables (drop (length xs / 2) xs) (drop (n / 2) ys)) e
half_joined false xs ys e =
    ap (λ n. take (n / 2) (joined_tables xs ys)) (length_joined xs ys) ∙ take_joined (length xs / 2) xs ys ∙ ap (λ n. joined_tables (take (length xs / 2) xs) (take (n / 2) ys)) e

-- each entry of two tables joined is the greater of the two
pub chosen_joined : (bits : List Bool) (xs ys : List Basic) → length xs ≡ length ys → chosen bits (joined_tables xs ys) ≡ join_of (chosen bits xs) (chosen bits ys)
chosen_joined [] [] [] e = refl
chosen_joined [] [] (y ∷ ys) e = absurd (omega arith)
chosen_joined [] (x ∷ xs) [] e = absurd (omega arith)
chosen_joined [] (x ∷ xs) (y ∷ ys) e = refl
chosen_joined (b ∷ bits) xs ys e = ap (chosen bits) (half_joined b xs ys e) ∙ chosen_joined bits (half_table b xs) (half_table b ys) (half_lengths b xs ys e)

-- Sets that hold the same paths of a list.

bits_same_in : (H : Held) (all ps : List PathData) → IsSubset (has_path ps) (has_path all) → map H ps ≡ map (λ q. has_path all q && H q) ps
bits_same_in H all [] part = refl
bits_same_in H all (p ∷ ps) part =
    let now : H p ≡ (has_path all p && H p) = ap (λ b. b && H p) (sym (part p (first_has p ps))) in
    let rest = bits_same_in H all ps (λ q e. part q (later p ps q e)) in
    λ i. now i ∷ rest i

pub bits_same : (H : Held) (ps : List PathData) → map H ps ≡ map (λ q. has_path ps q && H q) ps
bits_same H ps = bits_same_in H ps ps (λ q e. e)

-- Falling tables.

falls_at : (H K : Held) (p : PathData) (ps : List PathData) (table : List Basic) (h k : Bool) → (h ≡ true → k ≡ true) → length table ≡ count_of_parts (p ∷ ps) → are_below (half_table true table) (half_table false table) ≡ true
    → ((b : Bool) → AtMost (chosen (map K ps) (half_table b table)) (chosen (map H ps) (half_table b table))) → AtMost (chosen (map K ps) (half_table k table)) (chosen (map H ps) (half_table h table))
falls_at H K p ps table true true part e low rest = rest true
falls_at H K p ps table true false part e low rest = absurd (let f : false ≡ true = part refl in cc)
falls_at H K p ps table false true part e low rest =
    below_chain _ _ _ (rest true) (chosen_below (map H ps) (half_table true table) (half_table false table) (half_sizes p ps table true e ∙ sym (half_sizes p ps table false e)) low)
falls_at H K p ps table false false part e low rest = rest false

-- a falling table has smaller entries at larger sets
pub falls_chosen : (ps : List PathData) (table : List Basic) → length table ≡ count_of_parts ps → table_falls ps table ≡ true → (H K : Held) → IsSubset H K → AtMost (chosen (map K ps) table) (chosen (map H ps) table)
falls_chosen [] table e falls H K part = below_itself (first_entry table)
falls_chosen (p ∷ ps) table e falls H K part =
    let low = first (are_below (half_table true table) (half_table false table)) (table_falls ps (half_table false table) && table_falls ps (half_table true table)) falls in
    let rest = second (are_below (half_table true table) (half_table false table)) (table_falls ps (half_table false table) && table_falls ps (half_table true table)) falls in
    falls_at H K p ps table (H p) (K p) (part p) e low
    (λ b. falls_chosen ps (half_table b table) (half_sizes p ps table b e) (either_falls b rest) H K part)
  where
    either_falls : (b : Bool) → (table_falls ps (half_table false table) && table_falls ps (half_table true table)) ≡ true → table_falls ps (half_table b table) ≡ true
    either_falls true both_fall = second (table_falls ps (half_table false table)) (table_falls ps (half_table true table)) both_fall
    either_falls false both_fall = first (table_falls ps (half_table false table)) (table_falls ps (half_table true table)) both_fall

-- an empty table falls
pub none_falls : (ps : List PathData) → table_falls ps [] ≡ true
none_falls [] = refl
none_falls (p ∷ ps) = and_from (table_falls ps []) (table_falls ps []) (none_falls ps) (none_falls ps)

-- the held paths with more of them are more
held_part : (h : List PathData) (p : PathData) (qs : List PathData) → IsSubset (has_path (h ++ qs)) (has_path ((h ++ p ∷ []) ++ qs))
held_part h p qs = subst (λ xs. IsSubset (has_path (h ++ qs)) (has_path xs)) (sym (append_assoc h (p ∷ []) qs)) (append_part h qs (p ∷ qs) (λ q e. later p qs q e))

within_more : (h : List PathData) (p : PathData) (ps : List PathData) (W : Held) → IsSubset (has_path (h ++ (p ∷ ps))) W → IsSubset (has_path ((h ++ p ∷ []) ++ ps)) W
within_more h p ps W within = subst (λ xs. IsSubset (has_path xs) W) (sym (append_assoc h (p ∷ []) ps)) within

within_rest : (h : List PathData) (p : PathData) (ps : List PathData) (W : Held) → IsSubset (has_path (h ++ (p ∷ ps))) W → IsSubset (has_path (h ++ ps)) W
within_rest h p ps W within q e = within q (append_part h ps (p ∷ ps) (λ r f. later p ps r f) q e)

-- the table of what is smaller at larger sets falls
pub parts_fall : (f : List PathData → Basic) (W : Held) → ((xs ys : List PathData) → IsSubset (has_path ys) W → IsSubset (has_path xs) (has_path ys) → AtMost (f ys) (f xs))
    → (h ps : List PathData) → IsSubset (has_path (h ++ ps)) W → table_falls ps (at_parts f h ps) ≡ true
parts_fall f W falls h [] within = refl
parts_fall f W falls h (p ∷ ps) within =
    let without = at_parts f h ps in
    let with = at_parts f (h ++ p ∷ []) ps in
    let same = length_parts f h ps ∙ sym (length_parts f (h ++ p ∷ []) ps) in
    subst (λ t. (are_below t (half_table false (without ++ with)) && (table_falls ps (half_table false (without ++ with)) && table_falls ps t)) ≡ true) (sym (half_is true without with same))
    (subst (λ t. (are_below with t && (table_falls ps t && table_falls ps with)) ≡ true) (sym (half_is false without with same))
    (and_from (are_below with without) (table_falls ps without && table_falls ps with)
    (parts_below f f (h ++ p ∷ []) h ps (λ qs part. falls (h ++ qs) ((h ++ p ∷ []) ++ qs)
    (λ q e. within_more h p ps W within q (append_part (h ++ p ∷ []) qs ps part q e)) (held_part h p qs)))
    (and_from (table_falls ps without) (table_falls ps with)
    (parts_fall f W falls h ps (within_rest h p ps W within)) (parts_fall f W falls (h ++ p ∷ []) ps (within_more h p ps W within)))))

pub below_joined : (us vs xs ys : List Basic) → length us ≡ length vs → length xs ≡ length ys → are_below us xs ≡ true → are_below vs ys ≡ true → are_below (joined_tables us vs) (joined_tables xs ys) ≡ true
below_joined [] vs xs ys e f low high = refl
below_joined (u ∷ us) [] xs ys e f low high = absurd (omega arith)
below_joined (u ∷ us) (v ∷ vs) [] ys e f low high = absurd (let k : false ≡ true = low in cc)
below_joined (u ∷ us) (v ∷ vs) (x ∷ xs) [] e f low high = absurd (omega arith)
below_joined (u ∷ us) (v ∷ vs) (x ∷ xs) (y ∷ ys) e f low high =
    and_from (below_of (join_of u v) (join_of x y)) (are_below (joined_tables us vs) (joined_tables xs ys))
    (join_mono _ _ _ _ (first (below_of u x) (are_below us xs) low) (first (below_of v y) (are_below vs ys) high))
    (below_joined us vs xs ys (omega arith) (omega arith) (second (below_of u x) (are_below us xs) low) (second (below_of v y) (are_below vs ys) high))

-- two falling tables joined fall
pub joined_falls : (ps : List PathData) (xs ys : List Basic) → length xs ≡ length ys → table_falls ps xs ≡ true → table_falls ps ys ≡ true → table_falls ps (joined_tables xs ys) ≡ true
joined_falls [] xs ys e left right = refl
joined_falls (p ∷ ps) xs ys e left right =
    let left_rest = second (are_below (half_table true xs) (half_table false xs)) (table_falls ps (half_table false xs) && table_falls ps (half_table true xs)) left in
    let right_rest = second (are_below (half_table true ys) (half_table false ys)) (table_falls ps (half_table false ys) && table_falls ps (half_table true ys)) right in
    subst (λ t. (are_below t (half_table false (joined_tables xs ys)) && (table_falls ps (half_table false (joined_tables xs ys)) && table_falls ps t)) ≡ true) (sym (half_joined true xs ys e))
    (subst (λ t. (are_below (joined_tables (half_table true xs) (half_table true ys)) t && (table_falls ps t && table_falls ps (joined_tables (half_table true xs) (half_table true ys)))) ≡ true) (sym (half_joined false xs ys e))
    (and_from (are_below (joined_tables (half_table true xs) (half_table true ys)) (joined_tables (half_table false xs) (half_table false ys))) (table_falls ps (joined_tables (half_table false xs) (half_table false ys)) && table_falls ps (joined_tables (half_table true xs) (half_table true ys)))
    (below_joined (half_table true xs) (half_table true ys) (half_table false xs) (half_table false ys) (half_lengths true xs ys e) (half_lengths false xs ys e)
    (first (are_below (half_table true xs) (half_table false xs)) (table_falls ps (half_table false xs) && table_falls ps (half_table true xs)) left)
    (first (are_below (half_table true ys) (half_table false ys)) (table_falls ps (half_table false ys) && table_falls ps (half_table true ys)) right))
    (and_from (table_falls ps (joined_tables (half_table false xs) (half_table false ys))) (table_falls ps (joined_tables (half_table true xs) (half_table true ys)))
    (joined_falls ps (half_table false xs) (half_table false ys) (half_lengths false xs ys e)
    (first (table_falls ps (half_table false xs)) (table_falls ps (half_table true xs)) left_rest) (first (table_falls ps (half_table false ys)) (table_falls ps (half_table true ys)) right_rest))
    (joined_falls ps (half_table true xs) (half_table true ys) (half_lengths true xs ys e)
    (second (table_falls ps (half_table false xs)) (table_falls ps (half_table true xs)) left_rest) (second (table_falls ps (half_table false ys)) (table_falls ps (half_table true ys)) right_rest)))))
