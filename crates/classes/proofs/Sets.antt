-- A set of lent texts, few in a list and more in a table, against the list of their bytes.
use Rattle.std.proofs.Common.{◌≡◌, ℕ, ◌+◌, ◌-◌, ◌≤◌, ◌==◌, ◌||◌, nat_lt, Bool, not, true, false, cond, if◌then◌else◌, List, [], ◌∷◌, ◌++◌, map, length, bytes_eq, position, Some, None, refl, ap, sym, ◌∙◌, arith, append_assoc, length-append}
use Rattle.std.proofs.lemmas.Bool.Decides.{nat_tests}
use Rattle.std.proofs.lemmas.List.{map-append, length-map}
use Rattle.std.proofs.lemmas.List.Folds.{prefix_len-append, list_any-append}
use Rattle.std.proofs.lemmas.List.Sums.{prefix_len-le-length}
use Rattle.std.proofs.lemmas.Option.{slice_get-map}
use Rattle.std.specs.Borrow.{Bor}
use Rattle.std.specs.List.{list_any, prefix_len, position_or_len}
use Rattle.std.specs.Prelude.{Option, option_map, slice_get}
use Rattle.base.proofs.Lists.{get_right}
use Rattle.indexmap.specs.IndexSet.{insert_key}
use Rattle.classes.specs.Names.{has_text, with_text}
use Rattle.classes.specs.Shows.{shows}

abbrev same : Bor (List ℕ) → Bor (List ℕ) → Bool
same a b = bytes_eq a.now b.now

-- One list

any_text : (test : List ℕ → Bool) (ks : List (Bor (List ℕ))) → list_any (λ k. test k.now) ks ≡ list_any test (map shows ks)
any_text test [] = refl
any_text test (k ∷ ks) = ap (λ b. test k.now || b) (any_text test ks)

front_of_text : (test : List ℕ → Bool) (ks : List (Bor (List ℕ))) → prefix_len (λ k. not (test k.now)) ks ≡ prefix_len (λ t. not (test t)) (map shows ks)
front_of_text test [] = refl
front_of_text test (k ∷ ks) = ap (λ n. cond (not (test k.now)) (1 + n) 0) (front_of_text test ks)

place_of_text : (test : List ℕ → Bool) (ks : List (Bor (List ℕ))) → position (λ k. test k.now) ks ≡ position test (map shows ks)
place_of_text test ks =
    ap (λ n. cond (nat_lt n (length ks)) (Some n) None) (front_of_text test ks)
    ∙ ap (λ m. cond (nat_lt (position_or_len test (map shows ks)) m) (Some (position_or_len test (map shows ks))) None) (sym (length-map ks shows))

added_text : (ks : List (Bor (List ℕ))) (k : Bor (List ℕ)) → map shows (insert_key same ks k) ≡ with_text (map shows ks) k.now
added_text ks k =
    let e : list_any (same k) ks ≡ has_text (map shows ks) k.now = any_text (bytes_eq k.now) ks in
    let step : (b : Bool) → map shows (if b then ks else ks ++ k ∷ []) ≡ (if b then map shows ks else map shows ks ++ k.now ∷ []) =
    λ b. elim b as (λ b. map shows (if b then ks else ks ++ k ∷ []) ≡ (if b then map shows ks else map shows ks ++ k.now ∷ [])) [ true ↦ refl | false ↦ map-append shows ks (k ∷ []) ] in
    step (list_any (same k) ks) ∙ ap (λ b. if b then map shows ks else map shows ks ++ k.now ∷ []) e

-- A list after another

-- a place, where it is below a bound
abbrev below : ℕ → ℕ → Option ℕ
below n bound = cond (nat_lt n bound) (Some n) None

-- a place in the first list, of which this is the length, or else in the second
abbrev or_later : ℕ → Option ℕ → Option ℕ → Option ℕ
or_later a (Some i) later = Some i
or_later a None later = option_map (λ n. a + n) later

below_both : (n m a b : ℕ) (past there : Bool) → n ≤ a → (n == a) ≡ past → nat_lt m b ≡ there
    → below (cond past (a + m) n) (a + b) ≡ or_later a (below n a) (below m b)
below_both n m a b true true w i j =
    let x : nat_lt (a + m) (a + b) ≡ true = grind (arith, nat_tests) in
    let y : nat_lt n a ≡ false = grind (arith, nat_tests) in
    rw (x, y, j) refl
below_both n m a b true false w i j =
    let x : nat_lt (a + m) (a + b) ≡ false = grind (arith, nat_tests) in
    let y : nat_lt n a ≡ false = grind (arith, nat_tests) in
    rw (x, y, j) refl
below_both n m a b false there w i j =
    let x : nat_lt n (a + b) ≡ true = grind (arith, nat_tests) in
    let y : nat_lt n a ≡ true = grind (arith, nat_tests) in
    rw (x, y) refl

-- the first place that passes, in two lists
place_in_both : {X : Type 0} (test : X → Bool) (xs ys : List X) → position test (xs ++ ys) ≡ or_later (length xs) (position test xs) (position test ys)
place_in_both test xs ys =
    let n = prefix_len (λ x. not (test x)) xs in
    let m = prefix_len (λ x. not (test x)) ys in
    ap (λ k. below k (length (xs ++ ys))) (prefix_len-append (λ x. not (test x)) xs ys)
    ∙ ap (λ k. below (cond (n == length xs) (length xs + m) n) k) (length-append xs ys)
    ∙ below_both n m (length xs) (length ys) (n == length xs) (nat_lt m (length ys)) (prefix_len-le-length (λ x. not (test x)) xs) refl refl

insert_after : (few more : List (Bor (List ℕ))) (k : Bor (List ℕ)) (there : Bool) → list_any (same k) few ≡ false → list_any (same k) more ≡ there
    → insert_key same (few ++ more) k ≡ few ++ insert_key same more k
insert_after few more k true a b = rw (list_any-append (same k) few more, a, b) refl
insert_after few more k false a b = rw (list_any-append (same k) few more, a, b) (append_assoc few more (k ∷ []))

-- What the set's functions tell, of few names and more that stand for these texts

held_in : (few more : List (Bor (List ℕ))) (text : List ℕ) (texts : List (List ℕ)) → map shows (few ++ more) ≡ texts
    → has_text texts text ≡ (list_any (λ k. bytes_eq text k.now) few || list_any (λ k. bytes_eq text k.now) more)
held_in few more text texts e =
    ap (λ t. has_text t text) (sym e) ∙ sym (any_text (bytes_eq text) (few ++ more)) ∙ list_any-append (λ k. bytes_eq text k.now) few more

-- a name among the few is held
pub is_held : (few more lent : List (Bor (List ℕ))) (text : List ℕ) (texts : List (List ℕ)) (told : Bool) → map shows (few ++ more) ≡ texts → lent ≡ few
    → told ≡ list_any (λ k. bytes_eq text k.now) lent → told ≡ true → has_text texts text ≡ true
is_held few more lent text texts told e l t is =
    let here : list_any (λ k. bytes_eq text k.now) few ≡ true = sym (t ∙ ap (list_any (λ k. bytes_eq text k.now)) l) ∙ is in
    held_in few more text texts e ∙ ap (λ b. b || list_any (λ k. bytes_eq text k.now) more) here

-- another is held where it is among the more
pub is_behind : (few more lent : List (Bor (List ℕ))) (text : List ℕ) (texts : List (List ℕ)) (told : Bool) → map shows (few ++ more) ≡ texts → lent ≡ few
    → told ≡ list_any (λ k. bytes_eq text k.now) lent → told ≡ false → has_text texts text ≡ list_any (λ k. bytes_eq text k.now) more
is_behind few more lent text texts told e l t is =
    let here : list_any (λ k. bytes_eq text k.now) few ≡ false = sym (t ∙ ap (list_any (λ k. bytes_eq text k.now)) l) ∙ is in
    held_in few more text texts e ∙ ap (λ b. b || list_any (λ k. bytes_eq text k.now) more) here

pub as_it_is : (texts : List (List ℕ)) (text : List ℕ) → has_text texts text ≡ true → texts ≡ with_text texts text
as_it_is texts text h = rw h refl

-- a name that isn't among the few is put behind all
pub put_behind : (few more : List (Bor (List ℕ))) (k : Bor (List ℕ)) (texts : List (List ℕ)) → list_any (same k) few ≡ false → map shows (few ++ more) ≡ texts
    → map shows (few ++ insert_key same more k) ≡ with_text texts k.now
put_behind few more k texts a e =
    ap (map shows) (sym (insert_after few more k (list_any (same k) more) a refl)) ∙ added_text (few ++ more) k ∙ ap (λ t. with_text t k.now) e

-- or becomes the last of the few, where there are no more
pub put_first : (few more new : List (Bor (List ℕ))) (k : Bor (List ℕ)) (texts : List (List ℕ)) → length more ≡ 0 → new ≡ few ++ k ∷ []
    → list_any (same k) few ≡ false → map shows (few ++ more) ≡ texts → map shows (new ++ more) ≡ with_text texts k.now
put_first few [] new k texts none n a e = ap (λ xs. map shows (xs ++ [])) n ∙ ap (map shows) (append_assoc few (k ∷ []) []) ∙ put_behind few [] k texts a e
put_first few (x ∷ xs) new k texts none n a e = absurd (omega arith)

pub numbered_by : (few more lent : List (Bor (List ℕ))) (text : List ℕ) (texts : List (List ℕ)) (p q : Option ℕ) → map shows (few ++ more) ≡ texts → lent ≡ few
    → p ≡ position (λ k. bytes_eq text k.now) lent → q ≡ position (λ k. bytes_eq text k.now) more → or_later (length few) p q ≡ position (bytes_eq text) texts
numbered_by few more lent text texts p q e l a b =
    ap (λ o. or_later (length few) o q) (a ∙ ap (position (λ k. bytes_eq text k.now)) l) ∙ ap (or_later (length few) (position (λ k. bytes_eq text k.now) few)) b
    ∙ sym (place_in_both (λ k. bytes_eq text k.now) few more) ∙ place_of_text (bytes_eq text) (few ++ more) ∙ ap (position (bytes_eq text)) e

pub later_name : (few more : List (Bor (List ℕ))) (texts : List (List ℕ)) (i : ℕ) (name : Bor (List ℕ)) → map shows (few ++ more) ≡ texts → length few ≤ i
    → slice_get more (i - length few) ≡ Some name → Some name.now ≡ slice_get texts i
later_name few more texts i name e w is =
    let j : length few + (i - length few) ≡ i = omega arith in
    let there : slice_get (few ++ more) i ≡ Some name = sym (ap (slice_get (few ++ more)) j) ∙ get_right few more (i - length few) ∙ is in
    sym (ap (λ t. slice_get t i) (sym e) ∙ slice_get-map shows (few ++ more) i ∙ ap (option_map shows) there)
