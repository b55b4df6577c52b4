-- What a method and origins of paths know, and what held paths are called in a callee.
use Rattle.std.proofs.Common.{◌≡◌, ◌<◌, ◌≤◌, ◌+◌, ◌==◌, ℕ, zero, suc, Bool, true, false, ◌&&◌, ◌||◌, List, [], ◌∷◌, ◌++◌, Some, None, length, drop, get_or, slice_get, refl, sym, ap, ◌∙◌, arith, append-nil, append_assoc, if◌then◌else◌}
use Rattle.std.specs.Prelude.{Option, filter, nat_eq}
use Rattle.std.specs.List.{cons_option}
use Rattle.std.specs.List.Sorted.{IsPermutation}
use Rattle.std.specs.Cmp.Lexicographic.{pointwise}
use Rattle.std.proofs.lemmas.Bool.{eqb-true, eq-eqb, ne_eqb, eqb-false}
use Rattle.std.proofs.lemmas.List.{drop_all}
use Rattle.std.proofs.lemmas.List.Folds.{list_any-append}
use Rattle.std.proofs.lemmas.List.Sorted.{list_any-IsPermutation}
use Rattle.std.proofs.Math.Bool.{and-false, and_comm, or-false}
use Rattle.base.proofs.Lists.{next_drop}
use Rattle.paths.specs.Paths.{PathData, path_eq, extended, extended_some}
use Rattle.paths.specs.Renamings.{argument_at, passed, under_call}
use Rattle.algebra.specs.HeldPaths.{Held, has_path, holds_at}
use Rattle.rules.specs.Effect.{held_under}
use Rattle.effects.specs.HeldLists.{is_path, local_names, other_roots}
use Rattle.effects.proofs.ListedSets.{part_is, others_are, left_is}
use Rattle.level_check.specs.Told.{OriginOf, known_to_origin, known_to}
use Rattle.level_check.specs.Passed.{held_names_from, passed_names}

-- What is known of a set.

one_more : (x b y : Bool) → ((x && b) || (y && b)) ≡ ((x || y) && b)
one_more true true y = refl
one_more true false true = refl
one_more true false false = refl
one_more false b y = refl

origin_and : (o : Option ℕ) (f : ℕ → Held) (S : Held) (p : PathData) → known_to_origin o (λ k q. f k q && S q) p ≡ (known_to_origin o f p && S p)
origin_and None f S p = refl
origin_and (Some k) f S p = refl

-- where each method knows of a set what it knows at all, so it is together
pub known_and : (f : ℕ → Held) (S : Held) (m : ℕ) (origin : OriginOf) (p : PathData) → known_to m origin (λ k q. f k q && S q) p ≡ (known_to m origin f p && S p)
known_and f S m origin p = ap (λ b. (f m p && S p) || b) (origin_and (origin p) f S p) ∙ one_more (f m p) (S p) (known_to_origin (origin p) f p)

-- Names from a slot.

rooted_name : (x : ℕ) (start : PathData) (held : List PathData) (q : PathData) → (q.root == x) ≡ true → has_path (local_names x start held) q ≡ holds_at (extended start q.fields) (has_path held)
rooted_name x start held q rooted =
    ap (λ b. b || has_path (local_names x start held) q) (sym no_other) ∙ sym (list_any-append (λ p. path_eq p q) (other_roots x held) (local_names x start held)) ∙ (λ i. left_is x start held i q)
    ∙ ap (λ b. if b then holds_at (extended start q.fields) (has_path held) else has_path held q) rooted
  where
    no_other : has_path (other_roots x held) q ≡ false
    no_other = (λ i. others_are x held i q) ∙ ap (λ b. if b then false else has_path held q) rooted

one_name : (b : Bool) (x : ℕ) (fields : List ℕ) (q : PathData) (ps : List PathData) → (x == q.root) ≡ false → has_path (cons_option (if b then Some (record { root = x; fields = fields }) else None) ps) q ≡ has_path ps q
one_name true x fields q ps other = ap (λ t. (t && pointwise nat_eq fields q.fields) || has_path ps q) other
one_name false x fields q ps other = refl

other_name : (x : ℕ) (start : PathData) (held : List PathData) (q : PathData) → (x == q.root) ≡ false → has_path (local_names x start held) q ≡ false
other_name x start [] q other = refl
other_name x start (p ∷ held) q other =
    one_name (is_path (extended start (drop (length start.fields) p.fields)) p) x (drop (length start.fields) p.fields) q (local_names x start held) other ∙ other_name x start held q other

rooted_slot : (x : ℕ) (o : Option PathData) (held : List PathData) (q : PathData) → (q.root == x) ≡ true → has_path (held_names_from x o held) q ≡ holds_at (extended_some o q.fields) (has_path held)
rooted_slot x None held q rooted = refl
rooted_slot x (Some start) held q rooted = rooted_name x start held q rooted

other_slot : (x : ℕ) (o : Option PathData) (held : List PathData) (q : PathData) → (x == q.root) ≡ false → has_path (held_names_from x o held) q ≡ false
other_slot x None held q other = refl
other_slot x (Some start) held q other = other_name x start held q other

-- Names from several slots.

-- what is passed for a slot, where these are passed from slot x on
abbrev passed_from : ℕ → List (Option PathData) → ℕ → Option PathData
passed_from x [] r = None
passed_from x (o ∷ os) r = if r == x then o else passed_from (x + 1) os r

none_below : (x : ℕ) (os : List (Option PathData)) (r : ℕ) → r < x → passed_from x os r ≡ None
none_below x [] r below = refl
none_below x (o ∷ os) r below =
    ap (λ b. if b then o else passed_from (x + 1) os r) (ne_eqb r x (λ same. absurd (omega (arith, below, same)))) ∙ none_below (x + 1) os r (omega (arith, below))

names_at : (x : ℕ) (os : List (Option PathData)) (held : List PathData) (q : PathData) → has_path (passed_names x os held) q ≡ holds_at (extended_some (passed_from x os q.root) q.fields) (has_path held)
names_at x [] held q = refl
names_at x (o ∷ os) held q =
    list_any-append (λ p. path_eq p q) (held_names_from x o held) (passed_names (x + 1) os held) ∙ ap (λ b. has_path (held_names_from x o held) q || b) (names_at (x + 1) os held q) ∙ by_root (q.root == x) refl
  where
    by_root : (b : Bool) → (q.root == x) ≡ b
        → (has_path (held_names_from x o held) q || holds_at (extended_some (passed_from (x + 1) os q.root) q.fields) (has_path held)) ≡ holds_at (extended_some (if b then o else passed_from (x + 1) os q.root) q.fields) (has_path held)
    by_root true rooted =
        let same = eqb-true q.root x rooted in
        ap (λ z. has_path (held_names_from x o held) q || holds_at (extended_some z q.fields) (has_path held)) (none_below (x + 1) os q.root (omega (arith, same))) ∙ or-false (has_path (held_names_from x o held) q) ∙ rooted_slot x o held q rooted
    by_root false other =
        let apart = eqb-false q.root x other in
        ap (λ b. b || holds_at (extended_some (passed_from (x + 1) os q.root) q.fields) (has_path held)) (other_slot x o held q (ne_eqb x q.root (λ same. apart (sym same))))

argument_from : (x : ℕ) (os : List (Option PathData)) (n r : ℕ) → r ≡ x + n → passed_from x os r ≡ argument_at (slice_get os n)
argument_from x [] n r is = refl
argument_from x (o ∷ os) zero r is = ap (λ b. if b then o else passed_from (x + 1) os r) (eq-eqb r x (omega (arith, is)))
argument_from x (o ∷ os) (suc n) r is =
    ap (λ b. if b then o else passed_from (x + 1) os r) (ne_eqb r x (λ same. absurd (omega (arith, is, same)))) ∙ argument_from (x + 1) os n r (omega (arith, is))

passed_is : (receiver : Option PathData) (args : List (Option PathData)) (r : ℕ) → passed_from 0 (receiver ∷ args) r ≡ passed receiver args r
passed_is receiver args zero = refl
passed_is receiver args (suc n) = ap (λ b. if b then receiver else passed_from 1 args (suc n)) (ne_eqb (suc n) 0 (λ same. absurd (omega (arith, same)))) ∙ argument_from 1 args n (suc n) (omega arith)

-- the names are the paths of the callee whose names at the call are held
pub names_are : (receiver : Option PathData) (args : List (Option PathData)) (held : List PathData) → has_path (passed_names 0 (receiver ∷ args) held) ≡ (λ q. holds_at (under_call receiver args q) (has_path held))
names_are receiver args held = λ i q.
    (names_at 0 (receiver ∷ args) held q ∙ ap (λ o. holds_at (extended_some o q.fields) (has_path held)) (passed_is receiver args q.root)) i

-- Names from one slot after the other: those of one more, and those of all.

pub more_names : (os : List (Option PathData)) (held : List PathData) (k slot : ℕ) (o : Option PathData) (old new whole : List PathData) → k < length os → o ≡ get_or os k o → slot ≡ k → new ≡ old ++ held_names_from slot o held
    → old ++ passed_names k (drop k os) held ≡ whole → new ++ passed_names (k + 1) (drop (k + 1) os) held ≡ whole
more_names os held k slot o old new whole below is same more so_far =
    ap (λ l. l ++ passed_names (k + 1) (drop (k + 1) os) held) (more ∙ ap (λ z. old ++ held_names_from z o held) same)
    ∙ append_assoc old (held_names_from k o held) (passed_names (k + 1) (drop (k + 1) os) held)
    ∙ ap (λ l. old ++ passed_names k l held) (sym (next_drop os k o below is)) ∙ so_far

pub all_names : (os : List (Option PathData)) (held : List PathData) (k : ℕ) (found whole : List PathData) → length os ≤ k → found ++ passed_names k (drop k os) held ≡ whole → found ≡ whole
all_names os held k found whole past so_far = sym (append-nil found) ∙ ap (λ l. found ++ passed_names k l held) (sym (drop_all k os past)) ∙ so_far

-- What is known of the names.

module _ (rel : ℕ → List PathData) (m : ℕ) (origin : OriginOf) (receiver : Option PathData) (args : List (Option PathData)) where
  -- those of the names that the callee or their origins know, in whatever order
  pub known_names : (held names known sorted : List PathData) → has_path names ≡ (λ q. holds_at (under_call receiver args q) (has_path held)) → known ≡ filter (known_to m origin (λ k. has_path (rel k))) names → IsPermutation known sorted
      → has_path sorted ≡ known_to m origin (λ k. held_under (rel k) receiver args (has_path held))
  known_names held names known sorted named is moved = λ i q. at q i
    where
      at : (q : PathData) → has_path sorted q ≡ known_to m origin (λ k. held_under (rel k) receiver args (has_path held)) q
      at q =
          sym (list_any-IsPermutation (λ p. path_eq p q) known sorted moved) ∙ ap (λ l. has_path l q) is ∙ part_is (known_to m origin (λ k. has_path (rel k))) names q
          ∙ ap (λ (f : Held). f q && known_to m origin (λ k. has_path (rel k)) q) named ∙ and_comm (holds_at (under_call receiver args q) (has_path held)) (known_to m origin (λ k. has_path (rel k)) q)
          ∙ sym (known_and (λ k. has_path (rel k)) (λ p. holds_at (under_call receiver args p) (has_path held)) m origin q)

  -- nothing is known where nothing is held
  pub none_known : (held none : List PathData) → (length held == 0) ≡ true → none ≡ [] → has_path none ≡ known_to m origin (λ k. held_under (rel k) receiver args (has_path held))
  none_known (p ∷ held) none nothing empty = absurd (let e = eqb-true (length (p ∷ held)) 0 nothing in omega (arith, e))
  none_known [] none nothing empty = λ i q. at q i
    where
      none_held : (o : Option PathData) → holds_at o (has_path []) ≡ false
      none_held None = refl
      none_held (Some p) = refl

      at : (q : PathData) → has_path none q ≡ known_to m origin (λ k. held_under (rel k) receiver args (has_path [])) q
      at q =
          ap (λ l. has_path l q) empty
          ∙ sym (known_and (λ k. has_path (rel k)) (λ p. holds_at (under_call receiver args p) (has_path [])) m origin q
          ∙ ap (λ b. known_to m origin (λ k. has_path (rel k)) q && b) (none_held (under_call receiver args q)) ∙ and-false (known_to m origin (λ k. has_path (rel k)) q))
