-- Lists of held paths as sets: a part by a test, the set that a callee begins with, and the sets after declarations of locals.
use Rattle.std.proofs.Common.{◌≡◌, ℕ, Bool, true, false, ◌&&◌, ◌||◌, ◌==◌, not, List, [], ◌∷◌, ◌++◌, Some, None, length, drop, refl, sym, ap, ◌∙◌, append-nil, ◌≤◌}
use Rattle.std.specs.Prelude.{Result, Ok, Err, IfOk, Option, map, filter, cond, nat_le, if◌then◌else◌}
use Rattle.std.specs.List.{cons_option}
use Rattle.std.specs.Cmp.{both_ways}
use Rattle.std.proofs.lemmas.Bool.{eqb-true, eq-eqb, false_from_ne_true}
use Rattle.std.proofs.lemmas.Option.{none-some, same_Some}
use Rattle.std.proofs.lemmas.List.{drop_all}
use Rattle.std.proofs.lemmas.List.Folds.{list_any-append}
use Rattle.std.proofs.Math.Bool.{and-false}
use Rattle.std.proofs.Math.Seq.{drop-append_seam}
use Rattle.paths.specs.Paths.{PathData, path_eq, extended, most_fields}
use Rattle.paths.specs.Renamings.{under_call}
use Rattle.paths.proofs.PathOrder.{eq_is, is_eq}
use Rattle.algebra.specs.HeldPaths.{Held, has_path, holds_at, without_root}
use Rattle.rules.specs.Effect.{held_under, after_local}
use Rattle.effects.specs.HeldLists.{held_pairs, is_path, name_from_local, local_names, other_roots}

-- at the end of a list, what was found so far is all
pub all_found : (F : List PathData → List PathData) (xs so_far all : List PathData) (k : ℕ) → F [] ≡ [] → length xs ≤ k → so_far ++ F (drop k xs) ≡ all → so_far ≡ all
all_found F xs so_far all k none past is = sym (append-nil so_far) ∙ ap (λ z. so_far ++ z) (sym (ap F (drop_all k xs past) ∙ none)) ∙ is

-- Parts by a test.

one_part : (T : Held) (p q : PathData) (same passes : Bool) (later : Bool) → path_eq p q ≡ same → T p ≡ passes → cond passes (same || (later && T q)) (later && T q) ≡ ((same || later) && T q)
one_part T p q true true later is test = let e : true ≡ T q = sym test ∙ ap T (eq_is p q is) in e
one_part T p q true false later is test = let e : T q ≡ false = sym (ap T (eq_is p q is)) ∙ test in ap (λ b. later && b) e ∙ and-false later ∙ sym e
one_part T p q false true later is test = refl
one_part T p q false false later is test = refl

has_cond : (b : Bool) (p q : PathData) (ps : List PathData) → has_path (cond b (p ∷ ps) ps) q ≡ cond b (path_eq p q || has_path ps q) (has_path ps q)
has_cond true p q ps = refl
has_cond false p q ps = refl

pub part_is : (T : Held) (ps : List PathData) (q : PathData) → has_path (filter T ps) q ≡ (has_path ps q && T q)
part_is T [] q = refl
part_is T (p ∷ ps) q =
    has_cond (T p) p q (filter T ps) ∙ ap (λ b. cond (T p) (path_eq p q || b) b) (part_is T ps q) ∙ one_part T p q (path_eq p q) (T p) (has_path ps q) refl refl

pub known_in : (T : Held) (ps : List PathData) → has_path (filter T ps) ≡ (λ q. has_path ps q && T q)
known_in T ps = λ i q. part_is T ps q i

-- The set that a callee begins with.

map_cond : (b : Bool) (p : PathData) (o : Option PathData) (ps : List (PathData × Option PathData)) → map (λ pair. pair.0) (cond b ((p, o) ∷ ps) ps) ≡ cond b (p ∷ map (λ pair. pair.0) ps) (map (λ pair. pair.0) ps)
map_cond true p o ps = refl
map_cond false p o ps = refl

pub pairs_are : (name : PathData → Option PathData) (held ps : List PathData) → held_pairs (map (λ q. (q, name q)) ps) held ≡ filter (λ q. holds_at (name q) (has_path held)) ps
pairs_are name held [] = refl
pairs_are name held (p ∷ ps) =
    map_cond (holds_at (name p) (has_path held)) p (name p) (filter (λ pair. holds_at pair.1 (has_path held)) (map (λ q. (q, name q)) ps))
    ∙ ap (λ z. cond (holds_at (name p) (has_path held)) (p ∷ z) z) (pairs_are name held ps)

-- the paths whose names in the caller are held are the set that a callee begins with
pub known_are : (receiver : Option PathData) (args : List (Option PathData)) (rel held : List PathData) → has_path (held_pairs (map (λ q. (q, under_call receiver args q)) rel) held) ≡ held_under rel receiver args (has_path held)
known_are receiver args rel held = λ i q.
    (ap (λ ps. has_path ps q) (pairs_are (under_call receiver args) held rel) ∙ part_is (λ q. holds_at (under_call receiver args q) (has_path held)) rel q) i

-- the same of a call's answer
pub known_from : {V E : Type 0} (items : V → List PathData) (r : Result V E) (receiver : Option PathData) (args : List (Option PathData)) (rel held : List PathData) (pairs : List (PathData × Option PathData))
    → IfOk r (λ v. items v ≡ held_pairs pairs held) → pairs ≡ map (λ q. (q, under_call receiver args q)) rel → IfOk r (λ v. has_path (items v) ≡ held_under rel receiver args (has_path held))
known_from items (Ok v) receiver args rel held pairs is names = ap has_path is ∙ ap (λ z. has_path (held_pairs z held)) names ∙ known_are receiver args rel held
known_from items (Err e) receiver args rel held pairs is names = tt

-- Locals.

unrooted : (a h : Bool) → (h && not a) ≡ (if a then false else h)
unrooted true true = refl
unrooted true false = refl
unrooted false true = refl
unrooted false false = refl

others_at : (x : ℕ) (held : List PathData) (q : PathData) → has_path (other_roots x held) q ≡ without_root x (has_path held) q
others_at x held q = part_is (λ p. not (p.root == x)) held q ∙ unrooted (q.root == x) (has_path held q)

pub others_are : (x : ℕ) (held : List PathData) → has_path (other_roots x held) ≡ without_root x (has_path held)
others_are x held = λ i q. others_at x held q i

if_chosen : {A : Type 0} (b : Bool) (x y : A) → (if b then Some x else None) ≡ Some y → (b ≡ true) × (x ≡ y)
if_chosen true x y e = (refl, same_Some x y e)
if_chosen false x y e = absurd (none-some y e)

-- whether a path is this one, if there is one
abbrev names_it : PathData → Option PathData → Bool
names_it p None = false
names_it p (Some q) = path_eq p q

holds_first : (o : Option PathData) (p : PathData) (ps : List PathData) → holds_at o (has_path (p ∷ ps)) ≡ (names_it p o || holds_at o (has_path ps))
holds_first None p ps = refl
holds_first (Some q) p ps = refl

has_named : (o : Option PathData) (ps : List PathData) (q : PathData) → has_path (cons_option o ps) q ≡ (is_path o q || has_path ps q)
has_named None ps q = refl
has_named (Some p) ps q = refl

found_path : (o : Option PathData) (p : PathData) → names_it p o ≡ true → o ≡ Some p
found_path None p e = absurd (let k : false ≡ true = e in cc)
found_path (Some q) p e = ap Some (sym (eq_is p q e))

is_path_is : (o : Option PathData) (p : PathData) → is_path o p ≡ true → o ≡ Some p
is_path_is None p e = absurd (let k : false ≡ true = e in cc)
is_path_is (Some q) p e = ap Some (eq_is q p e)

module _ (x : ℕ) (start : PathData) (q : PathData) (rooted : (q.root == x) ≡ true) where
  -- a held path has the name q exactly where q's own path in the caller is that path
  to_held : (p : PathData) → is_path (name_from_local x start p) q ≡ true → names_it p (extended start q.fields) ≡ true
  to_held p named =
      let whole = is_path_is (name_from_local x start p) q named in
      let parts = if_chosen (is_path (extended start (drop (length start.fields) p.fields)) p) (record { root = x; fields = drop (length start.fields) p.fields }) q whole in
      let fields : drop (length start.fields) p.fields ≡ q.fields = ap (λ (z : PathData). z.fields) parts.1 in
      let is = sym (ap (extended start) fields) ∙ is_path_is (extended start (drop (length start.fields) p.fields)) p parts.0 in
      ap (names_it p) is ∙ is_eq p p refl

  extended_fields : (p : PathData) → extended start q.fields ≡ Some p → start.fields ++ q.fields ≡ p.fields
  extended_fields p is = ap (λ (z : PathData). z.fields) ((if_chosen (nat_le (length (start.fields ++ q.fields)) most_fields) (record { root = start.root; fields = start.fields ++ q.fields }) p is).1)

  to_name : (p : PathData) → names_it p (extended start q.fields) ≡ true → is_path (name_from_local x start p) q ≡ true
  to_name p held =
      let is = found_path (extended start q.fields) p held in
      let fields : drop (length start.fields) p.fields ≡ q.fields = ap (drop (length start.fields)) (sym (extended_fields p is)) ∙ drop-append_seam start.fields q.fields in
      let test : is_path (extended start (drop (length start.fields) p.fields)) p ≡ true = ap (λ fs. is_path (extended start fs) p) fields ∙ ap (λ o. is_path o p) is ∙ is_eq p p refl in
      let path : record { root = x; fields = drop (length start.fields) p.fields } ≡ q = λ i. record { root = sym (eqb-true q.root x rooted) i; fields = fields i } in
      ap (λ b. is_path (if b then Some (record { root = x; fields = drop (length start.fields) p.fields }) else None) q) test ∙ is_eq (record { root = x; fields = drop (length start.fields) p.fields }) q path

  one_name : (p : PathData) → is_path (name_from_local x start p) q ≡ names_it p (extended start q.fields)
  one_name p = both_ways (is_path (name_from_local x start p) q) (names_it p (extended start q.fields)) (to_held p) (to_name p)

  names_at : (held : List PathData) → has_path (local_names x start held) q ≡ holds_at (extended start q.fields) (has_path held)
  names_at [] = sym (nothing_held (extended start q.fields))
    where
      nothing_held : (o : Option PathData) → holds_at o (has_path []) ≡ false
      nothing_held None = refl
      nothing_held (Some p) = refl
  names_at (p ∷ held) =
      has_named (name_from_local x start p) (local_names x start held) q ∙ (λ i. one_name p i || names_at held i) ∙ sym (holds_first (extended start q.fields) p held)

-- a name of a local is rooted there
no_name : (x : ℕ) (start : PathData) (held : List PathData) (q : PathData) → (q.root == x) ≡ false → has_path (local_names x start held) q ≡ false
no_name x start [] q other = refl
no_name x start (p ∷ held) q other = has_named (name_from_local x start p) (local_names x start held) q ∙ (λ i. not_named i || no_name x start held q other i)
  where
    not_named : is_path (name_from_local x start p) q ≡ false
    not_named = false_from_ne_true (is_path (name_from_local x start p) q) (λ named.
        let whole = is_path_is (name_from_local x start p) q named in
        let parts = if_chosen (is_path (extended start (drop (length start.fields) p.fields)) p) (record { root = x; fields = drop (length start.fields) p.fields }) q whole in
        let e : true ≡ false = sym (eq-eqb q.root x (sym (ap (λ (z : PathData). z.root) parts.1))) ∙ other in cc)

either_at : (a h n l : Bool) → (a ≡ true → n ≡ l) → (a ≡ false → n ≡ false) → ((if a then false else h) || n) ≡ (if a then l else h)
either_at true h n l rooted other = rooted refl
either_at false true n l rooted other = refl
either_at false false n l rooted other = other refl

left_at : (x : ℕ) (start : PathData) (held : List PathData) (q : PathData) → has_path (other_roots x held ++ local_names x start held) q ≡ after_local (has_path held) x (Some start) q
left_at x start held q =
    list_any-append (λ p. path_eq p q) (other_roots x held) (local_names x start held)
    ∙ ap (λ b. b || has_path (local_names x start held) q) (others_at x held q)
    ∙ either_at (q.root == x) (has_path held q) (has_path (local_names x start held) q) (holds_at (extended start q.fields) (has_path held)) (λ rooted. names_at x start q rooted held) (no_name x start held q)

-- the paths that are left and the local's names are the set after the declaration
pub left_is : (x : ℕ) (start : PathData) (held : List PathData) → has_path (other_roots x held ++ local_names x start held) ≡ after_local (has_path held) x (Some start)
left_is x start held = λ i q. left_at x start held q i
