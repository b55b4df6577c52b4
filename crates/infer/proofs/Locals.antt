-- The declaration of a final local, by what its near paths were before.
use Rattle.std.proofs.Common.{◌≡◌, ℕ, Bool, true, false, List, [], ◌∷◌, ◌++◌, Some, None, refl, sym, ap, subst, ◌∙◌, ◌&&◌, ◌||◌, ◌==◌, ◌⊎◌, inl, inr, length, arith}
use Rattle.std.specs.Prelude.{Option, Contains, slice_get, if◌then◌else◌}
use Rattle.std.proofs.lemmas.Bool.{cases_lt, or_left, or_right}
use Rattle.std.proofs.lemmas.Option.{slice_get_within, slice_get_cases}
use Rattle.paths.specs.Paths.{PathData, path_eq, extended_some}
use Rattle.paths.proofs.PathOrder.{eq_is}
use Rattle.algebra.specs.HeldPaths.{Held, has_path, holds_at, is_named, partner_held, renamed}
use Rattle.core_program.specs.declared.types.CoreType.{CoreType}
use Rattle.core_program.specs.Core.{Program, Method, Expr, Stmt, Stmts, EmptyS, BlockS, LocalS, SetVarS, SetFieldS, DoS, IfS, WhileS, SyncS, ReturnS, PrintS, StartS}
use Rattle.core_program.specs.Locks.{path_of}
use Rattle.rules.specs.Mentions.{Mention, Names, block_mentions}
use Rattle.rules.specs.Near.{Mentions, Near, required, locked, guarded, called, overriding, named, MethodPaths, AreRelevant, rel_of, loc_of, rel_paths, loc_paths}
use Rattle.rules.specs.Effect.{Assignment, after_local, after_stmt, block_effect}
use Rattle.rules.proofs.NearOnly.{Covers, block_same, rel_is}
use Rattle.infer.specs.Names.{names_from_slot, near_of, left_by}

named_step : (b : Bool) (pair : PathData × Option PathData) (rest : List (PathData × Option PathData)) (q : PathData) (c t h : Bool) → path_eq pair.0 q ≡ c → is_named rest q ≡ (t && h) → (c ≡ true → b ≡ t) → is_named (if b then pair ∷ rest else rest) q ≡ (t && (c || h))
named_step true pair rest q true true h is ih same = ap (λ c. c || is_named rest q) is
named_step true pair rest q true false h is ih same = absurd (let e : true ≡ false = same refl in cc)
named_step true pair rest q false t h is ih same = ap (λ c. c || is_named rest q) is ∙ ih
named_step false pair rest q true true h is ih same = absurd (let e : false ≡ true = same refl in cc)
named_step false pair rest q true false h is ih same = ih
named_step false pair rest q false t h is ih same = ih

partner_step : (H : Held) (b : Bool) (pair : PathData × Option PathData) (rest : List (PathData × Option PathData)) (q : PathData) (c t h w : Bool) → path_eq pair.0 q ≡ c → partner_held rest H q ≡ ((t && h) && w) → (c ≡ true → b ≡ t) → (c ≡ true → holds_at pair.1 H ≡ w) → partner_held (if b then pair ∷ rest else rest) H q ≡ ((t && (c || h)) && w)
partner_step H true pair rest q true true h true is ih same value = λ i. (is i && value refl i) || partner_held rest H q
partner_step H true pair rest q true true true false is ih same value = λ i. (is i && value refl i) || ih i
partner_step H true pair rest q true true false false is ih same value = λ i. (is i && value refl i) || ih i
partner_step H true pair rest q true false h w is ih same value = absurd (let e : true ≡ false = same refl in cc)
partner_step H true pair rest q false t h w is ih same value = ap (λ c. (c && holds_at pair.1 H) || partner_held rest H q) is ∙ ih
partner_step H false pair rest q true true h w is ih same value = absurd (let e : false ≡ true = same refl in cc)
partner_step H false pair rest q true false h w is ih same value = ih
partner_step H false pair rest q false t h w is ih same value = ih

module _ (H : Held) (x : ℕ) (o : Option PathData) (q : PathData) where
  names_of : (near : List PathData) → is_named (names_from_slot x o near) q ≡ (q.root == x && has_path near q)
  names_of [] = nothing (q.root == x)
    where
      nothing : (t : Bool) → false ≡ (t && false)
      nothing true = refl
      nothing false = refl
  names_of (p ∷ ps) = named_step (p.root == x) (p, extended_some o p.fields) (names_from_slot x o ps) q (path_eq p q) (q.root == x) (has_path ps q) refl (names_of ps)
      (λ same. ap (λ r. r.root == x) (eq_is p q same))

  partners_are : (near : List PathData) → partner_held (names_from_slot x o near) H q ≡ ((q.root == x && has_path near q) && holds_at (extended_some o q.fields) H)
  partners_are [] = nothing (q.root == x)
    where
      nothing : (t : Bool) → false ≡ ((t && false) && holds_at (extended_some o q.fields) H)
      nothing true = refl
      nothing false = refl
  partners_are (p ∷ ps) = partner_step H (p.root == x) (p, extended_some o p.fields) (names_from_slot x o ps) q (path_eq p q) (q.root == x) (has_path ps q) _ refl (partners_are ps)
      (λ same. ap (λ r. r.root == x) (eq_is p q same))
      (λ same. ap (λ r. holds_at (extended_some o r.fields) H) (eq_is p q same))

last : (t w h : Bool) → (if t && true then (t && true) && w else h) ≡ (if t then w else h)
last true w h = refl
last false w h = refl

after_is : (H : Held) (x : ℕ) (o : Option PathData) (q : PathData) → (if q.root == x then holds_at (extended_some o q.fields) H else H q) ≡ after_local H x o q
after_is H x None q = refl
after_is H x (Some p) q = refl

after_renamed : (near : List PathData) (H : Held) (x : ℕ) (o : Option PathData) (q : PathData) → has_path near q ≡ true → renamed (names_from_slot x o near) H q ≡ after_local H x o q
after_renamed near H x o q has =
    (λ i. if names_of H x o q near i then partners_are H x o q near i else H q)
    ∙ ap (λ h. if q.root == x && h then (q.root == x && h) && holds_at (extended_some o q.fields) H else H q) has
    ∙ last (q.root == x) _ _
    ∙ after_is H x o q

pub local_names_append : (x : ℕ) (o : Option PathData) (ps qs : List PathData) → names_from_slot x o ps ++ names_from_slot x o qs ≡ names_from_slot x o (ps ++ qs)
local_names_append x o [] qs = refl
local_names_append x o (p ∷ ps) qs = step (p.root == x) ∙ ap (λ rest. if p.root == x then (p, extended_some o p.fields) ∷ rest else rest) (local_names_append x o ps qs)
  where
    step : (b : Bool) → (if b then (p, extended_some o p.fields) ∷ names_from_slot x o ps else names_from_slot x o ps) ++ names_from_slot x o qs ≡ (if b then (p, extended_some o p.fields) ∷ (names_from_slot x o ps ++ names_from_slot x o qs) else (names_from_slot x o ps ++ names_from_slot x o qs))
    step true = refl
    step false = refl

has_append : (ps qs : List PathData) (q : PathData) → has_path (ps ++ qs) q ≡ (has_path ps q || has_path qs q)
has_append [] qs q = refl
has_append (p ∷ ps) qs q = step (path_eq p q) _ (has_path ps q) (has_path qs q) (has_append ps qs q)
  where
    step : (b h k l : Bool) → h ≡ (k || l) → (b || h) ≡ ((b || k) || l)
    step true h k l e = refl
    step false h k l e = e

sided : (r l : Bool) {A B : Type 0} → A ⊎ B → (A → l ≡ true) → (B → r ≡ true) → (r || l) ≡ true
sided r l (inl a) first second = or_right r l (first a)
sided r l (inr b) first second = or_left r l (second b)

missing : {A B : Type 0} (xs : List A) (ys : List B) (m : ℕ) (y : B) → length xs ≡ length ys → slice_get ys m ≡ Some y → slice_get xs m ≡ None → ⊥
missing xs ys m y count is none =
    let below = slice_get_within ys m y is in
    elim (slice_get_cases xs m).1 as (λ _. ⊥) [
      | inl found ↦ (let e : Some found.0 ≡ None = sym found.2 ∙ none in absurd cc)
      | inr past ↦ absurd (omega (arith, count, below, past.0))
    ]

module _ (P : Program) (sets : List MethodPaths) (relevant : AreRelevant P sets) where
  near_method : (m : ℕ) (p : PathData) → Near P m p → (method : Method) × (slice_get P.methods m ≡ Some method)
  near_method m p (required (method, is, has)) = (method, is)
  near_method m p (locked (method, is, has)) = (method, is)
  near_method m p (guarded e f (method, is, has) guard) = (method, is)
  near_method m p (called e callee args q (method, is, has) near outer under) = (method, is)
  near_method m p (overriding over o near outer (method, is, begins)) = (method, is)
  near_method m p (named q e start near (method, is, has) path fits) = (method, is)

  has_near : (m : ℕ) (method : Method) (q : PathData) → slice_get P.methods m ≡ Some method → Near P m q → (o : Option MethodPaths) → slice_get sets m ≡ o → has_path (rel_paths o ++ loc_paths o) q ≡ true
  has_near m method q is near None sets_is = absurd (missing sets P.methods m method relevant.count is sets_is)
  has_near m method q is near (Some paths) sets_is = has_append paths.rel paths.loc q ∙ sided _ _ (cases_lt (length method.params) q.root)
      (λ inner. ((relevant.each m paths sets_is).loc q).1 (near, (method, is, inner)))
      (λ outer. ((relevant.each m paths sets_is).rel q).1 (near, (method, is, outer)))

  near_has : (m : ℕ) (q : PathData) → Near P m q → has_path (near_of sets m) q ≡ true
  near_has m q near = let found = near_method m q near in has_near m found.0 q found.1 near (slice_get sets m) refl

  covered : (A : Assignment) (m : ℕ) (xs : List Mention) → ((x : Mention) → Contains xs x → Mentions P m x) → Covers P (rel_of sets) A (Near P m) xs
  covered A m xs part = record {
    guards = λ e f p has guard. guarded e f (part _ has) guard;
    locks = λ p has. locked (part _ has);
    calls = λ e callee args q p has in_rel under. let r = rel_is P sets relevant callee _ refl q in_rel in called e callee args q (part _ has) r.0 r.1 under;
    names = λ x e start q p has path near rooted fits. named q e start near (subst (λ y. Mentions P m (Names y e)) (sym rooted) (part _ has)) path fits;
  }

  left_is : (m : ℕ) (s : Stmt) (H : Held) (q : PathData) → Near P m q → left_by P (near_of sets m) s H q ≡ after_stmt P s H q
  left_is m (LocalS x true ty e) H q near = after_renamed (near_of sets m) H x (path_of P e) q (near_has m q near)
  left_is m (LocalS x false ty e) H q near = refl
  left_is m EmptyS H q near = refl
  left_is m (BlockS ss) H q near = refl
  left_is m (SetVarS x e) H q near = refl
  left_is m (SetFieldS e f g) H q near = refl
  left_is m (DoS e drops) H q near = refl
  left_is m (IfS c s t) H q near = refl
  left_is m (WhileS c s) H q near = refl
  left_is m (SyncS p s) H q near = refl
  left_is m (ReturnS e) H q near = refl
  left_is m (PrintS e) H q near = refl
  left_is m (StartS e) H q near = refl

  -- the rest of a block is the same at the set that the renaming leaves
  pub rest_same : (A : Assignment) (m : ℕ) (s : Stmt) (ss : Stmts) (H : Held) → ((x : Mention) → Contains (block_mentions ss) x → Mentions P m x) → block_effect P (rel_of sets) A ss (left_by P (near_of sets m) s H) ≡ block_effect P (rel_of sets) A ss (after_stmt P s H)
  rest_same A m s ss H part = block_same P (rel_of sets) A (Near P m) ss _ _ (covered A m _ part) (left_is m s H)

-- the renaming that the code makes leaves the set of the definitions
pub left_renamed : (P : Program) (sets : List MethodPaths) (m : ℕ) (s : Stmt) (x : ℕ) (ty : CoreType) (e : Expr) (o : Option PathData) (pairs : List (PathData × Option PathData)) (H : Held) → s ≡ LocalS x true ty e → o ≡ path_of P e → pairs ≡ names_from_slot x o (rel_of sets m) ++ names_from_slot x o (loc_of sets m) → renamed pairs H ≡ left_by P (near_of sets m) s H
left_renamed P sets m s x ty e o pairs H s_is o_is pairs_is =
    ap (λ ps. renamed ps H) (pairs_is ∙ local_names_append x o (rel_of sets m) (loc_of sets m) ∙ ap (λ p. names_from_slot x p (near_of sets m)) o_is)
    ∙ ap (λ t. left_by P (near_of sets m) t H) (sym s_is)
