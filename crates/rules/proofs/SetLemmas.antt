-- Sets of held paths, part by part.
use Rattle.std.proofs.Common.{◌≡◌, ℕ, Bool, true, false, List, [], ◌∷◌, Some, None, refl, sym, ap, subst, ◌∙◌, inl, inr, ◌&&◌, ◌||◌, ◌==◌}
use Rattle.std.specs.Prelude.{Option, if◌then◌else◌}
use Rattle.std.specs.List.{list_all}
use Rattle.std.proofs.lemmas.Bool.{and_from, or_cases, or_left, or_right}
use Rattle.paths.specs.Paths.{PathData, path_eq, extended}
use Rattle.paths.specs.Renamings.{under_call}
use Rattle.paths.proofs.PathOrder.{eq_is, eq_itself}
use Rattle.algebra.specs.HeldPaths.{Held, has_path, with_path, holds_at}
use Rattle.core_program.specs.Core.{Program, Stmt, EmptyS, BlockS, LocalS, SetVarS, SetFieldS, DoS, IfS, WhileS, SyncS, ReturnS, PrintS, StartS}
use Rattle.core_program.specs.Locks.{path_of}
use Rattle.rules.specs.Effect.{held_under, after_local, after_stmt}
use Rattle.rules.specs.Rules.{IsSubset, held_in}

pub first : (a b : Bool) → (a && b) ≡ true → a ≡ true
first true b h = refl
first false b h = absurd cc

pub second : (a b : Bool) → (a && b) ≡ true → b ≡ true
second true b h = h
second false b h = absurd cc

-- a test that each path of a list passes
pub all_has : (ps : List PathData) (H : Held) → list_all H ps ≡ true → IsSubset (has_path ps) H
all_has [] H a q h = absurd (let e : false ≡ true = h in cc)
all_has (p ∷ ps) H a q h = elim (or_cases (path_eq p q) (has_path ps q) h) as (λ _. H q ≡ true) [
  | inl same ↦ subst (λ x. H x ≡ true) (eq_is p q same) (first (H p) (list_all H ps) a)
  | inr later ↦ all_has ps H (second (H p) (list_all H ps) a) q later
]

-- a test that each path of a list passes, since each is in the set
pub has_all : (ps : List PathData) (H : Held) → IsSubset (has_path ps) H → list_all H ps ≡ true
has_all [] H part = refl
has_all (p ∷ ps) H part =
    and_from (H p) (list_all H ps) (part p (or_left (path_eq p p) (has_path ps p) (eq_itself p)))
    (has_all ps H (λ q has. part q (or_right (path_eq p q) (has_path ps q) has)))

-- a set of relevant paths has no others
pub held_whole : (rel : List PathData) (H : Held) → IsSubset H (has_path rel) → held_in rel H ≡ H
held_whole rel H part = λ i q. whole (has_path rel q) (H q) (part q) i
  where
    whole : (r h : Bool) → (h ≡ true → r ≡ true) → (r && h) ≡ h
    whole true h there = refl
    whole false false there = refl
    whole false true there = there refl

and_part : (a b d : Bool) → (b ≡ true → d ≡ true) → (a && b) ≡ true → (a && d) ≡ true
and_part true b d h e = h e
and_part false b d h e = e

or_part : (a b d : Bool) → (b ≡ true → d ≡ true) → (a || b) ≡ true → (a || d) ≡ true
or_part true b d h e = refl
or_part false b d h e = h e

if_part : (t a b c d : Bool) → (a ≡ true → c ≡ true) → (b ≡ true → d ≡ true) → (if t then a else b) ≡ true → (if t then c else d) ≡ true
if_part true a b c d h k e = h e
if_part false a b c d h k e = k e

module _ (H K : Held) (part : IsSubset H K) where
  at_part : (o : Option PathData) → holds_at o H ≡ true → holds_at o K ≡ true
  at_part None e = e
  at_part (Some p) e = part p e

  pub all_part : (ps : List PathData) → list_all H ps ≡ true → list_all K ps ≡ true
  all_part [] e = refl
  all_part (p ∷ ps) e = and_from (K p) (list_all K ps) (part p (first (H p) (list_all H ps) e)) (all_part ps (second (H p) (list_all H ps) e))

  pub under_part : (rel : List PathData) (o : Option PathData) (args : List (Option PathData)) → IsSubset (held_under rel o args H) (held_under rel o args K)
  under_part rel o args q e = and_part (has_path rel q) _ _ (at_part (under_call o args q)) e

  pub with_part : (p : PathData) → IsSubset (with_path p H) (with_path p K)
  with_part p q e = or_part (path_eq p q) _ _ (part q) e

  local_part : (x : ℕ) (o : Option PathData) → IsSubset (after_local H x o) (after_local K x o)
  local_part x None q e = if_part (q.root == x) false (H q) false (K q) (λ f. f) (part q) e
  local_part x (Some p) q e = if_part (q.root == x) _ (H q) _ (K q) (at_part (extended p q.fields)) (part q) e

  pub after_part : (P : Program) (s : Stmt) → IsSubset (after_stmt P s H) (after_stmt P s K)
  after_part P (LocalS x true ty e) = local_part x (path_of P e)
  after_part P (LocalS x false ty e) = part
  after_part P EmptyS = part
  after_part P (BlockS ss) = part
  after_part P (SetVarS x e) = part
  after_part P (SetFieldS e f g) = part
  after_part P (DoS e drops) = part
  after_part P (IfS c s t) = part
  after_part P (WhileS c s) = part
  after_part P (SyncS p s) = part
  after_part P (ReturnS e) = part
  after_part P (PrintS e) = part
  after_part P (StartS e) = part

-- a set that has a path is no smaller with it
with_held : (b c : Bool) → (b ≡ true → c ≡ true) → (h : Bool) → (h ≡ true → c ≡ true) → (b || h) ≡ true → c ≡ true
with_held true c k h l e = k refl
with_held false c k h l e = l e

pub with_path_part : (H K : Held) → IsSubset H K → (p : PathData) → K p ≡ true → IsSubset (with_path p H) K
with_path_part H K part p has q e = with_held (path_eq p q) (K q) (λ same. ap K (sym (eq_is p q same)) ∙ has) (H q) (part q) e
