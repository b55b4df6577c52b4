-- Rows of overriding methods give the near paths: rows of all of them, or of the nearest, where these pass the paths on.
use Rattle.std.proofs.Common.{◌≡◌, ℕ, zero, suc, ◌+◌, ◌-◌, ◌<◌, ◌≤◌, Bool, true, false, ◌==◌, ◌||◌, List, [], ◌∷◌, ◌++◌, length, Some, None, refl, sym, ap, subst, ◌∙◌, arith, inl, inr, append-nil, append_assoc}
use Rattle.std.specs.Prelude.{Option, Contains, slice_get, nat_le}
use Rattle.std.specs.List.{list_any}
use Rattle.std.proofs.lemmas.Bool.{and_parts, and_from, eqb-true, leb-true, or_cases, or_left, or_right}
use Rattle.std.proofs.lemmas.Option.{same_Some, slice_get_within}
use Rattle.base.proofs.Lists.{contains_cases}
use Rattle.paths.specs.Paths.{PathData}
use Rattle.core_program.specs.Core.{Program, Method}
use Rattle.core_program.specs.Dispatch.{class_fields}
use Rattle.rules.specs.Near.{begins_in, IsOuter, IsKnown}
use Rattle.rules.specs.declared.clauses.Clause.{Clause}
use Rattle.rules.specs.Clauses.{clauses_from, ReachedPath}
use Rattle.rules.specs.Search.{row_at}
use Rattle.rules.specs.Nearest.{LeadTo, near, further, AreNearest}
use Rattle.rules.specs.Overriding.{AreOverriders}
use Rattle.rules.specs.Passing.{GiveNear, row_clauses, rows_clauses, is_front, pass_on, row_passes, rows_pass, AreEnough, HasPassing}
use Rattle.rules.proofs.Reaching.{contains_none, near_from_reached, passed_down, reached_from_near}

-- ---- what a method passes on

-- what is among the fields of a front is among all
front_has : (f : ℕ) (xs ys : List ℕ) → is_front xs ys ≡ true → list_any (λ g. g == f) xs ≡ true → list_any (λ g. g == f) ys ≡ true
front_has f [] ys front has = absurd (let e : false ≡ true = has in cc)
front_has f (x ∷ xs) [] front has = absurd (let e : false ≡ true = front in cc)
front_has f (x ∷ xs) (y ∷ ys) front has =
    let both = and_parts (x == y) (is_front xs ys) front in
    elim (or_cases (x == f) (list_any (λ g. g == f) xs) has) as (λ _. ((y == f) || list_any (λ g. g == f) ys) ≡ true) [
      | inl here ↦ or_left (y == f) (list_any (λ g. g == f) ys) (subst (λ z. (z == f) ≡ true) (eqb-true x y both.0) here)
      | inr later ↦ or_right (y == f) (list_any (λ g. g == f) ys) (front_has f xs ys both.1 later)
    ]

begins_still : (P : Program) (c d root : ℕ) (fields : List ℕ) → is_front (class_fields (slice_get P.classes c)) (class_fields (slice_get P.classes d)) ≡ true
    → begins_in P c root fields ≡ true → begins_in P d root fields ≡ true
begins_still P c d (suc x) fields front begins = refl
begins_still P c d zero [] front begins = refl
begins_still P c d zero (f ∷ fs) front begins = front_has f (class_fields (slice_get P.classes c)) (class_fields (slice_get P.classes d)) front begins

-- two methods that are there, where the first passes on to the second
record Passes (P : Program) (m over : ℕ) : Type 0 where
  first : Method
  second : Method
  is_first : slice_get P.methods m ≡ Some first
  is_second : slice_get P.methods over ≡ Some second
  few : length second.params ≤ length first.params
  front : is_front (class_fields (slice_get P.classes first.class)) (class_fields (slice_get P.classes second.class)) ≡ true

passing : (P : Program) (m over : ℕ) (o k : Option Method) → slice_get P.methods m ≡ o → slice_get P.methods over ≡ k → pass_on P o k ≡ true → Passes P m over
passing P m over None k is_first is_second e = absurd (let f : false ≡ true = e in cc)
passing P m over (Some first) None is_first is_second e = absurd (let f : false ≡ true = e in cc)
passing P m over (Some first) (Some second) is_first is_second e =
    let both = and_parts (nat_le (length second.params) (length first.params)) (is_front (class_fields (slice_get P.classes first.class)) (class_fields (slice_get P.classes second.class))) e in
    record { first = first; second = second; is_first = is_first; is_second = is_second; few = leb-true (length second.params) (length first.params) both.0; front = both.1 }

-- a path that an overriding method has from outside is one that the other has from outside
outer_still : (P : Program) (m over : ℕ) (p : PathData) → Passes P m over → IsOuter P over p → IsOuter P m p
outer_still P m over p k (method, is, root) =
    let same : method ≡ k.second = same_Some method k.second (sym is ∙ k.is_second) in
    let below : p.root ≤ length k.second.params = subst (λ x. p.root ≤ length x.params) same root in
    let few = k.few in
    (k.first, k.is_first, omega (arith, below, few))

-- a path that the other knows is one that the overriding method knows
known_still : (P : Program) (m over : ℕ) (p : PathData) → Passes P m over → IsKnown P m p → IsKnown P over p
known_still P m over p k (method, is, begins) =
    let same : method ≡ k.first = same_Some method k.first (sym is ∙ k.is_first) in
    (k.second, k.is_second, begins_still P k.first.class k.second.class p.root p.fields k.front (subst (λ x. begins_in P x.class p.root p.fields ≡ true) same begins))

-- ---- each of the rows

row_has : (P : Program) (m : ℕ) (row : List ℕ) (over : ℕ) → row_passes P m row ≡ true → Contains row over → pass_on P (slice_get P.methods m) (slice_get P.methods over) ≡ true
row_has P m [] over all has = contains_none over has
row_has P m (x ∷ row) over all has =
    let both = and_parts (pass_on P (slice_get P.methods m) (slice_get P.methods x)) (row_passes P m row) all in
    elim (contains_cases x over row has) as (λ _. pass_on P (slice_get P.methods m) (slice_get P.methods over) ≡ true) [
      | inl e ↦ subst (λ n. pass_on P (slice_get P.methods m) (slice_get P.methods n) ≡ true) e both.0
      | inr h ↦ row_has P m row over both.1 h
    ]

rows_have : (P : Program) (rows : List (List ℕ)) (m count k : ℕ) → rows_pass P rows m count ≡ true → k < count → row_passes P (m + k) (row_at rows (m + k)) ≡ true
rows_have P rows m zero k all below = absurd (omega (arith, below))
rows_have P rows m (suc count) zero all below =
    let e0 : m ≡ m + 0 = omega arith in
    subst (λ n. row_passes P n (row_at rows n) ≡ true) e0 (and_parts (row_passes P m (row_at rows m)) (rows_pass P rows (m + 1) count) all).0
rows_have P rows m (suc count) (suc k) all below =
    let e1 : m + 1 + k ≡ m + suc k = omega arith in
    subst (λ n. row_passes P n (row_at rows n) ≡ true) e1
    (rows_have P rows (m + 1) count k (and_parts (row_passes P m (row_at rows m)) (rows_pass P rows (m + 1) count) all).1 (omega (arith, below)))

module _ (P : Program) (rows : List (List ℕ)) where
  abbrev Told : ℕ → PathData → Type 0
  Told = ReachedPath P (clauses_from P 0 P.methods ++ rows_clauses P rows 0 (length P.methods))

  module _ (all : rows_pass P rows 0 (length P.methods) ≡ true) where
    -- a method that is there passes on to each of its row
    to_next : (m over : ℕ) (method : Method) → slice_get P.methods m ≡ Some method → Contains (row_at rows m) over → Passes P m over
    to_next m over method is has =
        let e0 : 0 + m ≡ m = omega arith in
        passing P m over (slice_get P.methods m) (slice_get P.methods over) refl refl
        (row_has P m (row_at rows m) over (subst (λ n. row_passes P n (row_at rows n) ≡ true) e0 (rows_have P rows 0 (length P.methods) m all (slice_get_within P.methods m method is))) has)

    known_on : (m over : ℕ) (p : PathData) → LeadTo rows m over → IsKnown P m p → IsKnown P over p
    known_on m over p (near has) known = known_still P m over p (to_next m over known.0 known.1 has) known
    known_on m over p (further middle lead has) known =
        let at = known_on m middle p lead known in
        known_still P middle over p (to_next middle over at.0 at.1 has) at

    -- what is reached from the last of a chain is reached from its first
    along : (m over : ℕ) (p : PathData) → LeadTo rows m over → IsOuter P over p → IsKnown P m p → Told over p → Told m p
    along m over p (near has) outer known reached = passed_down P rows m over p has outer known reached
    along m over p (further middle lead has) outer known reached =
        let at = known_on m middle p lead known in
        along m middle p lead (outer_still P middle over p (to_next middle over at.0 at.1 has) outer) known (passed_down P rows middle over p has outer at reached)

  give_all : AreOverriders P rows → GiveNear P (clauses_from P 0 P.methods ++ rows_clauses P rows 0 (length P.methods))
  give_all are m p = (
    near_from_reached P rows (λ n over has. (are n over).0 has) m p,
    reached_from_near P (rows_clauses P rows 0 (length P.methods)) (λ n over q o outer known reached. passed_down P rows n over q ((are n over).1 o) outer known reached) m p,
  )

  give_nearest : AreNearest P rows → rows_pass P rows 0 (length P.methods) ≡ true → GiveNear P (clauses_from P 0 P.methods ++ rows_clauses P rows 0 (length P.methods))
  give_nearest are all m p = (
    near_from_reached P rows are.sound m p,
    reached_from_near P (rows_clauses P rows 0 (length P.methods)) (λ n over q o outer known reached. along all n over q (are.lead n over o) outer known reached) m p,
  )

  give_near : AreEnough P rows → GiveNear P (clauses_from P 0 P.methods ++ rows_clauses P rows 0 (length P.methods))
  give_near (inl are) = give_all are
  give_near (inr are) = give_nearest are.0 are.1

-- the clauses of the methods' bodies, and then what overriding methods tell
pub gives_near : (P : Program) (old new : List Clause) → old ≡ clauses_from P 0 P.methods → HasPassing P old new → GiveNear P new
gives_near P old new is h = subst (GiveNear P) (sym (h.are ∙ ap (λ cs. cs ++ rows_clauses P h.rows 0 (length P.methods)) is)) (give_near P h.rows h.enough)

-- ---- the rows so far

-- what those of one method more tell
pub told_more : (P : Program) (rows : List (List ℕ)) (now new whole : List Clause) (place method count : ℕ) (row : List ℕ) → place < count → method ≡ place → row ≡ row_at rows method
    → new ≡ now ++ row_clauses P method row → now ++ rows_clauses P rows place (count - place) ≡ whole → new ++ rows_clauses P rows (place + 1) (count - (place + 1)) ≡ whole
told_more P rows now new whole place method count row below is is_row added so_far =
    let left : suc (count - (place + 1)) ≡ count - place = omega (arith, below) in
    let rest = rows_clauses P rows (place + 1) (count - (place + 1)) in
    ap (λ l. l ++ rest) (added ∙ ap (λ r. now ++ row_clauses P method r) is_row ∙ ap (λ n. now ++ row_clauses P n (row_at rows n)) is)
    ∙ append_assoc now (row_clauses P place (row_at rows place)) rest
    ∙ ap (λ n. now ++ rows_clauses P rows place n) left
    ∙ so_far

-- where none is left
pub told_all : (P : Program) (rows : List (List ℕ)) (now whole : List Clause) (place count : ℕ) → count ≤ place → now ++ rows_clauses P rows place (count - place) ≡ whole → now ≡ whole
told_all P rows now whole place count past so_far =
    let left : count - place ≡ 0 = omega (arith, past) in
    sym (append-nil now) ∙ ap (λ n. now ++ rows_clauses P rows place n) (sym left) ∙ so_far

-- where those of one method more pass on
pub pass_more : (P : Program) (rows : List (List ℕ)) (place method count : ℕ) (row : List ℕ) (whole : Bool) → place < count → method ≡ place → row ≡ row_at rows method
    → row_passes P method row ≡ true → (rows_pass P rows place (count - place) ≡ true → whole ≡ true) → rows_pass P rows (place + 1) (count - (place + 1)) ≡ true → whole ≡ true
pass_more P rows place method count row whole below is is_row passes so_far rest =
    let left : suc (count - (place + 1)) ≡ count - place = omega (arith, below) in
    so_far (subst (λ n. rows_pass P rows place n ≡ true) left
    (and_from (row_passes P place (row_at rows place)) (rows_pass P rows (place + 1) (count - (place + 1)))
    (subst (λ n. row_passes P n (row_at rows n) ≡ true) is (subst (λ r. row_passes P method r ≡ true) is_row passes)) rest))

pub pass_all : (P : Program) (rows : List (List ℕ)) (place count : ℕ) (whole : Bool) → count ≤ place → (rows_pass P rows place (count - place) ≡ true → whole ≡ true) → whole ≡ true
pass_all P rows place count whole past so_far =
    let left : 0 ≡ count - place = omega (arith, past) in
    so_far (subst (λ n. rows_pass P rows place n ≡ true) left refl)
