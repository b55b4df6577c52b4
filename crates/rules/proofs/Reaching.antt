-- What is reached by a program's clauses are the near paths.
use Rattle.std.proofs.Common.{◌≡◌, ℕ, zero, suc, ◌+◌, ◌<◌, ◌≤◌, Bool, true, false, ◌==◌, ◌&&◌, List, [], ◌∷◌, ◌++◌, length, map, Some, None, refl, sym, ap, subst, ◌∙◌, arith, inl, inr}
use Rattle.std.specs.Prelude.{Option, Contains, slice_get, nat_le, if◌then◌else◌}
use Rattle.std.proofs.lemmas.List.Elements.{Contains-append_left, Contains-append_right, Contains-append_cases}
use Rattle.std.proofs.lemmas.Bool.Decides.{nat_tests}
use Rattle.std.proofs.lemmas.Bool.{le-leb, leb-true, eqb-true, eq-eqb, and_from}
use Rattle.std.proofs.lemmas.Option.{none-some, same_Some, slice_get_within}
use Rattle.base.proofs.Lists.{contains_cases, contains_later}
use Rattle.paths.specs.Paths.{PathData, extended, extended_some}
use Rattle.paths.specs.Renamings.{argument_at, passed}
use Rattle.core_program.specs.Core.{Program, Class, Method, Expr, Exprs}
use Rattle.core_program.specs.Dispatch.{partner, targets_in, Overrides}
use Rattle.core_program.specs.Locks.{path_of}
use Rattle.rules.specs.Guards.{guard_of, guard_path}
use Rattle.rules.specs.Mentions.{Mention, Accesses, Calls, Locks, Names, mentions, paths_of}
use Rattle.rules.specs.Near.{begins_in, Near, required, locked, guarded, called, overriding, named, Mentions, Requires, IsOuter, IsKnown}
use Rattle.rules.specs.declared.clauses.Way.TheVariants as way
use Rattle.rules.specs.declared.clauses.Link.{Link}
use Rattle.rules.specs.declared.clauses.Clause.{Clause}
use Rattle.rules.specs.declared.clauses.Clause.TheVariants as clause
use Rattle.rules.specs.Clauses.{fact, link_clauses, passed_clauses, all_passed, params_of, call_clauses, guard_clauses, clauses_at, clauses_of, method_clauses, clauses_from, method_class, is_this_number, kept_clauses, led_by, ReachedPath, given, led}
use Rattle.rules.specs.Search.{row_at}
use Rattle.rules.specs.Passing.{row_clauses, rows_clauses}

pub contains_none : {A : Type 0} {X : Type 0} (x : A) → Contains [] x → X
contains_none x (k, below, is) = absurd (omega arith)

pub contains_here : {A : Type 0} (x : A) (xs : List A) → Contains (x ∷ xs) x
contains_here x xs = (0, omega arith, refl)

pub contains_one : {A : Type 0} (x y : A) → Contains (x ∷ []) y → x ≡ y
contains_one x y has = elim (contains_cases x y [] has) as (λ _. x ≡ y) [ inl e ↦ e | inr none ↦ contains_none y none ]

-- a rule that holds of the near paths of a program
abbrev IsSound : Program → Clause → Type 0
IsSound P (clause.Fact x) = Near P x.method x.path
IsSound P (clause.Leads link) = (q p : PathData) → Near P link.from q → led_by P link.way q ≡ Some p → Near P link.to p

abbrev AllSound : Program → List Clause → Type 0
AllSound P cs = (c : Clause) → Contains cs c → IsSound P c

none_sound : (P : Program) → AllSound P []
none_sound P c has = contains_none c has

one_sound : (P : Program) (x : Clause) → IsSound P x → AllSound P (x ∷ [])
one_sound P x sound c has = subst (IsSound P) (contains_one x c has) sound

both_sound : (P : Program) (xs ys : List Clause) → AllSound P xs → AllSound P ys → AllSound P (xs ++ ys)
both_sound P xs ys first second c has = elim (Contains-append_cases xs ys c has) as (λ _. IsSound P c) [ inl h ↦ first c h | inr h ↦ second c h ]

-- what a slot of a callee stands for, in one list
passed_at : (receiver : Option PathData) (args : List (Option PathData)) (x : ℕ) → passed receiver args x ≡ argument_at (slice_get (receiver ∷ args) x)
passed_at receiver args zero = refl
passed_at receiver args (suc n) = refl

some_extended : (o : Option PathData) (start p : PathData) (fields : List ℕ) → o ≡ Some start → extended start fields ≡ Some p → extended_some o fields ≡ Some p
some_extended o start p fields is fits = ap (λ x. extended_some x fields) is ∙ fits

-- what a slot stands for, in a path that is rooted at it
passed_parts : (P : Program) (root : ℕ) (start q p : PathData) → led_by P (way.Passed root start) q ≡ Some p → (q.root ≡ root) × (extended start q.fields ≡ Some p)
passed_parts P root start q p = by_root (q.root == root) refl
  where
    by_root : (b : Bool) → (q.root == root) ≡ b → (if b then extended start q.fields else None) ≡ Some p → (q.root ≡ root) × (extended start q.fields ≡ Some p)
    by_root true same e = (eqb-true q.root root same, e)
    by_root false other e = absurd (none-some p e)

passed_led : (P : Program) (root : ℕ) (start q p : PathData) → q.root ≡ root → extended start q.fields ≡ Some p → led_by P (way.Passed root start) q ≡ Some p
passed_led P root start q p same fits = ap (λ b. if b then extended start q.fields else None) (eq-eqb q.root root same) ∙ fits

-- a path that stays
kept_parts : (P : Program) (params class : ℕ) (q p : PathData) → led_by P (way.Kept params class) q ≡ Some p → (nat_le q.root params ≡ true) × (begins_in P class q.root q.fields ≡ true) × (q ≡ p)
kept_parts P params class q p = by_tests (nat_le q.root params) (begins_in P class q.root q.fields)
  where
    by_tests : (a b : Bool) → (if a && b then Some q else None) ≡ Some p → (a ≡ true) × (b ≡ true) × (q ≡ p)
    by_tests true true e = (refl, refl, same_Some q p e)
    by_tests true false e = absurd (none-some p e)
    by_tests false b e = absurd (none-some p e)

module _ (P : Program) (m : ℕ) (method : Method) (is : slice_get P.methods m ≡ Some method) where
  module _ (e : Expr) (callee : ℕ) (args : Exprs) (mention : Contains (mentions method.body) (Calls e callee args)) (other : Method) (there : slice_get P.methods callee ≡ Some other) where
    passed_sound : (root : ℕ) (o : Option PathData) → passed (path_of P e) (paths_of P args) root ≡ o → (b : Bool) → nat_le root (length other.params) ≡ b → AllSound P (if b then link_clauses callee root m o else [])
    passed_sound root o at false in_params = none_sound P
    passed_sound root None at true in_params = none_sound P
    passed_sound root (Some start) at true in_params = one_sound P _ (λ q p near led_is.
        let k = passed_parts P root start q p led_is in
        called e callee args q (method, is, mention) near
        (other, there, subst (λ r. r ≤ length other.params) (sym k.0) (let h = in_params in grind (arith, nat_tests)))
        (some_extended _ start p q.fields (subst (λ r. passed (path_of P e) (paths_of P args) r ≡ Some start) (sym k.0) at) k.1))

    all_passed_sound : (root : ℕ) (rest : List (Option PathData)) → ((k : ℕ) (o : Option PathData) → slice_get rest k ≡ Some o → passed (path_of P e) (paths_of P args) (root + k) ≡ o) → AllSound P (all_passed (length other.params) callee root m rest)
    all_passed_sound root [] at = none_sound P
    all_passed_sound root (o ∷ rest) at = both_sound P _ _
        (passed_sound root o (let e0 : root + 0 ≡ root = omega arith in subst (λ r. passed (path_of P e) (paths_of P args) r ≡ o) e0 (at 0 o refl)) _ refl)
        (all_passed_sound (root + 1) rest (λ k x has. let e1 : root + suc k ≡ root + 1 + k = omega arith in subst (λ r. passed (path_of P e) (paths_of P args) r ≡ x) e1 (at (suc k) x has)))

  call_sound : (e : Expr) (callee : ℕ) (args : Exprs) → Contains (mentions method.body) (Calls e callee args) → (o : Option Method) → slice_get P.methods callee ≡ o → AllSound P (call_clauses callee m (params_of o) (path_of P e) (paths_of P args))
  call_sound e callee args mention None there = none_sound P
  call_sound e callee args mention (Some other) there = both_sound P _ _
      (passed_sound e callee args mention other there 0 (path_of P e) refl _ refl)
      (all_passed_sound e callee args mention other there 1 (paths_of P args) (λ k o has. let e1 : suc k ≡ 1 + k = omega arith in subst (λ r. passed (path_of P e) (paths_of P args) r ≡ o) e1 (ap argument_at has)))

  guard_sound : (e : Expr) (f : ℕ) → Contains (mentions method.body) (Accesses e f) → (o : Option PathData) → guard_path (guard_of P f (path_of P e)) ≡ o → AllSound P (guard_clauses m o)
  guard_sound e f mention None at = none_sound P
  guard_sound e f mention (Some p) at = one_sound P _ (guarded e f (method, is, mention) at)

  name_sound : (x : ℕ) (e : Expr) → Contains (mentions method.body) (Names x e) → (o : Option PathData) → path_of P e ≡ o → AllSound P (link_clauses m x m o)
  name_sound x e mention None at = none_sound P
  name_sound x e mention (Some start) at = one_sound P _ (λ q p near led_is.
      let k = passed_parts P x start q p led_is in
      named q e start near (method, is, subst (λ r. Contains (mentions method.body) (Names r e)) (sym k.0) mention) at k.1)

  mention_sound : (x : Mention) → Contains (mentions method.body) x → AllSound P (clauses_at P m x)
  mention_sound (Accesses e f) mention = guard_sound e f mention _ refl
  mention_sound (Calls e callee args) mention = call_sound e callee args mention _ refl
  mention_sound (Locks p) mention = one_sound P _ (locked (method, is, mention))
  mention_sound (Names x e) mention = name_sound x e mention _ refl

  mentions_sound : (xs : List Mention) → ((x : Mention) → Contains xs x → Contains (mentions method.body) x) → AllSound P (clauses_of P m xs)
  mentions_sound [] part = none_sound P
  mentions_sound (x ∷ xs) part = both_sound P _ _ (mention_sound x (part x (contains_here x xs))) (mentions_sound xs (λ y has. part y (contains_later x y xs has)))

  required_sound : (ps : List PathData) → ((p : PathData) → Contains ps p → Contains method.requires_ p) → AllSound P (map (λ p. fact m p) ps)
  required_sound [] part c has = contains_none c has
  required_sound (p ∷ ps) part c has = elim (contains_cases (fact m p) c (map (λ p. fact m p) ps) has) as (λ _. IsSound P c) [
    | inl e ↦ subst (IsSound P) e (required (method, is, part p (contains_here p ps)))
    | inr h ↦ required_sound ps (λ q has. part q (contains_later p q ps has)) c h
  ]

  method_sound : AllSound P (method_clauses P m method)
  method_sound = both_sound P _ _ (required_sound method.requires_ (λ p has. has)) (mentions_sound (mentions method.body) (λ x has. has))

all_sound : (P : Program) (m : ℕ) (methods : List Method) → ((k : ℕ) (method : Method) → slice_get methods k ≡ Some method → slice_get P.methods (m + k) ≡ Some method) → AllSound P (clauses_from P m methods)
all_sound P m [] at = none_sound P
all_sound P m (method ∷ methods) at = both_sound P _ _
    (method_sound P m method (let e0 : m + 0 ≡ m = omega arith in subst (λ n. slice_get P.methods n ≡ Some method) e0 (at 0 method refl)))
    (all_sound P (m + 1) methods (λ k x has. let e1 : m + suc k ≡ m + 1 + k = omega arith in subst (λ n. slice_get P.methods n ≡ Some x) e1 (at (suc k) x has)))

-- of overriding methods

pub number_is : (o : Option ℕ) (n : ℕ) → is_this_number o n ≡ true → o ≡ Some n
number_is None n e = absurd (let k : false ≡ true = e in cc)
number_is (Some k) n e = ap Some (eqb-true k n e)

kept_sound : (P : Program) (over m : ℕ) → Overrides P over m → (first second : Option Method) → slice_get P.methods over ≡ first → slice_get P.methods m ≡ second → AllSound P (kept_clauses over m (params_of first) (method_class second))
kept_sound P over m o None second is_first is_second = none_sound P
kept_sound P over m o (Some first) None is_first is_second = none_sound P
kept_sound P over m o (Some first) (Some second) is_first is_second = one_sound P _ (λ q p near led_is.
    let k = kept_parts P (length first.params) second.class q p led_is in
    subst (Near P m) k.2 (overriding over o near (first, is_first, leb-true q.root (length first.params) k.0) (second, is_second, k.1)))

row_sound : (P : Program) (m : ℕ) (row : List ℕ) → ((over : ℕ) → Contains row over → Overrides P over m) → AllSound P (row_clauses P m row)
row_sound P m [] overs = none_sound P
row_sound P m (over ∷ row) overs =
    both_sound P (kept_clauses over m (params_of (slice_get P.methods over)) (method_class (slice_get P.methods m))) (row_clauses P m row)
    (kept_sound P over m (overs over (contains_here over row)) (slice_get P.methods over) (slice_get P.methods m) refl refl)
    (row_sound P m row (λ x has. overs x (contains_later over x row has)))

rows_sound : (P : Program) (rows : List (List ℕ)) (m count : ℕ) → ((n over : ℕ) → Contains (row_at rows n) over → Overrides P over n) → AllSound P (rows_clauses P rows m count)
rows_sound P rows m zero overs = none_sound P
rows_sound P rows m (suc count) overs =
    both_sound P (row_clauses P m (row_at rows m)) (rows_clauses P rows (m + 1) count) (row_sound P m (row_at rows m) (overs m)) (rows_sound P rows (m + 1) count overs)

program_sound : (P : Program) (rows : List (List ℕ)) → ((n over : ℕ) → Contains (row_at rows n) over → Overrides P over n) → AllSound P (clauses_from P 0 P.methods ++ rows_clauses P rows 0 (length P.methods))
program_sound P rows overs = both_sound P (clauses_from P 0 P.methods) (rows_clauses P rows 0 (length P.methods))
    (all_sound P 0 P.methods (λ k method has. let e : k ≡ 0 + k = omega arith in subst (λ n. slice_get P.methods n ≡ Some method) e has))
    (rows_sound P rows 0 (length P.methods) overs)

sound_near : (P : Program) (cs : List Clause) → AllSound P cs → (m : ℕ) (p : PathData) → ReachedPath P cs m p → Near P m p
sound_near P cs sound m p (given has) = sound _ has
sound_near P cs sound m p (led link q reached has fits) = sound _ has q p (sound_near P cs sound _ q reached) fits

pub near_from_reached : (P : Program) (rows : List (List ℕ)) → ((n over : ℕ) → Contains (row_at rows n) over → Overrides P over n)
    → (m : ℕ) (p : PathData) → ReachedPath P (clauses_from P 0 P.methods ++ rows_clauses P rows 0 (length P.methods)) m p → Near P m p
near_from_reached P rows overs m p reached = sound_near P _ (program_sound P rows overs) m p reached

-- Each rule of the family is among the clauses.

in_clauses_of : (P : Program) (m : ℕ) (xs : List Mention) (x : Mention) (c : Clause) → Contains xs x → Contains (clauses_at P m x) c → Contains (clauses_of P m xs) c
in_clauses_of P m [] x c has in_one = contains_none x has
in_clauses_of P m (y ∷ xs) x c has in_one = elim (contains_cases y x xs has) as (λ _. Contains (clauses_of P m (y ∷ xs)) c) [
  | inl e ↦ Contains-append_left (clauses_at P m y) (clauses_of P m xs) c (subst (λ z. Contains (clauses_at P m z) c) (sym e) in_one)
  | inr h ↦ Contains-append_right (clauses_at P m y) (clauses_of P m xs) c (in_clauses_of P m xs x c h in_one)
]

in_clauses_from : (P : Program) (m : ℕ) (methods : List Method) (k : ℕ) (method : Method) (c : Clause) → slice_get methods k ≡ Some method → Contains (method_clauses P (m + k) method) c → Contains (clauses_from P m methods) c
in_clauses_from P m [] k method c at has = absurd cc
in_clauses_from P m (first ∷ methods) zero method c at has =
    let e0 : m + 0 ≡ m = omega arith in
    let f : Option Method → Method = λ o. elim o as (λ _. Method) [ None ↦ first | Some x ↦ x ] in
    let same : method ≡ first = sym (ap f at) in
    Contains-append_left (method_clauses P m first) (clauses_from P (m + 1) methods) c (subst (λ n. Contains (method_clauses P n first) c) e0 (subst (λ x. Contains (method_clauses P (m + 0) x) c) same has))
in_clauses_from P m (first ∷ methods) (suc k) method c at has =
    let e1 : m + suc k ≡ m + 1 + k = omega arith in
    Contains-append_right (method_clauses P m first) (clauses_from P (m + 1) methods) c (in_clauses_from P (m + 1) methods k method c at (subst (λ n. Contains (method_clauses P n method) c) e1 has))

in_program : (P : Program) (others : List Clause) (m : ℕ) (method : Method) (c : Clause) → slice_get P.methods m ≡ Some method → Contains (method_clauses P m method) c → Contains (clauses_from P 0 P.methods ++ others) c
in_program P others m method c at has =
    let e : m ≡ 0 + m = omega arith in
    Contains-append_left (clauses_from P 0 P.methods) others c
    (in_clauses_from P 0 P.methods m method c at (subst (λ n. Contains (method_clauses P n method) c) e has))

mentioned : (P : Program) (others : List Clause) (m : ℕ) (x : Mention) (c : Clause) → Mentions P m x → Contains (clauses_at P m x) c → Contains (clauses_from P 0 P.methods ++ others) c
mentioned P others m x c (method, is, has) in_one =
    in_program P others m method c is (Contains-append_right (map (λ p. fact m p) method.requires_) (clauses_of P m (mentions method.body)) c (in_clauses_of P m (mentions method.body) x c has in_one))

in_facts : (m : ℕ) (ps : List PathData) (p : PathData) → Contains ps p → Contains (map (λ p. fact m p) ps) (fact m p)
in_facts m [] p has = contains_none p has
in_facts m (q ∷ ps) p has = elim (contains_cases q p ps has) as (λ _. Contains (map (λ p. fact m p) (q ∷ ps)) (fact m p)) [
  | inl e ↦ subst (λ x. Contains (fact m q ∷ map (λ p. fact m p) ps) (fact m x)) e (contains_here (fact m q) (map (λ p. fact m p) ps))
  | inr h ↦ contains_later (fact m q) (fact m p) (map (λ p. fact m p) ps) (in_facts m ps p h)
]

in_requires : (P : Program) (others : List Clause) (m : ℕ) (p : PathData) → Requires P m p → Contains (clauses_from P 0 P.methods ++ others) (fact m p)
in_requires P others m p (method, is, has) =
    in_program P others m method (fact m p) is (Contains-append_left (map (λ p. fact m p) method.requires_) (clauses_of P m (mentions method.body)) (fact m p) (in_facts m method.requires_ p has))

guard_in : (m : ℕ) (o : Option PathData) (p : PathData) → o ≡ Some p → Contains (guard_clauses m o) (fact m p)
guard_in m o p is = subst (λ x. Contains (guard_clauses m x) (fact m p)) (sym is) (contains_here (fact m p) [])

link_in : (from root to : ℕ) (o : Option PathData) (start : PathData) → o ≡ Some start → Contains (link_clauses from root to o) (clause.Leads (record { from = from; to = to; way = way.Passed root start }))
link_in from root to o start is = subst (λ x. Contains (link_clauses from root to x) (clause.Leads (record { from = from; to = to; way = way.Passed root start }))) (sym is) (contains_here _ [])

passed_in : (params from root to : ℕ) (o : Option PathData) (start : PathData) → o ≡ Some start → (b : Bool) → b ≡ true → Contains (if b then link_clauses from root to o else []) (clause.Leads (record { from = from; to = to; way = way.Passed root start }))
passed_in params from root to o start is true in_params = link_in from root to o start is
passed_in params from root to o start is false in_params = absurd cc

all_passed_in : (params from root to : ℕ) (rest : List (Option PathData)) (k : ℕ) (start : PathData) → argument_at (slice_get rest k) ≡ Some start → nat_le (root + k) params ≡ true → Contains (all_passed params from root to rest) (clause.Leads (record { from = from; to = to; way = way.Passed (root + k) start }))
all_passed_in params from root to [] k start at in_params = absurd cc
all_passed_in params from root to (o ∷ rest) zero start at in_params =
    let e0 : root ≡ root + 0 = omega arith in
    subst (λ r. Contains (all_passed params from root to (o ∷ rest)) (clause.Leads (record { from = from; to = to; way = way.Passed r start }))) e0
    (Contains-append_left (passed_clauses params from root to o) (all_passed params from (root + 1) to rest) _
    (passed_in params from root to o start at _ (subst (λ r. nat_le r params ≡ true) (sym e0) in_params)))
all_passed_in params from root to (o ∷ rest) (suc k) start at in_params =
    let e1 : root + 1 + k ≡ root + suc k = omega arith in
    Contains-append_right (passed_clauses params from root to o) (all_passed params from (root + 1) to rest) _
    (subst (λ r. Contains (all_passed params from (root + 1) to rest) (clause.Leads (record { from = from; to = to; way = way.Passed r start }))) e1
    (all_passed_in params from (root + 1) to rest k start at (subst (λ r. nat_le r params ≡ true) (sym e1) in_params)))

-- what a root of the callee stands for is in the clauses of the call
call_in : (params from to : ℕ) (receiver : Option PathData) (args : List (Option PathData)) (root : ℕ) (start : PathData) → passed receiver args root ≡ Some start → nat_le root params ≡ true → Contains (call_clauses from to (Some params) receiver args) (clause.Leads (record { from = from; to = to; way = way.Passed root start }))
call_in params from to receiver args zero start at in_params =
    Contains-append_left (passed_clauses params from 0 to receiver) (all_passed params from 1 to args) _ (passed_in params from 0 to receiver start at _ in_params)
call_in params from to receiver args (suc n) start at in_params =
    let e1 : 1 + n ≡ suc n = omega arith in
    Contains-append_right (passed_clauses params from 0 to receiver) (all_passed params from 1 to args) _
    (subst (λ r. Contains (all_passed params from 1 to args) (clause.Leads (record { from = from; to = to; way = way.Passed r start }))) e1
    (all_passed_in params from 1 to args n start at (subst (λ r. nat_le r params ≡ true) (sym e1) in_params)))

-- the path that a defined renaming begins with
start_of : (o : Option PathData) (fields : List ℕ) (p : PathData) → extended_some o fields ≡ Some p → (start : PathData) × (o ≡ Some start) × (extended start fields ≡ Some p)
start_of None fields p is = absurd cc
start_of (Some start) fields p is = (start, refl, is)

-- the pairs of a class

pub partner_in : (ps : List (ℕ × ℕ)) (m n : ℕ) → partner ps m ≡ Some n → Contains ps (m, n)
partner_in [] m n e = absurd (none-some n e)
partner_in (p ∷ ps) m n e = by_first (p.0 == m) refl (partner_in ps m n) e
  where
    by_first : (b : Bool) → (p.0 == m) ≡ b → (partner ps m ≡ Some n → Contains ps (m, n)) → (if b then Some p.1 else partner ps m) ≡ Some n → Contains (p ∷ ps) (m, n)
    by_first true same later e =
        let first = eqb-true p.0 m same in
        let second = same_Some p.1 n e in
        let pair : p ≡ (m, n) = (λ i. (first i, second i)) in
        subst (Contains (p ∷ ps)) pair (contains_here p ps)
    by_first false other later e = contains_later p (m, n) ps (later e)

pub class_with : (o : Option Class) (m n : ℕ) → partner (targets_in o) m ≡ Some n → (class : Class) × (o ≡ Some class) × (partner class.targets m ≡ Some n)
class_with None m n e = absurd (none-some n e)
class_with (Some class) m n e = (class, refl, e)

-- What overriding methods tell is among the clauses of the rows.

in_row : (P : Program) (m : ℕ) (row : List ℕ) (over : ℕ) (x : Clause) → Contains row over
    → kept_clauses over m (params_of (slice_get P.methods over)) (method_class (slice_get P.methods m)) ≡ x ∷ [] → Contains (row_clauses P m row) x
in_row P m [] over x has is = contains_none over has
in_row P m (first ∷ row) over x has is =
    let here : ℕ → List Clause = λ n. kept_clauses n m (params_of (slice_get P.methods n)) (method_class (slice_get P.methods m)) in
    elim (contains_cases first over row has) as (λ _. Contains (row_clauses P m (first ∷ row)) x) [
      | inl e ↦ Contains-append_left (here first) (row_clauses P m row) x (subst (λ l. Contains l x) (sym is ∙ sym (ap here e)) (contains_here x []))
      | inr h ↦ Contains-append_right (here first) (row_clauses P m row) x (in_row P m row over x h is)
    ]

in_rows : (P : Program) (rows : List (List ℕ)) (m count k : ℕ) (x : Clause) → k < count → Contains (row_clauses P (m + k) (row_at rows (m + k))) x → Contains (rows_clauses P rows m count) x
in_rows P rows m zero k x below has = absurd (omega (arith, below))
in_rows P rows m (suc count) zero x below has =
    let e0 : m + 0 ≡ m = omega arith in
    Contains-append_left (row_clauses P m (row_at rows m)) (rows_clauses P rows (m + 1) count) x (subst (λ n. Contains (row_clauses P n (row_at rows n)) x) e0 has)
in_rows P rows m (suc count) (suc k) x below has =
    let e1 : m + suc k ≡ m + 1 + k = omega arith in
    Contains-append_right (row_clauses P m (row_at rows m)) (rows_clauses P rows (m + 1) count) x
    (in_rows P rows (m + 1) count k x (omega (arith, below)) (subst (λ n. Contains (row_clauses P n (row_at rows n)) x) e1 has))

-- a path that an overriding method of a row has is reached from the method of the row
pub passed_down : (P : Program) (rows : List (List ℕ)) (m over : ℕ) (p : PathData) → Contains (row_at rows m) over → IsOuter P over p → IsKnown P m p
    → ReachedPath P (clauses_from P 0 P.methods ++ rows_clauses P rows 0 (length P.methods)) over p
    → ReachedPath P (clauses_from P 0 P.methods ++ rows_clauses P rows 0 (length P.methods)) m p
passed_down P rows m over p has (first, is_first, root) (second, is_second, begins) reached =
    let link : Link = record { from = over; to = m; way = way.Kept (length first.params) second.class } in
    let kept : kept_clauses over m (params_of (slice_get P.methods over)) (method_class (slice_get P.methods m)) ≡ clause.Leads link ∷ [] =
    ap (λ z. kept_clauses over m (params_of z) (method_class (slice_get P.methods m))) is_first ∙ ap (λ z. kept_clauses over m (Some (length first.params)) (method_class z)) is_second in
    let e0 : m ≡ 0 + m = omega arith in
    led link p reached
    (Contains-append_right (clauses_from P 0 P.methods) (rows_clauses P rows 0 (length P.methods)) (clause.Leads link)
    (in_rows P rows 0 (length P.methods) m (clause.Leads link) (slice_get_within P.methods m second is_second)
    (subst (λ n. Contains (row_clauses P n (row_at rows n)) (clause.Leads link)) e0 (in_row P m (row_at rows m) over (clause.Leads link) has kept))))
    (ap (λ b. if b then Some p else None) (and_from (nat_le p.root (length first.params)) (begins_in P second.class p.root p.fields) (le-leb p.root (length first.params) root) begins))

-- near paths are reached, where those of overriding methods are passed down
module _ (P : Program) (others : List Clause)
    (passes : (m over : ℕ) (p : PathData) → Overrides P over m → IsOuter P over p → IsKnown P m p → ReachedPath P (clauses_from P 0 P.methods ++ others) over p → ReachedPath P (clauses_from P 0 P.methods ++ others) m p) where
  pub reached_from_near : (m : ℕ) (p : PathData) → Near P m p → ReachedPath P (clauses_from P 0 P.methods ++ others) m p
  reached_from_near m p (required has) = given (in_requires P others m p has)
  reached_from_near m p (locked has) = given (mentioned P others m (Locks p) (fact m p) has (contains_here (fact m p) []))
  reached_from_near m p (guarded e f has is) = given (mentioned P others m (Accesses e f) (fact m p) has (guard_in m (guard_path (guard_of P f (path_of P e))) p is))
  reached_from_near m p (called e callee args q has near outer under) =
      let s = start_of (passed (path_of P e) (paths_of P args) q.root) q.fields p under in
      let link : Link = record { from = callee; to = m; way = way.Passed q.root s.0 } in
      led link q (reached_from_near callee q near)
      (mentioned P others m (Calls e callee args) (clause.Leads link) has
      (subst (λ o. Contains (call_clauses callee m (params_of o) (path_of P e) (paths_of P args)) (clause.Leads link)) (sym outer.1)
      (call_in (length outer.0.params) callee m (path_of P e) (paths_of P args) q.root s.0 s.1 (le-leb q.root (length outer.0.params) outer.2))))
      (passed_led P q.root s.0 q p refl s.2)
  reached_from_near m p (overriding over o near outer known) = passes m over p o outer known (reached_from_near over p near)
  reached_from_near m p (named q e start near has is fits) =
      let link : Link = record { from = m; to = m; way = way.Passed q.root start } in
      led link q (reached_from_near m q near) (mentioned P others m (Names q.root e) (clause.Leads link) has (link_in m q.root m (path_of P e) start is)) (passed_led P q.root start q p refl fits)
