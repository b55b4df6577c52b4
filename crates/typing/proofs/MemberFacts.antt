-- What the grammar, the class faults and the type faults tell of the members of all classes, and how many nodes they have.
use Rattle.std.proofs.Common.{◌≡◌, ℕ, ◌+◌, ◌≤◌, suc, Bool, true, false, List, [], ◌∷◌, ◌++◌, map, flat_map, length, Option, Some, None, refl, sym, ◌∙◌, slice_get, arith, if◌then◌else◌, length-append, IsSome, sum_by, max}
use Rattle.std.proofs.lemmas.List.{length-map}
use Rattle.std.proofs.lemmas.List.Sums.{sum_by-cons}
use Rattle.lexer.specs.declared.tokens.Token.{Token}
use Rattle.core_program.specs.Core.{Method}
use Rattle.core_program.specs.Sizes.{stmt_nodes}
use Rattle.syntax.specs.Grammar.{Repeats, SpellsGuard, SpellsField, SpellsMember, SpellsClass}
use Rattle.syntax.specs.Heights.{stmt_heights, highest_member, highest_body}
use Rattle.syntax.specs.Limits.{most_height}
use Rattle.syntax.specs.Trees.{LockTree, MethodTree, FieldTree, MemberTree, FieldM, CtorM, MethodM, ClassTree, ProgramTree}
use Rattle.classes.specs.Members.{has_none, finals_of, param_names}
use Rattle.classes.specs.Faults.{twice_faults}
use Rattle.classes.specs.Faults as class_fault
use Rattle.classes.proofs.Faultless.{few_names}
use Rattle.classes.specs.Table.{TableData}
use Rattle.typing.specs.Programs.{member_type_faults, method_faults, type_faults_from}
use Rattle.typing.proofs.Complete.{front_empty, back_empty}
use Rattle.classes.proofs.Parts.{Each, each_both}
use Rattle.typing.proofs.Parts.{each_faultless, head_same, tail_same}
use Rattle.typing.proofs.Places.{FieldAt, MethodAt, own_fields, own_methods, fields_at, methods_at, core_method}
use Rattle.typing.proofs.Spelled.{members_size, program_size}
use Rattle.typing.proofs.StmtSizes.{stmt_sizes}

-- ---- what the grammar tells of members

-- a final field has no guard, and a field that is guarded for writing only has one
pub record IsWellGuarded (d : FieldAt) : Type 0 where
  pub plain : d.field.is_final ≡ true → d.field.guard ≡ None
  pub writes : d.field.writes_only ≡ true → IsSome d.field.guard

guard_stands : (writes_only : Bool) (guard : Option LockTree) (ts : List Token) → SpellsGuard writes_only guard ts → writes_only ≡ true → IsSome guard
guard_stands writes_only None ts h is = absurd (let e : false ≡ true = sym h.0 ∙ is in cc)
guard_stands writes_only (Some l) ts h is = refl

well_guarded : (k i : ℕ) (fin : Bool) (f : FieldTree) (ts : List Token) → f.is_final ≡ fin → SpellsField fin f ts → IsWellGuarded (record { class = k; index = i; field = f })
well_guarded k i true f ts final_is (x, d, c, type_is, none, plain, is) = record {
  plain = λ h. none;
  writes = λ set. absurd (let e : false ≡ true = sym plain ∙ set in cc);
}
well_guarded k i false f ts final_is (x, gs, c, type_is, guard_is, is) = record {
  plain = λ h. absurd (let e : false ≡ true = sym final_is ∙ h in cc);
  writes = guard_stands f.writes_only f.guard gs guard_is;
}

own_guarded : (k i : ℕ) (ms : List MemberTree) (ts : List Token) → Repeats SpellsMember ms ts → Each IsWellGuarded (own_fields k i ms)
own_guarded k i [] ts h = tt
own_guarded k i (FieldM f ∷ ms) ts (xs, ys, (ps, zs, public_is, one, is_own), rest, is) = (well_guarded k i f.is_final f zs refl one, own_guarded k (i + 1) ms ys rest)
own_guarded k i (CtorM n params sets ∷ ms) ts (xs, ys, one, rest, is) = own_guarded k i ms ys rest
own_guarded k i (MethodM m ∷ ms) ts (xs, ys, one, rest, is) = own_guarded k i ms ys rest

pub all_guarded : (start : ℕ → ℕ) (k : ℕ) (cs : ProgramTree) (ts : List Token) → Repeats SpellsClass cs ts → Each IsWellGuarded (fields_at start k cs)
all_guarded start k [] ts h = tt
all_guarded start k (c ∷ cs) ts (us, vs, (ps, es, rs, xs, d, b, e, public_is, extends_is, runnable_is, members, is_own), rest, is) =
    each_both IsWellGuarded (own_fields k (start k) c.members) (fields_at start (k + 1) cs) (own_guarded k (start k) c.members xs members) (all_guarded start (k + 1) cs vs rest)

abbrev pub IsLow : MethodAt → Type 0
IsLow d = 1 + stmt_heights d.method.body ≤ most_height

max_left : (a b n : ℕ) → max a b ≤ n → a ≤ n
max_left a b n h = grind arith

max_right : (a b n : ℕ) → max a b ≤ n → b ≤ n
max_right a b n h = grind arith

own_low : (k : ℕ) (ms : List MemberTree) → highest_member ms ≤ most_height → Each IsLow (own_methods k ms)
own_low k [] h = tt
own_low k (FieldM f ∷ ms) h = own_low k ms (max_right 0 (highest_member ms) most_height h)
own_low k (CtorM n params sets ∷ ms) h = own_low k ms (max_right 0 (highest_member ms) most_height h)
own_low k (MethodM m ∷ ms) h =
    (max_left (1 + stmt_heights m.body) (highest_member ms) most_height h, own_low k ms (max_right (1 + stmt_heights m.body) (highest_member ms) most_height h))

pub all_low : (k : ℕ) (cs : ProgramTree) → highest_body cs ≤ most_height → Each IsLow (methods_at k cs)
all_low k [] h = tt
all_low k (c ∷ cs) h =
    each_both IsLow (own_methods k c.members) (methods_at (k + 1) cs)
    (own_low k c.members (max_left (highest_member c.members) (highest_body cs) most_height h))
    (all_low (k + 1) cs (max_right (highest_member c.members) (highest_body cs) most_height h))

-- ---- what the class faults tell of members

abbrev pub IsKnownField : (List ℕ → Bool) → FieldAt → Type 0
IsKnownField known d = class_fault.type_faults known d.field.ty ≡ []

pub record IsKnownMethod (known : List ℕ → Bool) (d : MethodAt) : Type 0 where
  pub result : class_fault.result_faults known d.method.returns ≡ []
  pub params : Each (λ p. class_fault.type_faults known p.ty ≡ []) d.method.params
  pub few : length d.method.params ≤ 16

known_method : (known : List ℕ → Bool) (k : ℕ) (m : MethodTree) → class_fault.member_all_class_faults known (MethodM m) ≡ [] → IsKnownMethod known (record { class = k; method = m })
known_method known k m h =
    let result = class_fault.result_faults known m.returns in
    let twice = twice_faults (param_names m.params) in
    let types = flat_map (λ p. class_fault.type_faults known p.ty) m.params in
    let many = class_fault.too_many_faults (slice_get (param_names m.params) 16) in
    let params = back_empty result (twice ++ types ++ many) h in
    record {
      result = front_empty result (twice ++ types ++ many) h;
      params = each_faultless (λ p. class_fault.type_faults known p.ty) m.params (back_empty twice types (front_empty (twice ++ types) many params));
      few = omega (arith, few_names (param_names m.params) 16 (back_empty (twice ++ types) many params), length-map m.params (λ p. p.name));
    }

own_known : (known : List ℕ → Bool) (k i : ℕ) (ms : List MemberTree) → flat_map (class_fault.member_all_class_faults known) ms ≡ [] → Each (IsKnownField known) (own_fields k i ms)
own_known known k i [] h = tt
own_known known k i (FieldM f ∷ ms) h = (
  front_empty (class_fault.type_faults known f.ty) (flat_map (class_fault.member_all_class_faults known) ms) h,
  own_known known k (i + 1) ms (back_empty (class_fault.type_faults known f.ty) (flat_map (class_fault.member_all_class_faults known) ms) h),
)
own_known known k i (CtorM n params sets ∷ ms) h =
    own_known known k i ms (back_empty (class_fault.params_faults known params) (flat_map (class_fault.member_all_class_faults known) ms) h)
own_known known k i (MethodM m ∷ ms) h =
    own_known known k i ms (back_empty (class_fault.member_all_class_faults known (MethodM m)) (flat_map (class_fault.member_all_class_faults known) ms) h)

own_known_methods : (known : List ℕ → Bool) (k : ℕ) (ms : List MemberTree) → flat_map (class_fault.member_all_class_faults known) ms ≡ [] → Each (IsKnownMethod known) (own_methods k ms)
own_known_methods known k [] h = tt
own_known_methods known k (FieldM f ∷ ms) h =
    own_known_methods known k ms (back_empty (class_fault.type_faults known f.ty) (flat_map (class_fault.member_all_class_faults known) ms) h)
own_known_methods known k (CtorM n params sets ∷ ms) h =
    own_known_methods known k ms (back_empty (class_fault.params_faults known params) (flat_map (class_fault.member_all_class_faults known) ms) h)
own_known_methods known k (MethodM m ∷ ms) h = (
  known_method known k m (front_empty (class_fault.member_all_class_faults known (MethodM m)) (flat_map (class_fault.member_all_class_faults known) ms) h),
  own_known_methods known k ms (back_empty (class_fault.member_all_class_faults known (MethodM m)) (flat_map (class_fault.member_all_class_faults known) ms) h),
)

-- the members of a class have no faults of their own
abbrev pub HasKnown : (List ℕ → Bool) → ClassTree → Type 0
HasKnown known c = flat_map (class_fault.member_all_class_faults known) c.members ≡ []

pub all_known : (start : ℕ → ℕ) (known : List ℕ → Bool) (k : ℕ) (cs : ProgramTree) → Each (HasKnown known) cs → Each (IsKnownField known) (fields_at start k cs)
all_known start known k [] h = tt
all_known start known k (c ∷ cs) h =
    each_both (IsKnownField known) (own_fields k (start k) c.members) (fields_at start (k + 1) cs) (own_known known k (start k) c.members h.0) (all_known start known (k + 1) cs h.1)

pub all_known_methods : (known : List ℕ → Bool) (k : ℕ) (cs : ProgramTree) → Each (HasKnown known) cs → Each (IsKnownMethod known) (methods_at k cs)
all_known_methods known k [] h = tt
all_known_methods known k (c ∷ cs) h =
    each_both (IsKnownMethod known) (own_methods k c.members) (methods_at (k + 1) cs) (own_known_methods known k c.members h.0) (all_known_methods known (k + 1) cs h.1)

pub each_from : {A : Type 0} (P : A → Type 0) (xs : List A) → ((i : ℕ) (x : A) → slice_get xs i ≡ Some x → P x) → Each P xs
each_from P [] h = tt
each_from P (x ∷ xs) h = (h 0 x refl, each_from P xs (λ i y at. h (suc i) y at))

-- ---- what the type faults tell of methods

abbrev pub HasNoFaults : TableData → MethodAt → Type 0
HasNoFaults t d = method_faults t d.class d.method ≡ []

own_faultless : (t : TableData) (k : ℕ) (ms : List MemberTree) → flat_map (member_type_faults t k) ms ≡ [] → Each (HasNoFaults t) (own_methods k ms)
own_faultless t k [] h = tt
own_faultless t k (FieldM f ∷ ms) h = own_faultless t k ms (back_empty (member_type_faults t k (FieldM f)) (flat_map (member_type_faults t k) ms) h)
own_faultless t k (CtorM n params sets ∷ ms) h = own_faultless t k ms h
own_faultless t k (MethodM m ∷ ms) h =
    (front_empty (method_faults t k m) (flat_map (member_type_faults t k) ms) h, own_faultless t k ms (back_empty (method_faults t k m) (flat_map (member_type_faults t k) ms) h))

pub all_faultless : (t : TableData) (k : ℕ) (cs : ProgramTree) → type_faults_from t k cs ≡ [] → Each (HasNoFaults t) (methods_at k cs)
all_faultless t k [] h = tt
all_faultless t k (c ∷ cs) h =
    each_both (HasNoFaults t) (own_methods k c.members) (methods_at (k + 1) cs)
    (own_faultless t k c.members (front_empty (flat_map (member_type_faults t k) c.members) (type_faults_from t (k + 1) cs) h))
    (all_faultless t (k + 1) cs (back_empty (flat_map (member_type_faults t k) c.members) (type_faults_from t (k + 1) cs) h))

-- ---- sizes

abbrev pub bodies_size : List MethodAt → ℕ
bodies_size [] = 0
bodies_size (d ∷ ds) = (1 + stmt_sizes d.method.body) + bodies_size ds

bodies_both : (xs ys : List MethodAt) → bodies_size (xs ++ ys) ≡ bodies_size xs + bodies_size ys
bodies_both [] ys = omega arith
bodies_both (x ∷ xs) ys = omega (arith, bodies_both xs ys)

own_size : (k i : ℕ) (ms : List MemberTree) → length (own_fields k i ms) + length (own_methods k ms) + bodies_size (own_methods k ms) ≡ members_size ms
own_size k i [] = refl
own_size k i (FieldM f ∷ ms) = omega (arith, own_size k (i + 1) ms)
own_size k i (CtorM n params sets ∷ ms) = omega (arith, own_size k i ms)
own_size k i (MethodM m ∷ ms) = omega (arith, own_size k i ms)

pub all_size : (start : ℕ → ℕ) (k : ℕ) (cs : ProgramTree) → length cs + length (fields_at start k cs) + length (methods_at k cs) + bodies_size (methods_at k cs) ≡ program_size cs
all_size start k [] = refl
all_size start k (c ∷ cs) =
    omega (
      arith,
      own_size k (start k) c.members,
      all_size start (k + 1) cs,
      length-append (own_fields k (start k) c.members) (fields_at start (k + 1) cs),
      length-append (own_methods k c.members) (methods_at (k + 1) cs),
      bodies_both (own_methods k c.members) (methods_at (k + 1) cs),
    )

pub bodies_long : (t : TableData) (ds : List MethodAt) (xs : List Method) → map (core_method t) ds ≡ map Some xs
    → ((d : MethodAt) (x : Method) → core_method t d ≡ Some x → stmt_nodes x.body ≤ 1 + stmt_sizes d.method.body)
    → sum_by (λ m. stmt_nodes m.body) xs ≤ bodies_size ds
bodies_long t [] [] e h = omega arith
bodies_long t [] (x ∷ xs) e h = absurd (let k : [] ≡ Some x ∷ map Some xs = e in cc)
bodies_long t (d ∷ ds) [] e h = absurd (let k : core_method t d ∷ map (core_method t) ds ≡ [] = e in cc)
bodies_long t (d ∷ ds) (x ∷ xs) e h =
    omega (
      arith,
      sum_by-cons (λ m. stmt_nodes m.body) x xs,
      h d x (head_same (core_method t d) (Some x) (map (core_method t) ds) (map Some xs) e),
      bodies_long t ds xs (tail_same (core_method t d) (Some x) (map (core_method t) ds) (map Some xs) e) h,
    )

-- ---- final fields

plain_first : {A : Type 0} (fin : Bool) (x : A) (rest : List A) → has_none (if fin then x ∷ rest else rest) ≡ true → (fin ≡ false) × (has_none rest ≡ true)
plain_first true x rest h = absurd (let e : false ≡ true = h in cc)
plain_first false x rest h = (refl, h)

pub none_are_final : (k i : ℕ) (ms : List MemberTree) → has_none (finals_of ms) ≡ true → Each (λ d. d.field.is_final ≡ false) (own_fields k i ms)
none_are_final k i [] h = tt
none_are_final k i (FieldM f ∷ ms) h =
    let p = plain_first f.is_final (f.ty, f.name) (finals_of ms) h in (p.0, none_are_final k (i + 1) ms p.1)
none_are_final k i (CtorM n params sets ∷ ms) h = none_are_final k i ms h
none_are_final k i (MethodM m ∷ ms) h = none_are_final k i ms h
