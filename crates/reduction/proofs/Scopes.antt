-- Variables in scope: slots are numbered in order of declaration, so a final one isn't stored again.
use Rattle.std.proofs.Common.{◌≡◌, inl, inr, ℕ, zero, suc, ◌+◌, ◌<◌, Bool, true, false, ◌&&◌, ◌||◌, ◌==◌, List, [], ◌∷◌, Some, None, refl, sym, ap, ◌∙◌, arith}
use Rattle.std.specs.Prelude.{Option, slice_get, Contains}
use Rattle.std.specs.List.{list_all}
use Rattle.std.proofs.lemmas.Bool.Decides.{nat_tests}
use Rattle.base.proofs.Lists.{contains_cases}
use Rattle.core_program.specs.declared.types.CoreType.{CoreType}
use Rattle.core_program.specs.declared.types.CoreType.TheVariants as type
use Rattle.core_program.specs.Core.{Program, Expr, Stmt, Stmts, EmptyS, BlockS, LocalS, SetVarS, SetFieldS, DoS, IfS, WhileS, SyncS, ReturnS, PrintS, StartS, no_stmts, and_stmt}
use Rattle.core_program.specs.Dispatch.{is_kind_of}
use Rattle.core_program.specs.Locks.{is_class, leads_on}
use Rattle.core_program.specs.Types.{NodeType, ValueT, int_type, boolean_type, class_type, Variable, HasType, HasFit}
use Rattle.core_program.specs.Typed.{IsRoot, LeadsOn, gives_value, variables_after, declared_in, declared_in_each, IsTyped, IsTypedStmt, AreTypedStmts, IsResult}
use Rattle.reduction.specs.Fits.{valued, stores, stores_each, Apart, TidyE, TidyS, TidyBlock}
use Rattle.reduction.proofs.Typing.{valued_is, gives_is, typed_tidy, fits_gives}

-- Variables by slot.

-- the variables in this slot are final
abbrev pub Fixed : ℕ → List Variable → Type 0
Fixed r scope = (v : Variable) → Contains scope v → v.slot ≡ r → v.is_final ≡ true

-- slots of the scope: below the next one, above that of `this`, and each of one finality
pub record Scope (scope : List Variable) (next : ℕ) : Type 0 where
  pub below : (v : Variable) → Contains scope v → v.slot < next
  pub above : (v : Variable) → Contains scope v → 0 < v.slot
  pub alike : (v w : Variable) → Contains scope v → Contains scope w → v.slot ≡ w.slot → v.is_final ≡ w.is_final
  pub low : 0 < next

pub scope_more : (scope : List Variable) (next n later : ℕ) → later ≡ next + n → Scope scope next → Scope scope later
scope_more scope next n later is s = record {
  below = λ v has. let b = s.below v has in omega (arith, b, is);
  above = s.above;
  alike = s.alike;
  low = let l = s.low in omega (arith, l, is);
}

pub scope_local : (x : ℕ) (is_final : Bool) (ty : CoreType) (scope : List Variable) (next : ℕ) → x ≡ next → Scope scope next → Scope (record { slot = x; is_final = is_final; ty = ty } ∷ scope) (next + 1)
scope_local x is_final ty scope next is s = record {
  below = λ v has. elim (contains_cases (record { slot = x; is_final = is_final; ty = ty }) v scope has) as (λ _. v.slot < next + 1) [
    | inl same ↦ let e : x ≡ v.slot = ap (λ w. w.slot) same in omega (arith, e, is)
    | inr rest ↦ let b = s.below v rest in omega (arith, b)
  ];
  above = λ v has. elim (contains_cases (record { slot = x; is_final = is_final; ty = ty }) v scope has) as (λ _. 0 < v.slot) [
    | inl same ↦ let e : x ≡ v.slot = ap (λ w. w.slot) same in let l = s.low in omega (arith, e, is, l)
    | inr rest ↦ s.above v rest
  ];
  alike = λ v w first second same.
      elim (contains_cases (record { slot = x; is_final = is_final; ty = ty }) v scope first) as (λ _. v.is_final ≡ w.is_final) [
        | inl a ↦ elim (contains_cases (record { slot = x; is_final = is_final; ty = ty }) w scope second) as (λ _. v.is_final ≡ w.is_final) [
          | inl b ↦ ap (λ u. u.is_final) (sym a ∙ b)
          | inr b ↦ absurd (let e : x ≡ v.slot = ap (λ u. u.slot) a in let l = s.below w b in omega (arith, e, is, same, l))
        ]
        | inr a ↦ elim (contains_cases (record { slot = x; is_final = is_final; ty = ty }) w scope second) as (λ _. v.is_final ≡ w.is_final) [
          | inl b ↦ absurd (let e : x ≡ w.slot = ap (λ u. u.slot) b in let l = s.below v a in omega (arith, e, is, same, l))
          | inr b ↦ s.alike v w a b same
        ]
      ];
  low = omega arith;
}

-- a slot of the scope with its finality is of that finality alone
pub fixed_by : (scope : List Variable) (next : ℕ) (v : Variable) → Scope scope next → Contains scope v → v.is_final ≡ true → Fixed v.slot scope
fixed_by scope next v s has final w in_scope same = s.alike w v in_scope has same ∙ final

module _ (P : Program) (typed : IsTyped P) (class : ℕ) (result : Option CoreType) where
  abbrev pub After : Stmt → List Variable → ℕ → Type 0
  After s scope next = Scope (variables_after s scope) (next + declared_in s)

  nothing_more : (n : ℕ) → n ≡ n + 0
  nothing_more n = omega arith

  -- the scope after a typed statement
  pub scope_next : (s : Stmt) (scope : List Variable) (next : ℕ) → IsTypedStmt P class result s scope next → Scope scope next → After s scope next
  scope_next (LocalS x is_final ty e) scope next t s = scope_local x is_final ty scope next t.0 s
  scope_next EmptyS scope next t s = scope_more scope next 0 (next + 0) refl s
  scope_next (BlockS ss) scope next t s = scope_more scope next (declared_in_each ss) (next + declared_in_each ss) refl s
  scope_next (SetVarS x e) scope next t s = scope_more scope next 0 (next + 0) refl s
  scope_next (SetFieldS e f g) scope next t s = scope_more scope next 0 (next + 0) refl s
  scope_next (DoS e drops) scope next t s = scope_more scope next 0 (next + 0) refl s
  scope_next (IfS c a b) scope next t s = scope_more scope next (declared_in a + declared_in b) (next + (declared_in a + declared_in b)) refl s
  scope_next (WhileS c a) scope next t s = scope_more scope next (declared_in a) (next + declared_in a) refl s
  scope_next (SyncS p a) scope next t s = scope_more scope next (declared_in a) (next + declared_in a) refl s
  scope_next (ReturnS e) scope next t s = scope_more scope next 0 (next + 0) refl s
  scope_next (PrintS e) scope next t s = scope_more scope next 0 (next + 0) refl s
  scope_next (StartS e) scope next t s = scope_more scope next 0 (next + 0) refl s

  fixed_local : (x : ℕ) (is_final : Bool) (ty : CoreType) (scope : List Variable) (next r : ℕ) → x ≡ next → r < next → Fixed r scope → Fixed r (record { slot = x; is_final = is_final; ty = ty } ∷ scope)
  fixed_local x is_final ty scope next r is low fixed v has same = elim (contains_cases (record { slot = x; is_final = is_final; ty = ty }) v scope has) as (λ _. v.is_final ≡ true) [
    | inl a ↦ absurd (let e : x ≡ v.slot = ap (λ u. u.slot) a in omega (arith, e, is, same, low))
    | inr b ↦ fixed v b same
  ]

  -- a fixed slot stays fixed after a statement
  pub fixed_next : (s : Stmt) (scope : List Variable) (next r : ℕ) → IsTypedStmt P class result s scope next → r < next → Fixed r scope → Fixed r (variables_after s scope)
  fixed_next (LocalS x is_final ty e) scope next r t low fixed = fixed_local x is_final ty scope next r t.0 low fixed
  fixed_next EmptyS scope next r t low fixed = fixed
  fixed_next (BlockS ss) scope next r t low fixed = fixed
  fixed_next (SetVarS x e) scope next r t low fixed = fixed
  fixed_next (SetFieldS e f g) scope next r t low fixed = fixed
  fixed_next (DoS e drops) scope next r t low fixed = fixed
  fixed_next (IfS c a b) scope next r t low fixed = fixed
  fixed_next (WhileS c a) scope next r t low fixed = fixed
  fixed_next (SyncS p a) scope next r t low fixed = fixed
  fixed_next (ReturnS e) scope next r t low fixed = fixed
  fixed_next (PrintS e) scope next r t low fixed = fixed
  fixed_next (StartS e) scope next r t low fixed = fixed

  not_later : (x next r : ℕ) → x ≡ next → r < next → (x == r) ≡ false
  not_later x next r is low = grind (arith, nat_tests)

  not_stored : (x r : ℕ) (b : Bool) → (x == r) ≡ b → (x ≡ r → ⊥) → b ≡ false
  not_stored x r true is no_same = absurd (no_same (same x r is))
    where
      same : (x r : ℕ) → (x == r) ≡ true → x ≡ r
      same x r is = grind (arith, nat_tests)
  not_stored x r false is no_same = refl

  neither : (a b : Bool) → a ≡ false → b ≡ false → (a || b) ≡ false
  neither true b e k = absurd cc
  neither false b e k = k

  more_low : (r next n : ℕ) → r < next → r < next + n
  more_low r next n low = omega (arith, low)

  mutual
    -- a fixed slot that isn't a later one isn't stored
    pub final_stays : (s : Stmt) (scope : List Variable) (next r : ℕ) → IsTypedStmt P class result s scope next → r < next → Fixed r scope → stores s r ≡ false
    final_stays EmptyS scope next r t low fixed = refl
    final_stays (BlockS ss) scope next r t low fixed = finals_stay ss scope next r t low fixed
    final_stays (LocalS x is_final ty e) scope next r t low fixed = not_later x next r t.0 low
    final_stays (SetVarS x e) scope next r (ty, has, fit) low fixed = not_stored x r (x == r) refl (λ same. let k : false ≡ true = fixed (record { slot = x; is_final = false; ty = ty }) has same in cc)
    final_stays (SetFieldS e f g) scope next r t low fixed = refl
    final_stays (DoS e drops) scope next r t low fixed = refl
    final_stays (IfS c a b) scope next r t low fixed = neither (stores a r) (stores b r) (final_stays a scope next r t.1 low fixed) (final_stays b scope (next + declared_in a) r t.2 (more_low r next (declared_in a) low) fixed)
    final_stays (WhileS c a) scope next r t low fixed = final_stays a scope next r t.1 low fixed
    final_stays (SyncS p a) scope next r t low fixed = final_stays a scope next r t.1 low fixed
    final_stays (ReturnS e) scope next r t low fixed = refl
    final_stays (PrintS e) scope next r t low fixed = refl
    final_stays (StartS e) scope next r t low fixed = refl

    pub finals_stay : (ss : Stmts) (scope : List Variable) (next r : ℕ) → AreTypedStmts P class result ss scope next → r < next → Fixed r scope → stores_each ss r ≡ false
    finals_stay no_stmts scope next r t low fixed = refl
    finals_stay (and_stmt s ss) scope next r t low fixed = neither (stores s r) (stores_each ss r) (final_stays s scope next r t.0 low fixed)
        (finals_stay ss (variables_after s scope) (next + declared_in s) r t.1 (more_low r next (declared_in s) low) (fixed_next s scope next r t.0 low fixed))

  -- Tidy statements.

  both_tests : (a b : Bool) → a ≡ true → b ≡ true → (a && b) ≡ true
  both_tests true b e k = k
  both_tests false b e k = absurd cc

  leads_each : (c : ℕ) (fs : List ℕ) → LeadsOn P c fs → list_all (λ f. leads_on (slice_get P.fields f)) fs ≡ true
  leads_each c [] l = refl
  leads_each c (f ∷ fs) (field, d, is, of_class, final, ty, rest) =
      both_tests (leads_on (slice_get P.fields f)) _ (ap leads_on is ∙ both_tests field.is_final (is_class field.ty) final (ap is_class ty)) (leads_each d fs rest)

  -- the root of a lock is fixed
  pub root_fixed : (scope : List Variable) (next root c : ℕ) → Scope scope next → IsRoot class scope root c → (root < next) × Fixed root scope
  root_fixed scope next zero c s is = (s.low, λ v has same. absurd (let a = s.above v has in omega (arith, a, same)))
  root_fixed scope next (suc x) c s has = (
    s.below (record { slot = suc x; is_final = true; ty = type.Class c }) has,
    fixed_by scope next (record { slot = suc x; is_final = true; ty = type.Class c }) s has refl,
  )

  fit_valued : (scope : List Variable) (e : Expr) (t : CoreType) → HasFit P class scope e t → (valued P e ≡ true) × TidyE P e
  fit_valued scope e t (T, has, fit) = (valued_is P typed class scope e T has (fits_gives (is_kind_of P) T (ValueT t) fit).0, typed_tidy P typed class scope e T has)

  is_valued : (scope : List Variable) (e : Expr) (T : NodeType) → HasType P class scope e T → gives_value T ≡ true → (valued P e ≡ true) × TidyE P e
  is_valued scope e T has gives = (valued_is P typed class scope e T has gives, typed_tidy P typed class scope e T has)

  -- a final local isn't stored in the rest of its block
  apart_rest : (s : Stmt) (ss : Stmts) (scope : List Variable) (next : ℕ) → IsTypedStmt P class result s scope next → Scope scope next → AreTypedStmts P class result ss (variables_after s scope) (next + declared_in s) → Apart s ss
  apart_rest (LocalS x true ty e) ss scope next t s rest =
      let v : Variable = record { slot = x; is_final = true; ty = ty } in
      finals_stay ss (v ∷ scope) (next + 1) x rest (let e : x ≡ next = t.0 in omega (arith, e)) (fixed_by (v ∷ scope) (next + 1) v (scope_local x true ty scope next t.0 s) (0, omega arith, refl) refl)
  apart_rest (LocalS x false ty e) ss scope next t s rest = tt
  apart_rest EmptyS ss scope next t s rest = tt
  apart_rest (BlockS ts) ss scope next t s rest = tt
  apart_rest (SetVarS x e) ss scope next t s rest = tt
  apart_rest (SetFieldS e f g) ss scope next t s rest = tt
  apart_rest (DoS e drops) ss scope next t s rest = tt
  apart_rest (IfS c a b) ss scope next t s rest = tt
  apart_rest (WhileS c a) ss scope next t s rest = tt
  apart_rest (SyncS p a) ss scope next t s rest = tt
  apart_rest (ReturnS e) ss scope next t s rest = tt
  apart_rest (PrintS e) ss scope next t s rest = tt
  apart_rest (StartS e) ss scope next t s rest = tt

  returned : (scope : List Variable) (e : Expr) (r : Option CoreType) → IsResult P class result scope (Some e) r → (valued P e ≡ true) × TidyE P e
  returned scope e None t = absurd t
  returned scope e (Some ty) t = fit_valued scope e ty t

  mutual
    pub stmt_tidy : (s : Stmt) (scope : List Variable) (next : ℕ) → IsTypedStmt P class result s scope next → Scope scope next → TidyS P s
    stmt_tidy EmptyS scope next t s = tt
    stmt_tidy (BlockS ss) scope next t s = block_tidy ss scope next t s
    stmt_tidy (LocalS x is_final ty e) scope next t s = fit_valued scope e ty t.2
    stmt_tidy (SetVarS x e) scope next (ty, has, fit) s = fit_valued scope e ty fit
    stmt_tidy (SetFieldS e f g) scope next (field, is, mutable, (c, receives, kind), fit) s =
        let r = is_valued scope e (class_type c) receives refl in
        let v = fit_valued scope g field.ty fit in
        (r.0, r.1, v.0, v.1)
    stmt_tidy (DoS e drops) scope next (T, has, call, is) s = (is ∙ gives_is P typed class scope e T has, typed_tidy P typed class scope e T has)
    stmt_tidy (IfS c a b) scope next t s =
        let v = is_valued scope c boolean_type t.0 refl in
        (v.0, v.1, stmt_tidy a scope next t.1 s, stmt_tidy b scope (next + declared_in a) t.2 (scope_more scope next (declared_in a) (next + declared_in a) refl s))
    stmt_tidy (WhileS c a) scope next t s = let v = is_valued scope c boolean_type t.0 refl in (v.0, v.1, stmt_tidy a scope next t.1 s)
    stmt_tidy (SyncS p a) scope next (lock, t) s =
        let r = root_fixed scope next p.root lock.root_class s lock.root in
        (leads_each lock.root_class p.fields lock.fields, lock.short, final_stays a scope next p.root t r.0 r.1, stmt_tidy a scope next t s)
    stmt_tidy (ReturnS None) scope next t s = tt
    stmt_tidy (ReturnS (Some e)) scope next t s = returned scope e result t
    stmt_tidy (PrintS e) scope next t s = is_valued scope e int_type t refl
    stmt_tidy (StartS e) scope next (c, has, runs) s = is_valued scope e (class_type c) has refl

    pub block_tidy : (ss : Stmts) (scope : List Variable) (next : ℕ) → AreTypedStmts P class result ss scope next → Scope scope next → TidyBlock P ss
    block_tidy no_stmts scope next t s = tt
    block_tidy (and_stmt st ss) scope next t s = (stmt_tidy st scope next t.0 s, apart_rest st ss scope next t.0 s t.1, block_tidy ss (variables_after st scope) (next + declared_in st) t.1 (scope_next st scope next t.0 s))
