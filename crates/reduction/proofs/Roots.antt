-- The roots of the paths near a method are `this`, final parameters, or locals.
use Rattle.std.proofs.Common.{◌≡◌, inl, inr, ℕ, zero, suc, ◌+◌, ◌<◌, ◌≤◌, Bool, true, false, List, [], ◌∷◌, ◌++◌, length, Some, None, refl, sym, ap, subst, ◌∙◌, arith}
use Rattle.std.specs.Prelude.{Option, slice_get, Contains, nat_le, if◌then◌else◌}
use Rattle.std.proofs.lemmas.Option.{same_Some}
use Rattle.base.proofs.Lists.{contains_cases}
use Rattle.paths.specs.Paths.{PathData, extended_some, most_fields}
use Rattle.paths.specs.Renamings.{argument_at, passed}
use Rattle.algebra.specs.HeldPaths.{has_path}
use Rattle.core_program.specs.declared.types.CoreType.{CoreType}
use Rattle.core_program.specs.declared.types.CoreType.TheVariants as type
use Rattle.core_program.specs.Core.{Program, Method, Expr, Exprs, IntE, TruthE, NullE, ThisE, VarE, NotE, NegE, BinaryE, AndE, OrE, GetE, CallE, NewE, no_exprs, and_expr}
use Rattle.core_program.specs.Core.{Stmt, Stmts, EmptyS, BlockS, LocalS, SetVarS, SetFieldS, DoS, IfS, WhileS, SyncS, ReturnS, PrintS, StartS, no_stmts, and_stmt}
use Rattle.core_program.specs.Locks.{leads_on, path_of}
use Rattle.core_program.specs.Types.{NodeType, int_type, boolean_type, class_type, Variable, HasType, FitEach, parameter_types, field_types}
use Rattle.core_program.specs.Typed.{IsRoot, IsLock, variables_after, declared_in, parameters_in_scope, parameters, IsTyped, IsTypedStmt, AreTypedStmts, IsResult}
use Rattle.rules.specs.Guards.{guard_by, mutable_guard, field_guard, guard_path}
use Rattle.rules.specs.Mentions.{Mention, Accesses, Calls, Locks, Names, expr_mentions, exprs_mentions, mentions, block_mentions, paths_of}
use Rattle.rules.specs.Near.{Near, required, locked, guarded, called, overriding, named, MethodPaths, AreRelevant, rel_of}
use Rattle.rules.proofs.NearOnly.{rel_is}
use Rattle.core_program.specs.Core as core
use Rattle.reduction.specs.Fits.{stores}
use Rattle.reduction.proofs.Scopes.{Fixed, Scope, scope_more, scope_local, fixed_by, final_stays}

-- a root that is a parameter's slot or that of `this` is fixed
abbrev pub Good : List Variable → ℕ → ℕ → Type 0
Good params base r = r < base → Fixed r params

module _ (params : List Variable) (base : ℕ) where
  abbrev pub PathGood : Option PathData → Type 0
  PathGood None = Unit {0}
  PathGood (Some p) = Good params base p.root

  abbrev pub PathsGood : List (Option PathData) → Type 0
  PathsGood [] = Unit {0}
  PathsGood (o ∷ os) = PathGood o × PathsGood os

  if_good : (p q : PathData) (b : Bool) → q.root ≡ p.root → PathGood (Some p) → PathGood (if b then Some q else None)
  if_good p q true same g = subst (Good params base) (sym same) g
  if_good p q false same g = tt

  some_good : (o : Option PathData) (fs : List ℕ) → PathGood o → PathGood (extended_some o fs)
  some_good None fs g = tt
  some_good (Some p) fs g = if_good p (record { root = p.root; fields = p.fields ++ fs }) (nat_le (length (p.fields ++ fs)) most_fields) refl g

  read_good : (b : Bool) (o : Option PathData) → PathGood o → PathGood (if b then o else None)
  read_good true o g = g
  read_good false o g = tt

  known_good : (o : Option PathData) (p : PathData) → o ≡ Some p → PathGood o → Good params base p.root
  known_good o p is g = subst PathGood is g

  argument_good : (os : List (Option PathData)) (n : ℕ) → PathsGood os → PathGood (argument_at (slice_get os n))
  argument_good [] n g = tt
  argument_good (o ∷ os) zero g = g.0
  argument_good (o ∷ os) (suc n) g = argument_good os n g.1

  passed_good : (receiver : Option PathData) (args : List (Option PathData)) (root : ℕ) → PathGood receiver → PathsGood args → PathGood (passed receiver args root)
  passed_good receiver args zero g gs = g
  passed_good receiver args (suc n) g gs = argument_good args n gs

module _ (P : Program) (params : List Variable) (base : ℕ) where
  abbrev pub MentionGood : Mention → Type 0
  MentionGood (Accesses e f) = PathGood params base (path_of P e)
  MentionGood (Calls e m args) = PathGood params base (path_of P e) × PathsGood params base (paths_of P args)
  MentionGood (Locks p) = Good params base p.root
  MentionGood (Names x e) = PathGood params base (path_of P e)

  abbrev pub AllGood : List Mention → Type 0
  AllGood [] = Unit {0}
  AllGood (x ∷ xs) = MentionGood x × AllGood xs

  good_append : (xs ys : List Mention) → AllGood xs → AllGood ys → AllGood (xs ++ ys)
  good_append [] ys g k = k
  good_append (x ∷ xs) ys g k = (g.0, good_append xs ys g.1 k)

  good_at : (xs : List Mention) (x : Mention) → AllGood xs → Contains xs x → MentionGood x
  good_at [] x g (k, below, is) = absurd (omega arith)
  good_at (y ∷ ys) x g has = elim (contains_cases y x ys has) as (λ _. MentionGood x) [
    | inl same ↦ subst MentionGood same g.0
    | inr rest ↦ good_at ys x g.1 rest
  ]

-- a scope whose variables in the first slots are the parameters
pub record Inner (params : List Variable) (base : ℕ) (scope : List Variable) (next : ℕ) : Type 0 where
  pub numbered : Scope scope next
  pub outer : (v : Variable) → Contains scope v → v.slot < base → Contains params v
  pub far : base ≤ next

module _ (P : Program) (typed : IsTyped P) (class : ℕ) (params : List Variable) (base : ℕ) (ps : Scope params base) where
  module _ (scope : List Variable) (next : ℕ) (inner : Inner params base scope next) where
    this_good : Good params base 0
    this_good low v has same = absurd (let a = ps.above v has in omega (arith, a, same))

    var_good : (x c : ℕ) → Contains scope (record { slot = x; is_final = true; ty = type.Class c }) → Good params base x
    var_good x c has low = fixed_by params base (record { slot = x; is_final = true; ty = type.Class c }) ps (inner.outer (record { slot = x; is_final = true; ty = type.Class c }) has low) refl

    root_good : (root c : ℕ) → IsRoot class scope root c → Good params base root
    root_good zero c is = this_good
    root_good (suc x) c has = var_good (suc x) c has

    path_good : (e : Expr) (T : NodeType) → HasType P class scope e T → PathGood params base (path_of P e)
    path_good ThisE T h = this_good
    path_good (VarE x true (type.Class c)) T h = var_good x c h.0
    path_good (VarE x true type.Int) T h = tt
    path_good (VarE x true type.Boolean) T h = tt
    path_good (VarE x false ty) T h = tt
    path_good (GetE e f) T (field, is, (c, receives, kind), ty) = read_good params base (leads_on (slice_get P.fields f)) (extended_some (path_of P e) (f ∷ [])) (some_good params base (path_of P e) (f ∷ []) (path_good e (class_type c) receives))
    path_good (IntE n) T h = tt
    path_good (TruthE b) T h = tt
    path_good NullE T h = tt
    path_good (NotE e) T h = tt
    path_good (NegE e) T h = tt
    path_good (BinaryE op a b) T h = tt
    path_good (AndE a b) T h = tt
    path_good (OrE a b) T h = tt
    path_good (CallE e m args) T h = tt
    path_good (NewE c args) T h = tt

    paths_good : (es : Exprs) (ts : List CoreType) → FitEach P class scope es ts → PathsGood params base (paths_of P es)
    paths_good no_exprs ts h = tt
    paths_good (and_expr e es) [] h = absurd h
    paths_good (and_expr e es) (t ∷ ts) ((T, has, fit), rest) = (path_good e T has, paths_good es ts rest)

    mutual
      expr_good : (e : Expr) (T : NodeType) → HasType P class scope e T → AllGood P params base (expr_mentions e)
      expr_good (IntE n) T h = tt
      expr_good (TruthE b) T h = tt
      expr_good NullE T h = tt
      expr_good ThisE T h = tt
      expr_good (VarE x is_final ty) T h = tt
      expr_good (NotE e) T h = expr_good e boolean_type h.0
      expr_good (NegE e) T h = expr_good e int_type h.0
      expr_good (BinaryE op a b) T (A, B, first, second, is) = good_append P params base (expr_mentions a) (expr_mentions b) (expr_good a A first) (expr_good b B second)
      expr_good (AndE a b) T h = good_append P params base (expr_mentions a) (expr_mentions b) (expr_good a boolean_type h.0) (expr_good b boolean_type h.1)
      expr_good (OrE a b) T h = good_append P params base (expr_mentions a) (expr_mentions b) (expr_good a boolean_type h.0) (expr_good b boolean_type h.1)
      expr_good (GetE e f) T (field, is, (c, receives, kind), ty) = (path_good e (class_type c) receives, expr_good e (class_type c) receives)
      expr_good (CallE e m args) T (method, is, (c, receives, kind), each, ty) = (
        (path_good e (class_type c) receives, paths_good args (parameter_types method) each),
        good_append P params base (expr_mentions e) (exprs_mentions args) (expr_good e (class_type c) receives) (exprs_good args (parameter_types method) each),
      )
      expr_good (NewE c args) T (made, is, each, ty) = exprs_good args (field_types P made.finals) each

      exprs_good : (es : Exprs) (ts : List CoreType) → FitEach P class scope es ts → AllGood P params base (exprs_mentions es)
      exprs_good no_exprs ts h = tt
      exprs_good (and_expr e es) [] h = absurd h
      exprs_good (and_expr e es) (t ∷ ts) ((T, has, fit), rest) = good_append P params base (expr_mentions e) (exprs_mentions es) (expr_good e T has) (exprs_good es ts rest)

  more_inner : (scope : List Variable) (next n : ℕ) → Inner params base scope next → Inner params base scope (next + n)
  more_inner scope next n i = record { numbered = scope_more scope next n (next + n) refl i.numbered; outer = i.outer; far = let f = i.far in omega (arith, f) }

  module _ (result : Option CoreType) where
    local_inner : (x : ℕ) (is_final : Bool) (ty : CoreType) (scope : List Variable) (next : ℕ) → x ≡ next → Inner params base scope next → Inner params base (record { slot = x; is_final = is_final; ty = ty } ∷ scope) (next + 1)
    local_inner x is_final ty scope next is i = record {
      numbered = scope_local x is_final ty scope next is i.numbered;
      outer = λ v has low. elim (contains_cases (record { slot = x; is_final = is_final; ty = ty }) v scope has) as (λ _. Contains params v) [
        | inl same ↦ absurd (let e : x ≡ v.slot = ap (λ u. u.slot) same in let f = i.far in omega (arith, e, is, low, f))
        | inr rest ↦ i.outer v rest low
      ];
      far = let f = i.far in omega (arith, f);
    }

    next_inner : (s : Stmt) (scope : List Variable) (next : ℕ) → IsTypedStmt P class result s scope next → Inner params base scope next → Inner params base (variables_after s scope) (next + declared_in s)
    next_inner (LocalS x is_final ty e) scope next t i = local_inner x is_final ty scope next t.0 i
    next_inner EmptyS scope next t i = more_inner scope next (declared_in EmptyS) i
    next_inner (BlockS ss) scope next t i = more_inner scope next (declared_in (BlockS ss)) i
    next_inner (SetVarS x e) scope next t i = more_inner scope next (declared_in (SetVarS x e)) i
    next_inner (SetFieldS e f g) scope next t i = more_inner scope next (declared_in (SetFieldS e f g)) i
    next_inner (DoS e drops) scope next t i = more_inner scope next (declared_in (DoS e drops)) i
    next_inner (IfS c a b) scope next t i = more_inner scope next (declared_in (IfS c a b)) i
    next_inner (WhileS c a) scope next t i = more_inner scope next (declared_in (WhileS c a)) i
    next_inner (SyncS p a) scope next t i = more_inner scope next (declared_in (SyncS p a)) i
    next_inner (ReturnS e) scope next t i = more_inner scope next (declared_in (ReturnS e)) i
    next_inner (PrintS e) scope next t i = more_inner scope next (declared_in (PrintS e)) i
    next_inner (StartS e) scope next t i = more_inner scope next (declared_in (StartS e)) i

    returned_in : (scope : List Variable) (next : ℕ) (e : Expr) (r : Option CoreType) → IsResult P class result scope (Some e) r → Inner params base scope next → AllGood P params base (expr_mentions e)
    returned_in scope next e None t i = absurd t
    returned_in scope next e (Some ty) (T, has, fit) i = expr_good scope next i e T has

    mutual
      pub stmt_good : (s : Stmt) (scope : List Variable) (next : ℕ) → IsTypedStmt P class result s scope next → Inner params base scope next → AllGood P params base (mentions s)
      stmt_good EmptyS scope next t i = tt
      stmt_good (BlockS ss) scope next t i = block_good ss scope next t i
      stmt_good (LocalS x true ty e) scope next (is, known, (T, has, fit)) i = (path_good scope next i e T has, expr_good scope next i e T has)
      stmt_good (LocalS x false ty e) scope next (is, known, (T, has, fit)) i = expr_good scope next i e T has
      stmt_good (SetVarS x e) scope next (ty, in_scope, (T, has, fit)) i = expr_good scope next i e T has
      stmt_good (SetFieldS e f g) scope next (field, is, mutable, (c, receives, kind), (T, has, fit)) i = (
        path_good scope next i e (class_type c) receives,
        good_append P params base (expr_mentions e) (expr_mentions g) (expr_good scope next i e (class_type c) receives) (expr_good scope next i g T has),
      )
      stmt_good (DoS e drops) scope next (T, has, call, is) i = expr_good scope next i e T has
      stmt_good (IfS c a b) scope next (has, first, second) i = good_append P params base (expr_mentions c) (mentions a ++ mentions b) (expr_good scope next i c boolean_type has)
          (good_append P params base (mentions a) (mentions b) (stmt_good a scope next first i) (stmt_good b scope (next + declared_in a) second (more_inner scope next (declared_in a) i)))
      stmt_good (WhileS c a) scope next (has, body) i = good_append P params base (expr_mentions c) (mentions a) (expr_good scope next i c boolean_type has) (stmt_good a scope next body i)
      stmt_good (SyncS p a) scope next (lock, body) i = (root_good scope next i p.root lock.root_class lock.root, stmt_good a scope next body i)
      stmt_good (ReturnS None) scope next t i = tt
      stmt_good (ReturnS (Some e)) scope next t i = returned_in scope next e result t i
      stmt_good (PrintS e) scope next has i = expr_good scope next i e int_type has
      stmt_good (StartS e) scope next (c, has, runs) i = expr_good scope next i e (class_type c) has

      pub block_good : (ss : Stmts) (scope : List Variable) (next : ℕ) → AreTypedStmts P class result ss scope next → Inner params base scope next → AllGood P params base (block_mentions ss)
      block_good no_stmts scope next t i = tt
      block_good (and_stmt s ss) scope next t i = good_append P params base (mentions s) (block_mentions ss) (stmt_good s scope next t.0 i) (block_good ss (variables_after s scope) (next + declared_in s) t.1 (next_inner s scope next t.0 i))

-- Parameters.

pub record ParametersFrom (x : ℕ) (scope : List Variable) (n : ℕ) : Type 0 where
  pub below : (v : Variable) → Contains scope v → v.slot < x + n
  pub above : (v : Variable) → Contains scope v → x ≤ v.slot
  pub alike : (v w : Variable) → Contains scope v → Contains scope w → v.slot ≡ w.slot → v.is_final ≡ w.is_final

parameters_numbered : (x : ℕ) (ps : List (Bool × CoreType)) → ParametersFrom x (parameters_in_scope x ps) (length ps)
parameters_numbered x [] = record { below = λ v has. absurd (no_element v has); above = λ v has. absurd (no_element v has); alike = λ v w first second same. absurd (no_element v first) }
  where
    no_element : (v : Variable) → Contains [] v → ⊥
    no_element v (k, below, is) = omega arith
parameters_numbered x (p ∷ ps) = one_more x p (parameters_in_scope (x + 1) ps) (length ps) (parameters_numbered (x + 1) ps)
  where
    one_more : (x : ℕ) (p : Bool × CoreType) (scope : List Variable) (n : ℕ) → ParametersFrom (x + 1) scope n → ParametersFrom x (record { slot = x; is_final = p.0; ty = p.1 } ∷ scope) (suc n)
    one_more x p scope n r = record {
      below = λ v has. elim (contains_cases (record { slot = x; is_final = p.0; ty = p.1 }) v scope has) as (λ _. v.slot < x + suc n) [
        | inl same ↦ let e : x ≡ v.slot = ap (λ u. u.slot) same in omega (arith, e)
        | inr rest ↦ let b = r.below v rest in omega (arith, b)
      ];
      above = λ v has. elim (contains_cases (record { slot = x; is_final = p.0; ty = p.1 }) v scope has) as (λ _. x ≤ v.slot) [
        | inl same ↦ let e : x ≡ v.slot = ap (λ u. u.slot) same in omega (arith, e)
        | inr rest ↦ let b = r.above v rest in omega (arith, b)
      ];
      alike = λ v w first second same.
          elim (contains_cases (record { slot = x; is_final = p.0; ty = p.1 }) v scope first) as (λ _. v.is_final ≡ w.is_final) [
            | inl a ↦ elim (contains_cases (record { slot = x; is_final = p.0; ty = p.1 }) w scope second) as (λ _. v.is_final ≡ w.is_final) [
              | inl b ↦ ap (λ u. u.is_final) (sym a ∙ b)
              | inr b ↦ absurd (let e : x ≡ v.slot = ap (λ u. u.slot) a in let l = r.above w b in omega (arith, e, same, l))
            ]
            | inr a ↦ elim (contains_cases (record { slot = x; is_final = p.0; ty = p.1 }) w scope second) as (λ _. v.is_final ≡ w.is_final) [
              | inl b ↦ absurd (let e : x ≡ w.slot = ap (λ u. u.slot) b in let l = r.above v a in omega (arith, e, same, l))
              | inr b ↦ r.alike v w a b same
            ]
          ];
    }

pub parameters_scope : (method : Method) → Scope (parameters method) (1 + length method.params)
parameters_scope method = let r = parameters_numbered 1 method.params in record {
  below = r.below;
  above = λ v has. let a = r.above v has in omega (arith, a);
  alike = r.alike;
  low = omega arith;
}

pub parameters_inner : (method : Method) → Inner (parameters method) (1 + length method.params) (parameters method) (1 + length method.params)
parameters_inner method = record { numbered = parameters_scope method; outer = λ v has low. has; far = omega arith }

-- Near paths.

abbrev pub GoodIn : Method → ℕ → Type 0
GoodIn method r = Good (parameters method) (1 + length method.params) r

module _ (P : Program) (typed : IsTyped P) where
  mention_good : (m : ℕ) (method : Method) (x : Mention) → slice_get P.methods m ≡ Some method → Contains (mentions method.body) x → MentionGood P (parameters method) (1 + length method.params) x
  mention_good m method x is has = good_at P (parameters method) (1 + length method.params) (mentions method.body) x
      (stmt_good P typed method.class (parameters method) (1 + length method.params) (parameters_scope method) method.result method.body (parameters method) (1 + length method.params)
      (typed.methods m method is).body (parameters_inner method)) has

  lock_good : (method : Method) (p : PathData) → IsLock P method.class (parameters method) p → GoodIn method p.root
  lock_good method p lock = root_good P typed method.class (parameters method) (1 + length method.params) (parameters_scope method) (parameters method) (1 + length method.params) (parameters_inner method) p.root lock.root_class lock.root

  extended_good : (method : Method) (o : Option PathData) (fs : List ℕ) (p : PathData) → extended_some o fs ≡ Some p → PathGood (parameters method) (1 + length method.params) o → GoodIn method p.root
  extended_good method o fs p is g = known_good (parameters method) (1 + length method.params) (extended_some o fs) p is (some_good (parameters method) (1 + length method.params) o fs g)

  by_guard : (writes_only : Bool) (o : Option PathData) (p : PathData) → guard_path (guard_by writes_only o) ≡ Some p → o ≡ Some p
  by_guard false None p e = absurd (let k : None ≡ Some p = e in cc)
  by_guard false (Some q) p e = e
  by_guard true None p e = absurd (let k : None ≡ Some p = e in cc)
  by_guard true (Some q) p e = e

  mutable_good : (method : Method) (writes_only : Bool) (guard receiver : Option PathData) (p : PathData) → guard_path (mutable_guard writes_only guard receiver) ≡ Some p → PathGood (parameters method) (1 + length method.params) receiver → GoodIn method p.root
  mutable_good method writes_only None receiver p e g = absurd (let k : None ≡ Some p = e in cc)
  mutable_good method writes_only (Some x) receiver p e g = extended_good method receiver x.fields p (by_guard writes_only (extended_some receiver x.fields) p e) g

  by_finality : (method : Method) (x : core.Field) (final : Bool) (receiver : Option PathData) (p : PathData)
      → guard_path (if final then Rattle.rules.specs.declared.guard.Guard.TheVariants.Final else mutable_guard x.writes_only x.guard receiver) ≡ Some p → PathGood (parameters method) (1 + length method.params) receiver → GoodIn method p.root
  by_finality method x true receiver p e g = absurd (let k : None ≡ Some p = e in cc)
  by_finality method x false receiver p e g = mutable_good method x.writes_only x.guard receiver p e g

  guard_good : (method : Method) (o : Option core.Field) (receiver : Option PathData) (p : PathData) → guard_path (field_guard o receiver) ≡ Some p → PathGood (parameters method) (1 + length method.params) receiver → GoodIn method p.root
  guard_good method None receiver p e g = absurd (let k : None ≡ Some p = e in cc)
  guard_good method (Some x) receiver p e g = by_finality method x x.is_final receiver p e g

  list_good : (method : Method) (ps : List PathData) (p : PathData) → ((k : ℕ) (d : PathData) → k < length ps → IsLock P method.class (parameters method) (Rattle.std.specs.Prelude.slice_index_or ps k d)) → Contains ps p → GoodIn method p.root
  list_good method ps p locks (k, below, is) = lock_good method p (subst (IsLock P method.class (parameters method)) is (locks k p below))

  -- the root of a path near a method
  pub near_good : (m : ℕ) (p : PathData) → Near P m p → (method : Method) × (slice_get P.methods m ≡ Some method) × GoodIn method p.root
  near_good m p (required (method, is, has)) = (method, is, list_good method method.requires_ p (typed.methods m method is).locks has)
  near_good m p (locked (method, is, has)) = (method, is, mention_good m method (Locks p) is has)
  near_good m p (guarded e f (method, is, has) guard) = (method, is, guard_good method (slice_get P.fields f) (path_of P e) p guard (mention_good m method (Accesses e f) is has))
  near_good m p (called e callee args q (method, is, has) near outer under) =
      let g = mention_good m method (Calls e callee args) is has in
      (method, is, extended_good method (passed (path_of P e) (paths_of P args) q.root) q.fields p under (passed_good (parameters method) (1 + length method.params) (path_of P e) (paths_of P args) q.root g.0 g.1))
  near_good m p (overriding over o near outer (method, is, begins)) =
      let g = near_good over p near in
      let alike = typed.overriding over m g.0 method o g.1 is in
      (method, is, subst (λ ps. Good (parameters_in_scope 1 ps) (1 + length ps) p.root) alike.params g.2)
  near_good m p (named q e start near (method, is, has) path fits) =
      (method, is, extended_good method (Some start) q.fields p fits (known_good (parameters method) (1 + length method.params) (path_of P e) start path (mention_good m method (Names q.root e) is has)))

  -- the root of a relevant path isn't stored
  pub relevant_rooted : (sets : List MethodPaths) → AreRelevant P sets → (m : ℕ) (method : Method) → slice_get P.methods m ≡ Some method → (q : PathData) → has_path (rel_of sets m) q ≡ true → stores method.body q.root ≡ false
  relevant_rooted sets relevant m method is q has =
      let r = rel_is P sets relevant m (slice_get sets m) refl q has in
      let g = near_good m q r.0 in
      let same : g.0 ≡ method = same_Some _ _ (sym g.1 ∙ is) in
      let same_outer : (r.1).0 ≡ method = same_Some _ _ (sym (r.1).1 ∙ is) in
      let outer : q.root ≤ length method.params = subst (λ (x : Method). q.root ≤ length x.params) same_outer (r.1).2 in
      let good : GoodIn method q.root = subst (λ x. GoodIn x q.root) same g.2 in
      let low : q.root < 1 + length method.params = omega (arith, outer) in
      final_stays P typed method.class method.result method.body (parameters method) (1 + length method.params) q.root (typed.methods m method is).body low (good low)
