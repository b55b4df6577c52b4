-- Typed bodies are suited to the types of their slots.
use Rattle.std.proofs.Common.{◌≡◌, ◌⊎◌, inl, inr, ℕ, suc, ◌+◌, Bool, true, false, List, [], ◌∷◌, ◌++◌, length, Some, None, refl, sym, ap, subst, ◌∙◌, arith, length-append}
use Rattle.std.specs.Prelude.{Option, slice_get, map, Contains, IfSome}
use Rattle.std.proofs.lemmas.List.{length-map}
use Rattle.std.proofs.lemmas.Option.{same_Some}
use Rattle.base.proofs.Lists.{at_left, get_right, contains_cases}
use Rattle.core_program.specs.declared.types.CoreType.{CoreType}
use Rattle.core_program.specs.declared.types.CoreType.TheVariants as type
use Rattle.core_program.specs.Core.{Program, Method, Expr, Exprs, IntE, TruthE, NullE, ThisE, VarE, NotE, NegE, BinaryE, AndE, OrE, GetE, CallE, NewE, no_exprs, and_expr}
use Rattle.core_program.specs.Core.{Stmt, Stmts, EmptyS, BlockS, LocalS, SetVarS, SetFieldS, DoS, IfS, WhileS, SyncS, ReturnS, PrintS, StartS, no_stmts, and_stmt}
use Rattle.core_program.specs.Dispatch.{is_kind_of, Overrides}
use Rattle.core_program.specs.Types.{NodeType, ValueT, NullT, VoidT, int_type, boolean_type, class_type, result_type, type_fits, fits, Variable, field_type, field_types, parameter_types, HasType, FitEach, HasFit}
use Rattle.core_program.specs.Typed.{parameters_in_scope, parameters, variables_after, declared_in, declared_in_each, IsTypedStmt, AreTypedStmts, IsResult, IsEntry, IsTyped}
use Rattle.core_program.proofs.Running.{itself_or_over}
use Rattle.reduction.proofs.Scopes.{stmt_tidy}
use Rattle.reduction.proofs.Roots.{parameters_scope}
use Rattle.levels.specs.SlotTypes.{SlotType, local_types, local_types_each, slot_types, result_slot_type, taken_by_method, taken_by_new, expression_type, AreMarked, IsMarked, Suits}
use Rattle.levels.specs.Suited.{SuitsResult, SuitedE, SuitedEach, SuitedS, SuitedBlock}
use Rattle.levels.proofs.ClassMarks.{kind_marked, target_marked}
use Rattle.levels.proofs.TypedChanges.{IsSuitedProgram}

-- Locals are declared as often as their types stand in the list.

mutual
  locals_count : (s : Stmt) → length (local_types s) ≡ declared_in s
  locals_count EmptyS = refl
  locals_count (BlockS ss) = each_count ss
  locals_count (LocalS x is_final ty e) = refl
  locals_count (SetVarS x e) = refl
  locals_count (SetFieldS e f g) = refl
  locals_count (DoS e drops) = refl
  locals_count (IfS c s t) = length-append (local_types s) (local_types t) ∙ (λ i. locals_count s i + locals_count t i)
  locals_count (WhileS c s) = locals_count s
  locals_count (SyncS p s) = locals_count s
  locals_count (ReturnS e) = refl
  locals_count (PrintS e) = refl
  locals_count (StartS e) = refl

  each_count : (ss : Stmts) → length (local_types_each ss) ≡ declared_in_each ss
  each_count no_stmts = refl
  each_count (and_stmt s ss) = length-append (local_types s) (local_types_each ss) ∙ (λ i. locals_count s i + each_count ss i)

-- the type of a node as far as references go
abbrev as_type : NodeType → SlotType
as_type (ValueT t) = Some t
as_type NullT = None
as_type VoidT = None

result_as : (r : Option CoreType) → as_type (result_type r) ≡ r
result_as None = refl
result_as (Some t) = refl

-- the slots from a place on have these types
abbrev Placed : List CoreType → ℕ → List CoreType → Type 0
Placed slots next types = (k : ℕ) (t : CoreType) → slice_get types k ≡ Some t → slice_get slots (next + k) ≡ Some t

placed_first : (slots : List CoreType) (next : ℕ) (xs ys : List CoreType) → Placed slots next (xs ++ ys) → Placed slots next xs
placed_first slots next xs ys placed k t is = placed k t (at_left xs ys k t is)

placed_second : (slots : List CoreType) (next n : ℕ) (xs ys : List CoreType) → length xs ≡ n → Placed slots next (xs ++ ys) → Placed slots (next + n) ys
placed_second slots next n xs ys count placed k t is =
    subst (λ z. slice_get slots z ≡ Some t) (later next (length xs) n k count) (placed (length xs + k) t (get_right xs ys k ∙ is))
  where
    later : (next l n k : ℕ) → l ≡ n → next + (l + k) ≡ next + n + k
    later next l n k e = omega (arith, e)

-- the variables in scope have the types of their slots
abbrev InScope : List CoreType → List Variable → Type 0
InScope slots scope = (v : Variable) → Contains scope v → slice_get slots v.slot ≡ Some v.ty

module _ (P : Program) (mark : ℕ → ℕ) (marked : AreMarked P mark) where
  nothing_suits : (w : SlotType) → Suits mark None w
  nothing_suits w n m = absurd m

  types_fit : (t u : CoreType) → type_fits (is_kind_of P) t u ≡ true → Suits mark (Some t) (Some u)
  types_fit type.Int u e n m = absurd m
  types_fit type.Boolean u e n m = absurd m
  types_fit (type.Class c) type.Int e n m = absurd (let k : false ≡ true = e in cc)
  types_fit (type.Class c) type.Boolean e n m = absurd (let k : false ≡ true = e in cc)
  types_fit (type.Class c) (type.Class d) e n m = sym (kind_marked P mark marked c d e) ∙ m

  fits_suits : (T : NodeType) (t : CoreType) → fits (is_kind_of P) T (ValueT t) ≡ true → Suits mark (as_type T) (Some t)
  fits_suits (ValueT u) t e = types_fit u t e
  fits_suits NullT t e = nothing_suits (Some t)
  fits_suits VoidT t e = absurd (let k : false ≡ true = e in cc)

  module _ (class : ℕ) (slots : List CoreType) (this_is : slice_get slots 0 ≡ Some (type.Class class)) where
    module _ (scope : List Variable) (in_scope : InScope slots scope) where
      equal_suits : (given : SlotType) (T U : NodeType) → T ≡ U → given ≡ as_type U → Suits mark given (as_type T)
      equal_suits given T U same is n m = subst (λ z. IsMarked mark z n) (is ∙ sym (ap as_type same)) m

      -- what an expression gives has its type
      type_suits : (e : Expr) (T : NodeType) → HasType P class scope e T → Suits mark (expression_type P slots e) (as_type T)
      type_suits (IntE n) T h = nothing_suits (as_type T)
      type_suits (TruthE b) T h = nothing_suits (as_type T)
      type_suits NullE T h = nothing_suits (as_type T)
      type_suits ThisE T h = equal_suits (slice_get slots 0) T (class_type class) h this_is
      type_suits (VarE x is_final ty) T h = equal_suits (slice_get slots x) T (ValueT ty) h.1 (in_scope (record { slot = x; is_final = is_final; ty = ty }) h.0)
      type_suits (NotE e) T h = nothing_suits (as_type T)
      type_suits (NegE e) T h = nothing_suits (as_type T)
      type_suits (BinaryE op a b) T h = nothing_suits (as_type T)
      type_suits (AndE a b) T h = subst (λ z. Suits mark (expression_type P slots b) (as_type z)) (sym h.2) (type_suits b boolean_type h.1)
      type_suits (OrE a b) T h = subst (λ z. Suits mark (expression_type P slots b) (as_type z)) (sym h.2) (type_suits b boolean_type h.1)
      type_suits (GetE e f) T (field, is, receives, ty) = equal_suits (field_type (slice_get P.fields f)) T (ValueT field.ty) ty (ap field_type is)
      type_suits (CallE e m args) T (method, is, receives, each, result) = equal_suits (result_slot_type (slice_get P.methods m)) T (result_type method.result) result (ap result_slot_type is ∙ sym (result_as method.result))
      type_suits (NewE c args) T (made, is, each, ty) = equal_suits (Some (type.Class c)) T (class_type c) ty refl

      fit_suits : (e : Expr) (t : CoreType) → HasFit P class scope e t → Suits mark (expression_type P slots e) (Some t)
      fit_suits e t (T, has, fit) n m = fits_suits T t fit n (type_suits e T has n m)

      mutual
        expr_suited : (e : Expr) (T : NodeType) → HasType P class scope e T → SuitedE P mark slots e
        expr_suited (IntE n) T h = tt
        expr_suited (TruthE b) T h = tt
        expr_suited NullE T h = tt
        expr_suited ThisE T h = tt
        expr_suited (VarE x is_final ty) T h = tt
        expr_suited (NotE e) T h = expr_suited e boolean_type h.0
        expr_suited (NegE e) T h = expr_suited e int_type h.0
        expr_suited (BinaryE op a b) T (A, B, first, second, is) = (expr_suited a A first, expr_suited b B second)
        expr_suited (AndE a b) T h = (expr_suited a boolean_type h.0, expr_suited b boolean_type h.1)
        expr_suited (OrE a b) T h = (expr_suited a boolean_type h.0, expr_suited b boolean_type h.1)
        expr_suited (GetE e f) T (field, is, (c, receives, kind), ty) = expr_suited e (class_type c) receives
        expr_suited (CallE e m args) T (method, is, (c, receives, kind), each, result) =
            (expr_suited e (class_type c) receives, subst (SuitedEach P mark slots args) (sym (ap taken_by_method is)) (each_suited args (parameter_types method) each))
        expr_suited (NewE c args) T (made, is, each, ty) = subst (SuitedEach P mark slots args) (sym (ap (taken_by_new P) is)) (each_suited args (field_types P made.finals) each)

        each_suited : (es : Exprs) (ts : List CoreType) → FitEach P class scope es ts → SuitedEach P mark slots es ts
        each_suited no_exprs [] h = tt
        each_suited no_exprs (t ∷ ts) h = absurd h
        each_suited (and_expr e es) [] h = absurd h
        each_suited (and_expr e es) (t ∷ ts) ((T, has, fit), rest) = (expr_suited e T has, fit_suits e t (T, has, fit), each_suited es ts rest)

    module _ (result : Option CoreType) where
      returned : (scope : List Variable) → InScope slots scope → (e : Expr) (r : Option CoreType) → IsResult P class result scope (Some e) r → SuitedE P mark slots e × SuitsResult mark r (expression_type P slots e ∷ [])
      returned scope in_scope e None t = absurd t
      returned scope in_scope e (Some ty) (T, has, fit) = (expr_suited scope in_scope e T has, fit_suits scope in_scope e ty (T, has, fit))

      no_value : (scope : List Variable) (r : Option CoreType) → IsResult P class result scope None r → SuitsResult mark r []
      no_value scope None t = tt
      no_value scope (Some ty) t = absurd t

      local_in : (slot : ℕ) (is_final : Bool) (ty : CoreType) (scope : List Variable) → slice_get slots slot ≡ Some ty → InScope slots scope → InScope slots (record { slot = slot; is_final = is_final; ty = ty } ∷ scope)
      local_in x is_final ty scope is in_scope v has = elim (contains_cases (record { slot = x; is_final = is_final; ty = ty }) v scope has) as (λ _. slice_get slots v.slot ≡ Some v.ty) [
        | inl same ↦ subst (λ (u : Variable). slice_get slots u.slot ≡ Some u.ty) same is
        | inr later ↦ in_scope v later
      ]

      first_placed : (x next : ℕ) (ty : CoreType) → x ≡ next → Placed slots next (ty ∷ []) → slice_get slots x ≡ Some ty
      first_placed x next ty is placed = subst (λ z. slice_get slots z ≡ Some ty) (at_none next ∙ sym is) (placed 0 ty refl)
        where
          at_none : (n : ℕ) → n + 0 ≡ n
          at_none n = omega arith

      scope_in : (s : Stmt) (scope : List Variable) (next : ℕ) → IsTypedStmt P class result s scope next → Placed slots next (local_types s) → InScope slots scope → InScope slots (variables_after s scope)
      scope_in (LocalS x is_final ty e) scope next t placed in_scope = local_in x is_final ty scope (first_placed x next ty t.0 placed) in_scope
      scope_in EmptyS scope next t placed in_scope = in_scope
      scope_in (BlockS ss) scope next t placed in_scope = in_scope
      scope_in (SetVarS x e) scope next t placed in_scope = in_scope
      scope_in (SetFieldS e f g) scope next t placed in_scope = in_scope
      scope_in (DoS e drops) scope next t placed in_scope = in_scope
      scope_in (IfS c a b) scope next t placed in_scope = in_scope
      scope_in (WhileS c a) scope next t placed in_scope = in_scope
      scope_in (SyncS p a) scope next t placed in_scope = in_scope
      scope_in (ReturnS e) scope next t placed in_scope = in_scope
      scope_in (PrintS e) scope next t placed in_scope = in_scope
      scope_in (StartS e) scope next t placed in_scope = in_scope

      mutual
        stmt_suited : (s : Stmt) (scope : List Variable) (next : ℕ) → IsTypedStmt P class result s scope next → Placed slots next (local_types s) → InScope slots scope → SuitedS P mark slots result s
        stmt_suited EmptyS scope next t placed in_scope = tt
        stmt_suited (BlockS ss) scope next t placed in_scope = block_suited ss scope next t placed in_scope
        stmt_suited (LocalS x is_final ty e) scope next (is, there, (T, has, fit)) placed in_scope =
            (expr_suited scope in_scope e T has, subst (Suits mark (expression_type P slots e)) (sym (first_placed x next ty is placed)) (fit_suits scope in_scope e ty (T, has, fit)))
        stmt_suited (SetVarS x e) scope next (ty, there, (T, has, fit)) placed in_scope =
            (expr_suited scope in_scope e T has, subst (Suits mark (expression_type P slots e)) (sym (in_scope (record { slot = x; is_final = false; ty = ty }) there)) (fit_suits scope in_scope e ty (T, has, fit)))
        stmt_suited (SetFieldS e f g) scope next (field, is, mutable, (c, receives, kind), (T, has, fit)) placed in_scope =
            (expr_suited scope in_scope e (class_type c) receives, expr_suited scope in_scope g T has, subst (Suits mark (expression_type P slots g)) (sym (ap field_type is)) (fit_suits scope in_scope g field.ty (T, has, fit)))
        stmt_suited (DoS e drops) scope next (T, has, call, is) placed in_scope = expr_suited scope in_scope e T has
        stmt_suited (IfS c s t) scope next (test, first, second) placed in_scope = (
          expr_suited scope in_scope c boolean_type test,
          stmt_suited s scope next first (placed_first slots next (local_types s) (local_types t) placed) in_scope,
          stmt_suited t scope (next + declared_in s) second (placed_second slots next (declared_in s) (local_types s) (local_types t) (locals_count s) placed) in_scope,
        )
        stmt_suited (WhileS c s) scope next (test, body) placed in_scope = (expr_suited scope in_scope c boolean_type test, stmt_suited s scope next body placed in_scope)
        stmt_suited (SyncS p s) scope next (lock, body) placed in_scope = stmt_suited s scope next body placed in_scope
        stmt_suited (ReturnS None) scope next t placed in_scope = no_value scope result t
        stmt_suited (ReturnS (Some e)) scope next t placed in_scope = returned scope in_scope e result t
        stmt_suited (PrintS e) scope next t placed in_scope = expr_suited scope in_scope e int_type t
        stmt_suited (StartS e) scope next (c, has, runs) placed in_scope = expr_suited scope in_scope e (class_type c) has

        block_suited : (ss : Stmts) (scope : List Variable) (next : ℕ) → AreTypedStmts P class result ss scope next → Placed slots next (local_types_each ss) → InScope slots scope → SuitedBlock P mark slots result ss
        block_suited no_stmts scope next t placed in_scope = tt
        block_suited (and_stmt s ss) scope next (first, others) placed in_scope = (
          stmt_suited s scope next first (placed_first slots next (local_types s) (local_types_each ss) placed) in_scope,
          block_suited ss (variables_after s scope) (next + declared_in s) others (placed_second slots next (declared_in s) (local_types s) (local_types_each ss) (locals_count s) placed)
              (scope_in s scope next first (placed_first slots next (local_types s) (local_types_each ss) placed) in_scope),
        )

  -- Methods.

  parameter_at : (ps : List (Bool × CoreType)) (x : ℕ) (v : Variable) → Contains (parameters_in_scope x ps) v → (k : ℕ) × (v.slot ≡ x + k) × (slice_get (map (λ p. p.1) ps) k ≡ Some v.ty)
  parameter_at [] x v (n, below, is) = absurd (omega (arith, below))
  parameter_at (p ∷ ps) x v has = elim (contains_cases (record { slot = x; is_final = p.0; ty = p.1 }) v (parameters_in_scope (x + 1) ps) has) as (λ _. (k : ℕ) × (v.slot ≡ x + k) × (slice_get (map (λ q. q.1) (p ∷ ps)) k ≡ Some v.ty)) [
    | inl same ↦ (0, sym (ap (λ (u : Variable). u.slot) same) ∙ here x, ap (λ (u : Variable). Some u.ty) same)
    | inr later ↦ let r = parameter_at ps (x + 1) v later in (suc r.0, r.1 ∙ next x r.0, r.2)
  ]
    where
      here : (x : ℕ) → x ≡ x + 0
      here x = omega arith

      next : (x k : ℕ) → x + 1 + k ≡ x + suc k
      next x k = omega arith

  parameters_in : (method : Method) → InScope (slot_types method) (parameters method)
  parameters_in method v has =
      let r = parameter_at method.params 1 v has in
      subst (λ z. slice_get (slot_types method) z ≡ Some v.ty) (sym (r.1 ∙ one_more r.0)) (at_left (parameter_types method) (local_types method.body) r.0 v.ty r.2)
    where
      one_more : (k : ℕ) → 1 + k ≡ suc k
      one_more k = omega arith

  locals_in : (method : Method) → Placed (slot_types method) (1 + length method.params) (local_types method.body)
  locals_in method k t is =
      subst (λ z. slice_get (slot_types method) z ≡ Some t) (one_more (length (parameter_types method)) (length method.params) k (length-map method.params (λ p. p.1)))
      (get_right (parameter_types method) (local_types method.body) k ∙ is)
    where
      one_more : (l n k : ℕ) → l ≡ n → suc (l + k) ≡ 1 + n + k
      one_more l n k e = omega (arith, e)

  some_fact : (T : ℕ → Type 0) (o : Option ℕ) (m : ℕ) → IfSome o T → o ≡ Some m → T m
  some_fact T o m f is = subst (λ x. IfSome x T) is f

  -- a typed program is suited
  pub suited_program : IsTyped P → IsSuitedProgram P mark
  suited_program typed = record {
    tidy = λ m method is. stmt_tidy P typed method.class method.result method.body (parameters method) (1 + length method.params) (typed.methods m method is).body (parameters_scope method);
    suited = λ m method is. stmt_suited method.class (slot_types method) refl method.result method.body (parameters method) (1 + length method.params) (typed.methods m method is).body (locals_in method) (parameters_in method);
    params = λ c m n method running runs is there. alike_params m n method running is there (itself_or_over P typed c m n runs);
    result = λ c m n method running runs is there. alike_result m n method running is there (itself_or_over P typed c m n runs);
    of_class = λ c m n running runs there. target_marked P mark marked typed c m n runs running there;
    run_params = λ c class m method is runs there. let entry = some_fact (IsEntry P c) class.run m (typed.classes c class is).run runs in
        ap (λ (x : Method). x.params) (same_Some method entry.method (sym there ∙ entry.is)) ∙ entry.no_parameters;
    run_class = λ c class m method is runs there. let entry = some_fact (IsEntry P c) class.run m (typed.classes c class is).run runs in
        ap (λ (x : Method). mark x.class) (same_Some method entry.method (sym there ∙ entry.is)) ∙ sym (kind_marked P mark marked c entry.method.class entry.of_class);
    finals = λ c class is. (typed.classes c class is).finals;
  }
    where
      one_method : (m n : ℕ) (method running : Method) → slice_get P.methods m ≡ Some method → slice_get P.methods n ≡ Some running → n ≡ m → running ≡ method
      one_method m n method running is there same = same_Some running method (sym there ∙ ap (slice_get P.methods) same ∙ is)

      alike_params : (m n : ℕ) (method running : Method) → slice_get P.methods m ≡ Some method → slice_get P.methods n ≡ Some running → (n ≡ m) ⊎ Overrides P n m → running.params ≡ method.params
      alike_params m n method running is there (inl same) = ap (λ (x : Method). x.params) (one_method m n method running is there same)
      alike_params m n method running is there (inr over) = (typed.overriding n m running method over there is).params

      alike_result : (m n : ℕ) (method running : Method) → slice_get P.methods m ≡ Some method → slice_get P.methods n ≡ Some running → (n ≡ m) ⊎ Overrides P n m → running.result ≡ method.result
      alike_result m n method running is there (inl same) = ap (λ (x : Method). x.result) (one_method m n method running is there same)
      alike_result m n method running is there (inr over) = (typed.overriding n m running method over there is).result
