-- The core node of an expression has its type.
use Rattle.std.proofs.Common.{◌≡◌, ℕ, ◌<◌, true, false, List, [], ◌∷◌, Some, Ok, refl, ap, sym, subst, ◌&&◌, Contains, slice_get, option_map}
use Rattle.std.specs.Prelude.{ok_or}
use Rattle.std.proofs.lemmas.Option.{same_Some}
use Rattle.std.proofs.lemmas.Bool.{and_parts}
use Rattle.base.proofs.Options.{map_parts}
use Rattle.syntax.specs.declared.tree.Name.{Name}
use Rattle.syntax.specs.declared.tree.Op.{Op}
use Rattle.syntax.specs.declared.tree.Op.TheVariants as O
use Rattle.syntax.specs.Trees.{ExprTree, ExprTrees, no_exprs, more_exprs}
use Rattle.syntax.specs.Trees as tree
use Rattle.core_program.specs.declared.types.CoreOp.{CoreOp}
use Rattle.core_program.specs.declared.types.CoreOp.TheVariants as core_op
use Rattle.core_program.specs.declared.types.CoreType.{CoreType}
use Rattle.core_program.specs.declared.types.CoreType.TheVariants as type
use Rattle.core_program.specs.Core as core
use Rattle.core_program.specs.Core.{Program, Class, Field, Method, Exprs}
use Rattle.core_program.specs.Dispatch.{is_kind_of}
use Rattle.core_program.proofs.DispatchLemmas.{fits_more, binary_more}
use Rattle.core_program.specs.Types as typing
use Rattle.core_program.specs.Types.{NodeType, ValueT, NullT, VoidT, int_type, boolean_type, class_type, result_type, fits, binary_type, Variable, field_types, HasType, FitEach}
use Rattle.core_program.specs.Typed.{IsRunnable}
use Rattle.classes.specs.Table.{TableData, ClassData, MethodData, class_number, is_of_kind}
use Rattle.classes.specs.Seen.{FieldData}
use Rattle.typing.specs.declared.fault.TypeFault.TheVariants.{UnknownName, NoRule}
use Rattle.typing.specs.Rulings.{both, demand}
use Rattle.typing.specs.Scopes.{Scope, variable}
use Rattle.typing.specs.Rules.{TypedData, TypedList, typed, with_argument, is_int, is_boolean, class_of_core_type, receiver_class, number_rule, variable_typed, not_rule, neg_rule, operator_rule, logical_rule, binary_rule, field_of_class, method_named, field_rule, method_rule, get_rule, call_rule, class_rule, new_rule, fit_each, final_types, declared_parameter_types}
use Rattle.typing.specs.Exprs.{elaborated, elaborated_each, variable_rule}
use Rattle.typing.proofs.Inversions.{same_ok, gain_of, given_of, both_of, demand_of, then_of, ok_or_of}

-- ---- what a table tells of a core program

-- the field of this number and entry is there in the core program, in this class or above it
pub record IsFieldOf (P : Program) (c : ℕ) (f : ℕ × FieldData) : Type 0 where
  pub field : Field
  pub is : slice_get P.fields f.0 ≡ Some field
  pub of_class : is_kind_of P c field.class ≡ true
  pub finality : field.is_final ≡ f.1.is_final
  pub ty : field.ty ≡ f.1.ty

-- the same of a method
pub record IsMethodOf (P : Program) (c : ℕ) (m : ℕ × MethodData) : Type 0 where
  pub method : Method
  pub is : slice_get P.methods m.0 ≡ Some method
  pub of_class : is_kind_of P c method.class ≡ true
  pub params : typing.parameter_types method ≡ declared_parameter_types m.1
  pub result : method.result ≡ m.1.returns

-- a class is there, with these types of its final fields
pub record IsMade (P : Program) (c : ℕ) (types : List CoreType) : Type 0 where
  pub class : Class
  pub is : slice_get P.classes c ≡ Some class
  pub finals : field_types P class.finals ≡ types

-- what the table finds by name is in the core program, where each class is of the kinds that the table tells
pub record Agrees (t : TableData) (P : Program) : Type 0 where
  pub fields : (c : ℕ) (name : List ℕ) (f : ℕ × FieldData) → field_of_class t c name ≡ Some f → IsFieldOf P c f
  pub methods : (c : ℕ) (name : List ℕ) (m : ℕ × MethodData) → method_named t c name ≡ Some m → IsMethodOf P c m
  pub classes : (c : ℕ) (name : List ℕ) → class_number t name ≡ Some c → IsMade P c (final_types t c)
  pub kinds : (c d : ℕ) → is_of_kind t c d ≡ true → is_kind_of P c d ≡ true
  pub runs : (c : ℕ) (d : ClassData) → slice_get t.classes c ≡ Some d → d.runnable ≡ true → IsRunnable P c

-- each variable that is found by name is one of these, and none is in the slot of `this`
pub record Seen (scope : Scope) (vars : List Variable) : Type 0 where
  pub seen : (name : List ℕ) (v : Variable) → variable scope name ≡ Some v → Contains vars v
  pub above : (name : List ℕ) (v : Variable) → variable scope name ≡ Some v → 0 < v.slot

-- ---- types

pub is_int_of : (T : NodeType) → is_int T ≡ true → T ≡ int_type
is_int_of (ValueT type.Int) h = refl
is_int_of (ValueT type.Boolean) h = absurd (let e : false ≡ true = h in cc)
is_int_of (ValueT (type.Class c)) h = absurd (let e : false ≡ true = h in cc)
is_int_of NullT h = absurd (let e : false ≡ true = h in cc)
is_int_of VoidT h = absurd (let e : false ≡ true = h in cc)

pub is_boolean_of : (T : NodeType) → is_boolean T ≡ true → T ≡ boolean_type
is_boolean_of (ValueT type.Int) h = absurd (let e : false ≡ true = h in cc)
is_boolean_of (ValueT type.Boolean) h = refl
is_boolean_of (ValueT (type.Class c)) h = absurd (let e : false ≡ true = h in cc)
is_boolean_of NullT h = absurd (let e : false ≡ true = h in cc)
is_boolean_of VoidT h = absurd (let e : false ≡ true = h in cc)

pub class_in_of : (ty : CoreType) (c : ℕ) → class_of_core_type ty ≡ Some c → ty ≡ type.Class c
class_in_of (type.Class d) c h = ap type.Class (same_Some d c h)
class_in_of type.Int c h = absurd cc
class_in_of type.Boolean c h = absurd cc

pub receiver_of : (T : NodeType) (c : ℕ) → receiver_class T ≡ Some c → T ≡ class_type c
receiver_of (ValueT ty) c h = ap ValueT (class_in_of ty c h)
receiver_of NullT c h = absurd cc
receiver_of VoidT c h = absurd cc

module _ (t : TableData) (P : Program) (agrees : Agrees t P) where
  -- the field that a name means on a receiver
  pub field_of : (n : Name) (T : NodeType) (f : ℕ × FieldData) → field_rule t n T ≡ Ok f → (c : ℕ) × (T ≡ class_type c) × IsFieldOf P c f
  field_of n T f h =
      let a = then_of (ok_or (receiver_class T) (NoRule n.at)) (λ c. ok_or (field_of_class t c n.text) (UnknownName n.at)) f h in (
        a.0,
        receiver_of T a.0 (ok_or_of (receiver_class T) (NoRule n.at) a.0 a.1),
        agrees.fields a.0 n.text f (ok_or_of (field_of_class t a.0 n.text) (UnknownName n.at) f a.2),
      )

  -- the method that a name means on a receiver
  pub method_of : (n : Name) (T : NodeType) (m : ℕ × MethodData) → method_rule t n T ≡ Ok m → (c : ℕ) × (T ≡ class_type c) × IsMethodOf P c m
  method_of n T m h =
      let a = then_of (ok_or (receiver_class T) (NoRule n.at)) (λ c. ok_or (method_named t c n.text) (UnknownName n.at)) m h in (
        a.0,
        receiver_of T a.0 (ok_or_of (receiver_class T) (NoRule n.at) a.0 a.1),
        agrees.methods a.0 n.text m (ok_or_of (method_named t a.0 n.text) (UnknownName n.at) m a.2),
      )

  module _ (class : ℕ) (vars : List Variable) where
    -- an expression has its type
    abbrev pub Holds : TypedData → Type 0
    Holds d = HasType P class vars d.node d.ty

    -- arguments have these types
    abbrev pub HoldEach : Exprs → List NodeType → Type 0
    HoldEach core.no_exprs [] = Unit {0}
    HoldEach core.no_exprs (T ∷ Ts) = ⊥
    HoldEach (core.and_expr e es) [] = ⊥
    HoldEach (core.and_expr e es) (T ∷ Ts) = HasType P class vars e T × HoldEach es Ts

    -- a class is of the kinds that the table tells
    pub wider : (c d : ℕ) → is_of_kind t c d ≡ true → is_kind_of P c d ≡ true
    wider = agrees.kinds

    -- arguments that hold and fit
    fit_of : (es : Exprs) (Ts : List NodeType) (us : List CoreType) → HoldEach es Ts → fit_each t Ts us ≡ true → FitEach P class vars es us
    fit_of core.no_exprs [] [] h k = tt
    fit_of core.no_exprs [] (u ∷ us) h k = absurd (let e : false ≡ true = k in cc)
    fit_of core.no_exprs (T ∷ Ts) us h k = absurd h
    fit_of (core.and_expr e es) [] us h k = absurd h
    fit_of (core.and_expr e es) (T ∷ Ts) [] h k = absurd (let e : false ≡ true = k in cc)
    fit_of (core.and_expr e es) (T ∷ Ts) (u ∷ us) h k =
        let a = and_parts (fits (is_of_kind t) T (ValueT u)) (fit_each t Ts us) k in
        ((T, h.0, fits_more (is_of_kind t) (is_kind_of P) wider T (ValueT u) a.0), fit_of es Ts us h.1 a.1)

    -- ---- the rules

    number_holds : (n at : ℕ) (d : TypedData) → number_rule n at ≡ Ok d → Holds d
    number_holds n at d h = subst Holds (demand_of _ _ _ d h).1 refl

    not_holds : (at : ℕ) (a d : TypedData) → Holds a → not_rule at a ≡ Ok d → Holds d
    not_holds at a d h is =
        let p = demand_of (is_boolean a.ty) (NoRule at) (typed boolean_type (core.NotE a.node)) d is in
        subst Holds p.1 (subst (HasType P class vars a.node) (is_boolean_of a.ty p.0) h, refl)

    neg_holds : (at : ℕ) (a d : TypedData) → Holds a → neg_rule at a ≡ Ok d → Holds d
    neg_holds at a d h is =
        let p = demand_of (is_int a.ty) (NoRule at) (typed int_type (core.NegE a.node)) d is in
        subst Holds p.1 (subst (HasType P class vars a.node) (is_int_of a.ty p.0) h, refl)

    operator_holds : (op : CoreOp) (at : ℕ) (p : TypedData × TypedData) (d : TypedData) → Holds p.0 → Holds p.1 → operator_rule t op at p ≡ Ok d → Holds d
    operator_holds op at p d h k is =
        let make : NodeType → TypedData = λ ty. typed ty (core.BinaryE op p.0.node p.1.node) in
        let o = map_parts make (binary_type (is_of_kind t) op p.0.ty p.1.ty) d (ok_or_of (option_map make (binary_type (is_of_kind t) op p.0.ty p.1.ty)) (NoRule at) d is) in
        subst Holds o.2 (p.0.ty, p.1.ty, h, k, binary_more (is_of_kind t) (is_kind_of P) wider op p.0.ty p.1.ty o.0 o.1)

    and_holds : (at : ℕ) (p : TypedData × TypedData) (d : TypedData) → Holds p.0 → Holds p.1 → logical_rule core.AndE at p ≡ Ok d → Holds d
    and_holds at p d h k is =
        let q = demand_of (is_boolean p.0.ty && is_boolean p.1.ty) (NoRule at) (typed boolean_type (core.AndE p.0.node p.1.node)) d is in
        let r = and_parts (is_boolean p.0.ty) (is_boolean p.1.ty) q.0 in
        subst Holds q.1
        (subst (HasType P class vars p.0.node) (is_boolean_of p.0.ty r.0) h, subst (HasType P class vars p.1.node) (is_boolean_of p.1.ty r.1) k, refl)

    or_holds : (at : ℕ) (p : TypedData × TypedData) (d : TypedData) → Holds p.0 → Holds p.1 → logical_rule core.OrE at p ≡ Ok d → Holds d
    or_holds at p d h k is =
        let q = demand_of (is_boolean p.0.ty && is_boolean p.1.ty) (NoRule at) (typed boolean_type (core.OrE p.0.node p.1.node)) d is in
        let r = and_parts (is_boolean p.0.ty) (is_boolean p.1.ty) q.0 in
        subst Holds q.1
        (subst (HasType P class vars p.0.node) (is_boolean_of p.0.ty r.0) h, subst (HasType P class vars p.1.node) (is_boolean_of p.1.ty r.1) k, refl)

    binary_holds : (op : Op) (at : ℕ) (p : TypedData × TypedData) (d : TypedData) → Holds p.0 → Holds p.1 → binary_rule t op at p ≡ Ok d → Holds d
    binary_holds O.Or at p d h k is = or_holds at p d h k is
    binary_holds O.And at p d h k is = and_holds at p d h k is
    binary_holds O.Eq at p d h k is = operator_holds core_op.Eq at p d h k is
    binary_holds O.Ne at p d h k is = operator_holds core_op.Ne at p d h k is
    binary_holds O.Lt at p d h k is = operator_holds core_op.Lt at p d h k is
    binary_holds O.Le at p d h k is = operator_holds core_op.Le at p d h k is
    binary_holds O.Gt at p d h k is = operator_holds core_op.Gt at p d h k is
    binary_holds O.Ge at p d h k is = operator_holds core_op.Ge at p d h k is
    binary_holds O.Add at p d h k is = operator_holds core_op.Add at p d h k is
    binary_holds O.Sub at p d h k is = operator_holds core_op.Sub at p d h k is
    binary_holds O.Mul at p d h k is = operator_holds core_op.Mul at p d h k is
    binary_holds O.Div at p d h k is = operator_holds core_op.Div at p d h k is
    binary_holds O.Rem at p d h k is = operator_holds core_op.Rem at p d h k is

    get_holds : (n : Name) (a d : TypedData) → Holds a → get_rule t n a ≡ Ok d → Holds d
    get_holds n a d h is =
        let make : ℕ × FieldData → TypedData = λ f. typed (ValueT f.1.ty) (core.GetE a.node f.0) in
        let f = then_of (field_rule t n a.ty) (λ f. Ok (make f)) d is in
        let k = field_of n a.ty f.0 f.1 in
        let g = k.2 in
        subst Holds (same_ok (make f.0) d f.2)
        (g.field, g.is, (k.0, subst (HasType P class vars a.node) k.1 h, g.of_class), ap ValueT (sym g.ty))

    call_holds : (n : Name) (p : TypedData × TypedList) (d : TypedData) → Holds p.0 → HoldEach p.1.nodes p.1.types → call_rule t n p ≡ Ok d → Holds d
    call_holds n p d h k is =
        let make : ℕ × MethodData → TypedData = λ m. typed (result_type m.1.returns) (core.CallE p.0.node m.0 p.1.nodes) in
        let m = then_of (method_rule t n p.0.ty) (λ m. demand (fit_each t p.1.types (declared_parameter_types m.1)) (NoRule n.at) (make m)) d is in
        let q = demand_of (fit_each t p.1.types (declared_parameter_types m.0.1)) (NoRule n.at) (make m.0) d m.2 in
        let r = method_of n p.0.ty m.0 m.1 in
        let g = r.2 in
        subst Holds q.1 (
          g.method,
          g.is,
          (r.0, subst (HasType P class vars p.0.node) r.1 h, g.of_class),
          subst (FitEach P class vars p.1.nodes) (sym g.params) (fit_of p.1.nodes p.1.types (declared_parameter_types m.0.1) k q.0),
          ap result_type (sym g.result),
        )

    new_holds : (n : Name) (args : TypedList) (d : TypedData) → HoldEach args.nodes args.types → new_rule t n args ≡ Ok d → Holds d
    new_holds n args d k is =
        let make : ℕ → TypedData = λ c. typed (class_type c) (core.NewE c args.nodes) in
        let c = then_of (class_rule t n) (λ c. demand (fit_each t args.types (final_types t c)) (NoRule n.at) (make c)) d is in
        let q = demand_of (fit_each t args.types (final_types t c.0)) (NoRule n.at) (make c.0) d c.2 in
        let g = agrees.classes c.0 n.text (ok_or_of (class_number t n.text) (UnknownName n.at) c.0 c.1) in
        subst Holds q.1
        (g.class, g.is, subst (FitEach P class vars args.nodes) (sym g.finals) (fit_of args.nodes args.types (final_types t c.0) k q.0), refl)

    module _ (scope : Scope) (seen : Seen scope vars) where
      variable_holds : (n : Name) (d : TypedData) → variable_rule scope n ≡ Ok d → Holds d
      variable_holds n d is =
          let o = map_parts variable_typed (variable scope n.text) d (ok_or_of (option_map variable_typed (variable scope n.text)) (UnknownName n.at) d is) in
          subst Holds o.2 (seen.seen n.text o.0 o.1, refl)

      mutual
        -- an expression that has a core node is typed
        pub expr_holds : (e : ExprTree) (d : TypedData) → elaborated t class scope e ≡ Some d → Holds d
        expr_holds (tree.NumberE n at) d h = number_holds n at d (gain_of (number_rule n at) d h)
        expr_holds (tree.LeastE at) d h = subst Holds (same_Some _ d h) refl
        expr_holds (tree.TruthE b at) d h = subst Holds (same_Some _ d h) refl
        expr_holds (tree.NullE at) d h = subst Holds (same_Some _ d h) refl
        expr_holds (tree.ThisE at) d h = subst Holds (same_Some _ d h) refl
        expr_holds (tree.VarE n) d h = variable_holds n d (gain_of (variable_rule scope n) d h)
        expr_holds (tree.ParenE e at) d h = expr_holds e d h
        expr_holds (tree.NotE e at) d h =
            let g = given_of (not_rule at) (elaborated t class scope e) d h in
            not_holds at g.0 d (expr_holds e g.0 g.1) g.2
        expr_holds (tree.NegE e at) d h =
            let g = given_of (neg_rule at) (elaborated t class scope e) d h in
            neg_holds at g.0 d (expr_holds e g.0 g.1) g.2
        expr_holds (tree.BinaryE op a b at) d h =
            let g = given_of (binary_rule t op at) (both (elaborated t class scope a) (elaborated t class scope b)) d h in
            let p = both_of (elaborated t class scope a) (elaborated t class scope b) g.0 g.1 in
            binary_holds op at g.0 d (expr_holds a g.0.0 p.0) (expr_holds b g.0.1 p.1) g.2
        expr_holds (tree.GetE e n) d h =
            let g = given_of (get_rule t n) (elaborated t class scope e) d h in
            get_holds n g.0 d (expr_holds e g.0 g.1) g.2
        expr_holds (tree.CallE e n args) d h =
            let g = given_of (call_rule t n) (both (elaborated t class scope e) (elaborated_each t class scope args)) d h in
            let p = both_of (elaborated t class scope e) (elaborated_each t class scope args) g.0 g.1 in
            call_holds n g.0 d (expr_holds e g.0.0 p.0) (each_holds args g.0.1 p.1) g.2
        expr_holds (tree.NewE n args at) d h =
            let g = given_of (new_rule t n) (elaborated_each t class scope args) d h in
            new_holds n g.0 d (each_holds args g.0 g.1) g.2

        pub each_holds : (es : ExprTrees) (l : TypedList) → elaborated_each t class scope es ≡ Some l → HoldEach l.nodes l.types
        each_holds no_exprs l h = subst (λ z. HoldEach z.nodes z.types) (same_Some _ l h) tt
        each_holds (more_exprs e es) l h =
            let g = map_parts with_argument (both (elaborated t class scope e) (elaborated_each t class scope es)) l h in
            let p = both_of (elaborated t class scope e) (elaborated_each t class scope es) g.0 g.1 in
            subst (λ z. HoldEach z.nodes z.types) g.2 (expr_holds e g.0.0 p.0, each_holds es g.0.1 p.1)
