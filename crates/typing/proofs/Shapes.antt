-- How large the core node of an expression is, and whether it is the literal `true`.
use Rattle.std.proofs.Common.{◌≡◌, ℕ, ◌+◌, ◌≤◌, max, Bool, false, Some, Ok, refl, subst, ◌&&◌, arith, option_map}
use Rattle.std.proofs.lemmas.Option.{same_Some}
use Rattle.base.proofs.Options.{map_parts}
use Rattle.syntax.specs.declared.tree.Name.{Name}
use Rattle.syntax.specs.declared.tree.Op.{Op}
use Rattle.syntax.specs.declared.tree.Op.TheVariants as O
use Rattle.syntax.specs.Trees.{ExprTree, ExprTrees, no_exprs, more_exprs}
use Rattle.syntax.specs.Trees as tree
use Rattle.syntax.specs.Heights as tree_height
use Rattle.core_program.specs.declared.types.CoreOp.{CoreOp}
use Rattle.core_program.specs.declared.types.CoreOp.TheVariants as core_op
use Rattle.core_program.specs.Core as core
use Rattle.core_program.specs.Core.{Expr, Exprs}
use Rattle.core_program.specs.Types.{NodeType, ValueT, boolean_type, int_type, class_type, result_type, binary_type}
use Rattle.core_program.specs.Sizes.{height_of, highest_of, nodes_of, nodes_of_each}
use Rattle.core_program.specs.Typed as typing
use Rattle.classes.specs.Table.{TableData, MethodData, is_of_kind}
use Rattle.classes.specs.Seen.{FieldData}
use Rattle.typing.specs.declared.fault.TypeFault.TheVariants.{UnknownName, NoRule}
use Rattle.typing.specs.Rulings.{both, demand}
use Rattle.typing.specs.Scopes.{Scope, variable}
use Rattle.typing.specs.Completion.{is_true_tree}
use Rattle.typing.specs.Rules.{TypedData, TypedList, typed, with_argument, is_int, is_boolean, number_rule, variable_typed, not_rule, neg_rule, operator_rule, logical_rule, binary_rule, field_rule, method_rule, get_rule, call_rule, class_rule, new_rule, fit_each, final_types, declared_parameter_types}
use Rattle.typing.specs.Exprs.{elaborated, elaborated_each, variable_rule}
use Rattle.typing.proofs.Inversions.{same_ok, gain_of, given_of, both_of, demand_of, then_of, ok_or_of}

abbrev mutual
  -- how many nodes an expression's core node has at most
  pub size : ExprTree → ℕ
  size (tree.ParenE e at) = size e
  size (tree.NotE e at) = 1 + size e
  size (tree.NegE e at) = 1 + size e
  size (tree.BinaryE op a b at) = 1 + (size a + size b)
  size (tree.GetE e n) = 1 + size e
  size (tree.CallE e n args) = 1 + (size e + sizes args)
  size (tree.NewE n args at) = 1 + sizes args
  size _ = 1

  pub sizes : ExprTrees → ℕ
  sizes no_exprs = 0
  sizes (more_exprs e es) = size e + sizes es

-- an expression's core node has at most this height and so many nodes, and it is `true` or not
pub record IsShape (h n : ℕ) (b : Bool) (e : Expr) : Type 0 where
  pub height : height_of e ≤ h
  pub nodes : nodes_of e ≤ n
  pub literal : typing.is_true_literal e ≡ b

-- the same of arguments
pub record AreShapes (h n : ℕ) (es : Exprs) : Type 0 where
  pub height : highest_of es ≤ h
  pub nodes : nodes_of_each es ≤ n

pub max_mono : (a b c d : ℕ) → a ≤ c → b ≤ d → max a b ≤ max c d
max_mono a b c d h k = grind arith

module _ (t : TableData) (class : ℕ) (scope : Scope) where
  operator_shape : (h k n m : ℕ) (b c : Bool) (op : CoreOp) (at : ℕ) (p : TypedData × TypedData) (d : TypedData)
      → IsShape h n b p.0.node → IsShape k m c p.1.node → operator_rule t op at p ≡ Ok d → IsShape (1 + max h k) (1 + (n + m)) false d.node
  operator_shape h k n m b c op at p d x y is =
      let make : NodeType → TypedData = λ ty. typed ty (core.BinaryE op p.0.node p.1.node) in
      let o = map_parts make (binary_type (is_of_kind t) op p.0.ty p.1.ty) d (ok_or_of (option_map make (binary_type (is_of_kind t) op p.0.ty p.1.ty)) (NoRule at) d is) in
      subst (λ z. IsShape (1 + max h k) (1 + (n + m)) false z.node) o.2 (record {
        height = omega (arith, max_mono (height_of p.0.node) (height_of p.1.node) h k x.height y.height);
        nodes = omega (arith, x.nodes, y.nodes);
        literal = refl;
      })

  and_shape : (h k n m : ℕ) (b c : Bool) (at : ℕ) (p : TypedData × TypedData) (d : TypedData)
      → IsShape h n b p.0.node → IsShape k m c p.1.node → logical_rule core.AndE at p ≡ Ok d → IsShape (1 + max h k) (1 + (n + m)) false d.node
  and_shape h k n m b c at p d x y is =
      let q = demand_of (is_boolean p.0.ty && is_boolean p.1.ty) (NoRule at) (typed boolean_type (core.AndE p.0.node p.1.node)) d is in
      subst (λ z. IsShape (1 + max h k) (1 + (n + m)) false z.node) q.1 (record {
        height = omega (arith, max_mono (height_of p.0.node) (height_of p.1.node) h k x.height y.height);
        nodes = omega (arith, x.nodes, y.nodes);
        literal = refl;
      })

  or_shape : (h k n m : ℕ) (b c : Bool) (at : ℕ) (p : TypedData × TypedData) (d : TypedData)
      → IsShape h n b p.0.node → IsShape k m c p.1.node → logical_rule core.OrE at p ≡ Ok d → IsShape (1 + max h k) (1 + (n + m)) false d.node
  or_shape h k n m b c at p d x y is =
      let q = demand_of (is_boolean p.0.ty && is_boolean p.1.ty) (NoRule at) (typed boolean_type (core.OrE p.0.node p.1.node)) d is in
      subst (λ z. IsShape (1 + max h k) (1 + (n + m)) false z.node) q.1 (record {
        height = omega (arith, max_mono (height_of p.0.node) (height_of p.1.node) h k x.height y.height);
        nodes = omega (arith, x.nodes, y.nodes);
        literal = refl;
      })

  binary_shape : (h k n m : ℕ) (b c : Bool) (op : Op) (at : ℕ) (p : TypedData × TypedData) (d : TypedData)
      → IsShape h n b p.0.node → IsShape k m c p.1.node → binary_rule t op at p ≡ Ok d → IsShape (1 + max h k) (1 + (n + m)) false d.node
  binary_shape h k n m b c O.Or at p d x y is = or_shape h k n m b c at p d x y is
  binary_shape h k n m b c O.And at p d x y is = and_shape h k n m b c at p d x y is
  binary_shape h k n m b c O.Eq at p d x y is = operator_shape h k n m b c core_op.Eq at p d x y is
  binary_shape h k n m b c O.Ne at p d x y is = operator_shape h k n m b c core_op.Ne at p d x y is
  binary_shape h k n m b c O.Lt at p d x y is = operator_shape h k n m b c core_op.Lt at p d x y is
  binary_shape h k n m b c O.Le at p d x y is = operator_shape h k n m b c core_op.Le at p d x y is
  binary_shape h k n m b c O.Gt at p d x y is = operator_shape h k n m b c core_op.Gt at p d x y is
  binary_shape h k n m b c O.Ge at p d x y is = operator_shape h k n m b c core_op.Ge at p d x y is
  binary_shape h k n m b c O.Add at p d x y is = operator_shape h k n m b c core_op.Add at p d x y is
  binary_shape h k n m b c O.Sub at p d x y is = operator_shape h k n m b c core_op.Sub at p d x y is
  binary_shape h k n m b c O.Mul at p d x y is = operator_shape h k n m b c core_op.Mul at p d x y is
  binary_shape h k n m b c O.Div at p d x y is = operator_shape h k n m b c core_op.Div at p d x y is
  binary_shape h k n m b c O.Rem at p d x y is = operator_shape h k n m b c core_op.Rem at p d x y is

  call_shape : (h k n m : ℕ) (b : Bool) (name : Name) (p : TypedData × TypedList) (d : TypedData)
      → IsShape h n b p.0.node → AreShapes k m p.1.nodes → call_rule t name p ≡ Ok d → IsShape (1 + max h k) (1 + (n + m)) false d.node
  call_shape h k n m b name p d x y is =
      let make : ℕ × MethodData → TypedData = λ m. typed (result_type m.1.returns) (core.CallE p.0.node m.0 p.1.nodes) in
      let o = then_of (method_rule t name p.0.ty) (λ m. demand (fit_each t p.1.types (declared_parameter_types m.1)) (NoRule name.at) (make m)) d is in
      let q = demand_of (fit_each t p.1.types (declared_parameter_types o.0.1)) (NoRule name.at) (make o.0) d o.2 in
      subst (λ z. IsShape (1 + max h k) (1 + (n + m)) false z.node) q.1 (record {
        height = omega (arith, max_mono (height_of p.0.node) (highest_of p.1.nodes) h k x.height y.height);
        nodes = omega (arith, x.nodes, y.nodes);
        literal = refl;
      })

  new_shape : (k m : ℕ) (name : Name) (args : TypedList) (d : TypedData)
      → AreShapes k m args.nodes → new_rule t name args ≡ Ok d → IsShape (1 + k) (1 + m) false d.node
  new_shape k m name args d y is =
      let make : ℕ → TypedData = λ c. typed (class_type c) (core.NewE c args.nodes) in
      let o = then_of (class_rule t name) (λ c. demand (fit_each t args.types (final_types t c)) (NoRule name.at) (make c)) d is in
      let q = demand_of (fit_each t args.types (final_types t o.0)) (NoRule name.at) (make o.0) d o.2 in
      subst (λ z. IsShape (1 + k) (1 + m) false z.node) q.1 (record { height = omega (arith, y.height); nodes = omega (arith, y.nodes); literal = refl })

  mutual
    pub expr_shape : (e : ExprTree) (d : TypedData) → elaborated t class scope e ≡ Some d → IsShape (tree_height.height e) (size e) (is_true_tree e) d.node
    expr_shape (tree.NumberE n at) d h =
        subst (λ z. IsShape 1 1 false z.node) (demand_of _ _ _ d (gain_of (number_rule n at) d h)).1 (record { height = omega arith; nodes = omega arith; literal = refl })
    expr_shape (tree.LeastE at) d h = subst (λ z. IsShape 1 1 false z.node) (same_Some _ d h) (record { height = omega arith; nodes = omega arith; literal = refl })
    expr_shape (tree.TruthE b at) d h = subst (λ z. IsShape 1 1 b z.node) (same_Some _ d h) (record { height = omega arith; nodes = omega arith; literal = refl })
    expr_shape (tree.NullE at) d h = subst (λ z. IsShape 1 1 false z.node) (same_Some _ d h) (record { height = omega arith; nodes = omega arith; literal = refl })
    expr_shape (tree.ThisE at) d h = subst (λ z. IsShape 1 1 false z.node) (same_Some _ d h) (record { height = omega arith; nodes = omega arith; literal = refl })
    expr_shape (tree.VarE n) d h =
        let o = map_parts variable_typed (variable scope n.text) d (ok_or_of (option_map variable_typed (variable scope n.text)) (UnknownName n.at) d (gain_of (variable_rule scope n) d h)) in
        subst (λ z. IsShape 1 1 false z.node) o.2 (record { height = omega arith; nodes = omega arith; literal = refl })
    expr_shape (tree.ParenE e at) d h =
        let s = expr_shape e d h in
        record { height = omega (arith, s.height); nodes = s.nodes; literal = s.literal }
    expr_shape (tree.NotE e at) d h =
        let g = given_of (not_rule at) (elaborated t class scope e) d h in
        let s = expr_shape e g.0 g.1 in
        subst (λ z. IsShape (1 + tree_height.height e) (1 + size e) false z.node)
        (demand_of (is_boolean g.0.ty) (NoRule at) (typed boolean_type (core.NotE g.0.node)) d g.2).1
        (record { height = omega (arith, s.height); nodes = omega (arith, s.nodes); literal = refl })
    expr_shape (tree.NegE e at) d h =
        let g = given_of (neg_rule at) (elaborated t class scope e) d h in
        let s = expr_shape e g.0 g.1 in
        subst (λ z. IsShape (1 + tree_height.height e) (1 + size e) false z.node)
        (demand_of (is_int g.0.ty) (NoRule at) (typed int_type (core.NegE g.0.node)) d g.2).1
        (record { height = omega (arith, s.height); nodes = omega (arith, s.nodes); literal = refl })
    expr_shape (tree.BinaryE op a b at) d h =
        let g = given_of (binary_rule t op at) (both (elaborated t class scope a) (elaborated t class scope b)) d h in
        let p = both_of (elaborated t class scope a) (elaborated t class scope b) g.0 g.1 in
        binary_shape (tree_height.height a) (tree_height.height b) (size a) (size b) (is_true_tree a) (is_true_tree b) op at g.0 d
        (expr_shape a g.0.0 p.0) (expr_shape b g.0.1 p.1) g.2
    expr_shape (tree.GetE e n) d h =
        let g = given_of (get_rule t n) (elaborated t class scope e) d h in
        let make : ℕ × FieldData → TypedData = λ f. typed (ValueT f.1.ty) (core.GetE g.0.node f.0) in
        let f = then_of (field_rule t n g.0.ty) (λ f. Ok (make f)) d g.2 in
        let s = expr_shape e g.0 g.1 in
        subst (λ z. IsShape (1 + tree_height.height e) (1 + size e) false z.node) (same_ok (make f.0) d f.2)
        (record { height = omega (arith, s.height); nodes = omega (arith, s.nodes); literal = refl })
    expr_shape (tree.CallE e n args) d h =
        let g = given_of (call_rule t n) (both (elaborated t class scope e) (elaborated_each t class scope args)) d h in
        let p = both_of (elaborated t class scope e) (elaborated_each t class scope args) g.0 g.1 in
        call_shape (tree_height.height e) (tree_height.heights args) (size e) (sizes args) (is_true_tree e) n g.0 d
        (expr_shape e g.0.0 p.0) (each_shape args g.0.1 p.1) g.2
    expr_shape (tree.NewE n args at) d h =
        let g = given_of (new_rule t n) (elaborated_each t class scope args) d h in
        new_shape (tree_height.heights args) (sizes args) n g.0 d (each_shape args g.0 g.1) g.2

    pub each_shape : (es : ExprTrees) (l : TypedList) → elaborated_each t class scope es ≡ Some l → AreShapes (tree_height.heights es) (sizes es) l.nodes
    each_shape no_exprs l h = subst (λ z. AreShapes 0 0 z.nodes) (same_Some _ l h) (record { height = omega arith; nodes = omega arith })
    each_shape (more_exprs e es) l h =
        let g = map_parts with_argument (both (elaborated t class scope e) (elaborated_each t class scope es)) l h in
        let p = both_of (elaborated t class scope e) (elaborated_each t class scope es) g.0 g.1 in
        let s = expr_shape e g.0.0 p.0 in
        let u = each_shape es g.0.1 p.1 in
        subst (λ z. AreShapes (max (tree_height.height e) (tree_height.heights es)) (size e + sizes es) z.nodes) g.2 (record {
          height = max_mono (height_of g.0.0.node) (highest_of g.0.1.nodes) (tree_height.height e) (tree_height.heights es) s.height u.height;
          nodes = omega (arith, s.nodes, u.nodes);
        })
