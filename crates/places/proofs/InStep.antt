-- The nodes of an expression in step with what they were made of.
use Rattle.std.proofs.Common.{◌≡◌, ℕ, List, [], ◌∷◌, ◌++◌, Option, Some, Ok, refl, sym, ap, subst, ◌∙◌, ◌&&◌, option_map}
use Rattle.std.proofs.lemmas.Option.{same_Some}
use Rattle.base.proofs.Options.{map_parts}
use Rattle.syntax.specs.declared.tree.Name.{Name}
use Rattle.syntax.specs.declared.tree.Op.{Op}
use Rattle.syntax.specs.declared.tree.Op.TheVariants as O
use Rattle.syntax.specs.Trees.{ExprTree, ExprTrees, no_exprs, more_exprs}
use Rattle.syntax.specs.Trees as tree
use Rattle.core_program.specs.declared.types.CoreType.{CoreType}
use Rattle.core_program.specs.declared.types.CoreOp.{CoreOp}
use Rattle.core_program.specs.declared.types.CoreOp.TheVariants as core_op
use Rattle.core_program.specs.Core as core
use Rattle.core_program.specs.Types.{NodeType, ValueT, NullT, boolean_type, int_type, class_type, result_type, binary_type}
use Rattle.effects.specs.Parts.{Part, ExprP}
use Rattle.explain.specs.PartEffects.{expr_parts, exprs_parts}
use Rattle.classes.specs.Table.{TableData, MethodData, is_of_kind}
use Rattle.classes.specs.Seen.{FieldData}
use Rattle.typing.specs.declared.fault.TypeFault.TheVariants.{UnknownName, NoRule}
use Rattle.typing.specs.Rulings.{both, demand}
use Rattle.typing.specs.Scopes.{Scope, variable}
use Rattle.typing.specs.Rules.{TypedData, TypedList, typed, with_argument, is_int, is_boolean, number_rule, least_typed, variable_typed, not_rule, neg_rule, operator_rule, logical_rule, binary_rule, field_rule, method_rule, get_rule, call_rule, class_rule, new_rule, fit_each, final_types, declared_parameter_types}
use Rattle.typing.specs.Exprs.{elaborated, elaborated_each, variable_rule}
use Rattle.typing.proofs.Inversions.{same_ok, gain_of, given_of, both_of, demand_of, then_of, ok_or_of}
use Rattle.places.specs.Sources.{Source, FromExpr, expr_sources, exprs_sources}
use Rattle.places.specs.Making.{expr, AreMade, end, more}
use Rattle.places.proofs.AtNumbers.{made_both}

module _ (t : TableData) (class : ℕ) (returns : Option CoreType) (first : ℕ) (Within : Scope → Type 0) (scope : Scope) (within : Within scope) where
  abbrev Made : List Part → List Source → Type 0
  Made xs us = AreMade t class returns first Within xs us

  -- a node above nodes that are in step
  over : (u : ExprTree) (make d : TypedData) (xs : List Part) (us : List Source) → make ≡ d → expr_parts make.node ≡ (ExprP make.node ∷ xs)
      → elaborated t class scope u ≡ Some d → Made xs us → Made (expr_parts d.node) (FromExpr u ∷ us)
  over u make d xs us same parts h own =
      subst (λ z. Made (expr_parts z.node) (FromExpr u ∷ us)) same
      (subst (λ zs. Made zs (FromExpr u ∷ us)) (sym parts) (more (ExprP make.node) (FromExpr u) xs us (expr scope u make within (h ∙ ap Some (sym same))) own))

  operator_made : (u : ExprTree) (op : CoreOp) (at : ℕ) (p : TypedData × TypedData) (d : TypedData) (us : List Source) → operator_rule t op at p ≡ Ok d
      → elaborated t class scope u ≡ Some d → Made (expr_parts p.0.node ++ expr_parts p.1.node) us → Made (expr_parts d.node) (FromExpr u ∷ us)
  operator_made u op at p d us is h own =
      let make : NodeType → TypedData = λ ty. typed ty (core.BinaryE op p.0.node p.1.node) in
      let o = map_parts make (binary_type (is_of_kind t) op p.0.ty p.1.ty) d (ok_or_of (option_map make (binary_type (is_of_kind t) op p.0.ty p.1.ty)) (NoRule at) d is) in
      over u (make o.0) d (expr_parts p.0.node ++ expr_parts p.1.node) us o.2 refl h own

  and_made : (u : ExprTree) (at : ℕ) (p : TypedData × TypedData) (d : TypedData) (us : List Source) → logical_rule core.AndE at p ≡ Ok d
      → elaborated t class scope u ≡ Some d → Made (expr_parts p.0.node ++ expr_parts p.1.node) us → Made (expr_parts d.node) (FromExpr u ∷ us)
  and_made u at p d us is h own =
      over u (typed boolean_type (core.AndE p.0.node p.1.node)) d (expr_parts p.0.node ++ expr_parts p.1.node) us
      (demand_of (is_boolean p.0.ty && is_boolean p.1.ty) (NoRule at) (typed boolean_type (core.AndE p.0.node p.1.node)) d is).1 refl h own

  or_made : (u : ExprTree) (at : ℕ) (p : TypedData × TypedData) (d : TypedData) (us : List Source) → logical_rule core.OrE at p ≡ Ok d
      → elaborated t class scope u ≡ Some d → Made (expr_parts p.0.node ++ expr_parts p.1.node) us → Made (expr_parts d.node) (FromExpr u ∷ us)
  or_made u at p d us is h own =
      over u (typed boolean_type (core.OrE p.0.node p.1.node)) d (expr_parts p.0.node ++ expr_parts p.1.node) us
      (demand_of (is_boolean p.0.ty && is_boolean p.1.ty) (NoRule at) (typed boolean_type (core.OrE p.0.node p.1.node)) d is).1 refl h own

  binary_made : (u : ExprTree) (op : Op) (at : ℕ) (p : TypedData × TypedData) (d : TypedData) (us : List Source) → binary_rule t op at p ≡ Ok d
      → elaborated t class scope u ≡ Some d → Made (expr_parts p.0.node ++ expr_parts p.1.node) us → Made (expr_parts d.node) (FromExpr u ∷ us)
  binary_made u O.Or at p d us is = or_made u at p d us is
  binary_made u O.And at p d us is = and_made u at p d us is
  binary_made u O.Eq at p d us is = operator_made u core_op.Eq at p d us is
  binary_made u O.Ne at p d us is = operator_made u core_op.Ne at p d us is
  binary_made u O.Lt at p d us is = operator_made u core_op.Lt at p d us is
  binary_made u O.Le at p d us is = operator_made u core_op.Le at p d us is
  binary_made u O.Gt at p d us is = operator_made u core_op.Gt at p d us is
  binary_made u O.Ge at p d us is = operator_made u core_op.Ge at p d us is
  binary_made u O.Add at p d us is = operator_made u core_op.Add at p d us is
  binary_made u O.Sub at p d us is = operator_made u core_op.Sub at p d us is
  binary_made u O.Mul at p d us is = operator_made u core_op.Mul at p d us is
  binary_made u O.Div at p d us is = operator_made u core_op.Div at p d us is
  binary_made u O.Rem at p d us is = operator_made u core_op.Rem at p d us is

  call_made : (u : ExprTree) (name : Name) (p : TypedData × TypedList) (d : TypedData) (us : List Source) → call_rule t name p ≡ Ok d
      → elaborated t class scope u ≡ Some d → Made (expr_parts p.0.node ++ exprs_parts p.1.nodes) us → Made (expr_parts d.node) (FromExpr u ∷ us)
  call_made u name p d us is h own =
      let make : ℕ × MethodData → TypedData = λ m. typed (result_type m.1.returns) (core.CallE p.0.node m.0 p.1.nodes) in
      let o = then_of (method_rule t name p.0.ty) (λ m. demand (fit_each t p.1.types (declared_parameter_types m.1)) (NoRule name.at) (make m)) d is in
      over u (make o.0) d (expr_parts p.0.node ++ exprs_parts p.1.nodes) us
      (demand_of (fit_each t p.1.types (declared_parameter_types o.0.1)) (NoRule name.at) (make o.0) d o.2).1 refl h own

  new_made : (u : ExprTree) (name : Name) (args : TypedList) (d : TypedData) (us : List Source) → new_rule t name args ≡ Ok d
      → elaborated t class scope u ≡ Some d → Made (exprs_parts args.nodes) us → Made (expr_parts d.node) (FromExpr u ∷ us)
  new_made u name args d us is h own =
      let make : ℕ → TypedData = λ c. typed (class_type c) (core.NewE c args.nodes) in
      let o = then_of (class_rule t name) (λ c. demand (fit_each t args.types (final_types t c)) (NoRule name.at) (make c)) d is in
      over u (make o.0) d (exprs_parts args.nodes) us
      (demand_of (fit_each t args.types (final_types t o.0)) (NoRule name.at) (make o.0) d o.2).1 refl h own

  mutual
    pub expr_made : (u : ExprTree) (d : TypedData) → elaborated t class scope u ≡ Some d → Made (expr_parts d.node) (expr_sources u)
    expr_made (tree.NumberE n at) d h =
        over (tree.NumberE n at) _ d [] [] (demand_of _ _ _ d (gain_of (number_rule n at) d h)).1 refl h end
    expr_made (tree.LeastE at) d h = over (tree.LeastE at) least_typed d [] [] (same_Some _ d h) refl h end
    expr_made (tree.TruthE b at) d h = over (tree.TruthE b at) (typed boolean_type (core.TruthE b)) d [] [] (same_Some _ d h) refl h end
    expr_made (tree.NullE at) d h = over (tree.NullE at) (typed NullT core.NullE) d [] [] (same_Some _ d h) refl h end
    expr_made (tree.ThisE at) d h = over (tree.ThisE at) (typed (class_type class) core.ThisE) d [] [] (same_Some _ d h) refl h end
    expr_made (tree.VarE n) d h =
        let o = map_parts variable_typed (variable scope n.text) d (ok_or_of (option_map variable_typed (variable scope n.text)) (UnknownName n.at) d (gain_of (variable_rule scope n) d h)) in
        over (tree.VarE n) (variable_typed o.0) d [] [] o.2 refl h end
    expr_made (tree.ParenE e at) d h = expr_made e d h
    expr_made (tree.NotE e at) d h =
        let g = given_of (not_rule at) (elaborated t class scope e) d h in
        over (tree.NotE e at) (typed boolean_type (core.NotE g.0.node)) d (expr_parts g.0.node) (expr_sources e)
        (demand_of (is_boolean g.0.ty) (NoRule at) (typed boolean_type (core.NotE g.0.node)) d g.2).1 refl h (expr_made e g.0 g.1)
    expr_made (tree.NegE e at) d h =
        let g = given_of (neg_rule at) (elaborated t class scope e) d h in
        over (tree.NegE e at) (typed int_type (core.NegE g.0.node)) d (expr_parts g.0.node) (expr_sources e)
        (demand_of (is_int g.0.ty) (NoRule at) (typed int_type (core.NegE g.0.node)) d g.2).1 refl h (expr_made e g.0 g.1)
    expr_made (tree.BinaryE op a b at) d h =
        let g = given_of (binary_rule t op at) (both (elaborated t class scope a) (elaborated t class scope b)) d h in
        let p = both_of (elaborated t class scope a) (elaborated t class scope b) g.0 g.1 in
        binary_made (tree.BinaryE op a b at) op at g.0 d (expr_sources a ++ expr_sources b) g.2 h
        (made_both t class returns first Within (expr_made a g.0.0 p.0) (expr_made b g.0.1 p.1))
    expr_made (tree.GetE e n) d h =
        let g = given_of (get_rule t n) (elaborated t class scope e) d h in
        let make : ℕ × FieldData → TypedData = λ f. typed (ValueT f.1.ty) (core.GetE g.0.node f.0) in
        let f = then_of (field_rule t n g.0.ty) (λ f. Ok (make f)) d g.2 in
        over (tree.GetE e n) (make f.0) d (expr_parts g.0.node) (expr_sources e) (same_ok (make f.0) d f.2) refl h (expr_made e g.0 g.1)
    expr_made (tree.CallE e n args) d h =
        let g = given_of (call_rule t n) (both (elaborated t class scope e) (elaborated_each t class scope args)) d h in
        let p = both_of (elaborated t class scope e) (elaborated_each t class scope args) g.0 g.1 in
        call_made (tree.CallE e n args) n g.0 d (expr_sources e ++ exprs_sources args) g.2 h
        (made_both t class returns first Within (expr_made e g.0.0 p.0) (each_made args g.0.1 p.1))
    expr_made (tree.NewE n args at) d h =
        let g = given_of (new_rule t n) (elaborated_each t class scope args) d h in
        new_made (tree.NewE n args at) n g.0 d (exprs_sources args) g.2 h (each_made args g.0 g.1)

    pub each_made : (us : ExprTrees) (l : TypedList) → elaborated_each t class scope us ≡ Some l → Made (exprs_parts l.nodes) (exprs_sources us)
    each_made no_exprs l h = subst (λ z. Made (exprs_parts z.nodes) []) (same_Some _ l h) end
    each_made (more_exprs e es) l h =
        let g = map_parts with_argument (both (elaborated t class scope e) (elaborated_each t class scope es)) l h in
        let p = both_of (elaborated t class scope e) (elaborated_each t class scope es) g.0 g.1 in
        subst (λ z. Made (exprs_parts z.nodes) (expr_sources e ++ exprs_sources es)) g.2
        (made_both t class returns first Within (expr_made e g.0.0 p.0) (each_made es g.0.1 p.1))
