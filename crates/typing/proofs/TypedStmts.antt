-- The core node of a statement is typed, declares and completes as the statement does, and isn't larger.
use Rattle.std.proofs.Common.{◌≡◌, ℕ, ◌+◌, ◌<◌, ◌≤◌, max, Bool, true, false, not, List, [], ◌∷◌, ◌++◌, Option, Some, None, is_none, Ok, refl, ap, ap₂, sym, ◌∙◌, subst, ◌&&◌, ◌||◌, Contains, slice_get, nat_lt, arith, option_map, if◌then◌else◌}
use Rattle.std.specs.Prelude.{ok_or}
use Rattle.std.proofs.lemmas.Bool.Decides.{nat_tests}
use Rattle.std.proofs.lemmas.Option.{slice_get_within, same_Some}
use Rattle.std.proofs.lemmas.Bool.{not-true}
use Rattle.std.proofs.Math.Bool.{or-true}
use Rattle.base.proofs.Options.{if_taken, map_parts}
use Rattle.syntax.specs.declared.tree.Name.{Name}
use Rattle.syntax.specs.declared.tree.TypeName.{TypeName}
use Rattle.syntax.specs.declared.tree.TypeName.TheVariants as Y
use Rattle.syntax.specs.Trees.{ExprTree, StmtTree, StmtTrees, IfElseS, more_stmts}
use Rattle.syntax.specs.Trees as tree
use Rattle.syntax.specs.Heights as tree_height
use Rattle.core_program.specs.declared.types.CoreType.{CoreType}
use Rattle.core_program.specs.declared.types.CoreType.TheVariants as type
use Rattle.core_program.specs.Core as core
use Rattle.core_program.specs.Core.{Program, Expr, Stmt, Stmts}
use Rattle.core_program.specs.Types.{ValueT, boolean_type, fits, Variable, HasType, HasFit}
use Rattle.core_program.specs.Sizes.{height_of}
use Rattle.core_program.specs.Sizes as sizes
use Rattle.core_program.specs.Typed as typing
use Rattle.core_program.specs.Dispatch.{is_kind_of}
use Rattle.core_program.proofs.DispatchLemmas.{fits_more}
use Rattle.core_program.specs.Typed.{IsType, IsOf, IsRunnable, is_call_or_new, gives_value, most_locals, IsTypedStmt, AreTypedStmts, declared_in, declared_in_each}
use Rattle.classes.specs.Table.{TableData, ClassData, class_number, is_of_kind}
use Rattle.typing.specs.declared.fault.TypeFault.TheVariants.{UnknownName, NoRule, FinalAssigned}
use Rattle.typing.specs.Rulings.{gain, ruled, both, demand, then_rule}
use Rattle.typing.specs.Scopes.{Binding, Scope, variable}
use Rattle.typing.specs.Rules.{TypedData, is_int, is_boolean, receiver_class, type_rule, field_rule, fit_rule}
use Rattle.typing.specs.Locks.{lock_rule}
use Rattle.typing.specs.Exprs.{elaborated}
use Rattle.typing.specs.Completion.{completes, completes_each, is_true_tree, locals_in, locals_in_each}
use Rattle.typing.specs.Stmts.{local_rule, target_rule, set_rule, field_target, put_rule, do_rule, condition_rule, return_rule, value_rule, print_rule, counts_runnable, is_runnable, start_rule, declared, if_node, scope_after, stmt_core, block_core}
use Rattle.typing.proofs.Inversions.{same_ok, gain_of, given_of, none_of, both_of, demand_of, then_of, ok_or_of}
use Rattle.typing.proofs.TypedExprs.{Agrees, Seen, wider, is_int_of, is_boolean_of, receiver_of, field_of, expr_holds}
use Rattle.typing.proofs.TypedLocks.{lock_holds}
use Rattle.typing.proofs.Shapes.{max_mono, size, IsShape, expr_shape}
use Rattle.typing.proofs.StmtSizes.{stmt_size, stmt_sizes, max_if, at_least_one}
use Rattle.typing.proofs.SeenScopes.{seen_more}

-- ---- small facts

below_limit : (n : ℕ) → nat_lt n most_locals ≡ true → n + 1 ≤ most_locals
below_limit n h = grind (arith, nat_tests)

module _ (t : TableData) (P : Program) (agrees : Agrees t P) (class : ℕ) (returns : Option CoreType) (first : ℕ) (first_above : 0 < first) where
  -- a type that is known is one of the program
  pub type_is : (ty : TypeName) (u : CoreType) → type_rule t ty ≡ Ok u → IsType P u
  type_is Y.Int u h = subst (IsType P) (same_ok type.Int u h) tt
  type_is Y.Boolean u h = subst (IsType P) (same_ok type.Boolean u h) tt
  type_is (Y.Class n) u h =
      let c = map_parts type.Class (class_number t n.text) u (ok_or_of (option_map type.Class (class_number t n.text)) (UnknownName n.at) u h) in
      let made = agrees.classes c.0 n.text c.1 in
      subst (IsType P) c.2 (slice_get_within P.classes c.0 made.class made.is)

  -- ---- a statement as it is to be

  pub record IsFine (scope : Scope) (vars : List Variable) (before : ℕ) (s : StmtTree) (n : Stmt) : Type 0 where
    pub is_typed : IsTypedStmt P class returns n vars (first + before)
    pub declares : declared_in n ≡ locals_in s
    pub ends : typing.can_complete n ≡ completes s
    pub height : sizes.stmt_height n ≤ tree_height.stmt_height s
    pub nodes : sizes.stmt_nodes n ≤ stmt_size s
    pub low : before ≤ most_locals → before + locals_in s ≤ most_locals
    pub later : Seen (scope_after t class returns first scope before s) (typing.variables_after n vars)

  pub record AreFine (vars : List Variable) (before : ℕ) (ss : StmtTrees) (ns : Stmts) : Type 0 where
    pub are_typed : AreTypedStmts P class returns ns vars (first + before)
    pub declare : declared_in_each ns ≡ locals_in_each ss
    pub ends : typing.completes_each ns ≡ completes_each ss
    pub height : sizes.highest_stmt ns ≤ tree_height.stmt_heights ss
    pub nodes : sizes.stmt_nodes_each ns ≤ stmt_sizes ss
    pub low : before ≤ most_locals → before + locals_in_each ss ≤ most_locals

  module _ (scope : Scope) (vars : List Variable) (seen : Seen scope vars) where
    -- a condition: boolean, no larger, and the literal `true` or not
    record IsCondition (e : ExprTree) (c : Expr) : Type 0 where
      boolean : HasType P class vars c boolean_type
      shape : IsShape (tree_height.height e) (size e) (is_true_tree e) c

    condition_fine : (e : ExprTree) (at : ℕ) (c : Expr) → ruled (condition_rule at) (elaborated t class scope e) ≡ Some c → IsCondition e c
    condition_fine e at c h =
        let g = given_of (condition_rule at) (elaborated t class scope e) c h in
        let q = demand_of (is_boolean g.0.ty) (NoRule at) g.0.node c g.2 in
        record {
          boolean = subst (λ z. HasType P class vars z boolean_type) q.1
              (subst (HasType P class vars g.0.node) (is_boolean_of g.0.ty q.0) (expr_holds t P agrees class vars scope seen e g.0 g.1));
          shape = subst (IsShape (tree_height.height e) (size e) (is_true_tree e)) q.1 (expr_shape t class scope e g.0 g.1);
        }

    -- a value for a place of this type
    record IsValue (e : ExprTree) (ty : CoreType) (v : Expr) : Type 0 where
      fit : HasFit P class vars v ty
      shape : IsShape (tree_height.height e) (size e) (is_true_tree e) v

    value_fine : (e : ExprTree) (at : ℕ) (ty : CoreType) (d : TypedData) (v : Expr) → elaborated t class scope e ≡ Some d → fit_rule t at ty d ≡ Ok v → IsValue e ty v
    value_fine e at ty d v is h =
        let q = demand_of (fits (is_of_kind t) d.ty (ValueT ty)) (NoRule at) d.node v h in
        record {
          fit = subst (λ z. HasFit P class vars z ty) q.1 (d.ty, expr_holds t P agrees class vars scope seen e d is, fits_more (is_of_kind t) (is_kind_of P) (wider t P agrees class vars) d.ty (ValueT ty) q.0);
          shape = subst (IsShape (tree_height.height e) (size e) (is_true_tree e)) q.1 (expr_shape t class scope e d is);
        }

    local_fine : (before : ℕ) (fin : Bool) (ty : TypeName) (n : Name) (e : ExprTree) (at : ℕ) (s : Stmt)
        → stmt_core t class returns first scope before (tree.LocalS fin ty n e at) ≡ Some s → IsFine scope vars before (tree.LocalS fin ty n e at) s
    local_fine before fin ty n e at s h =
        let few = if_taken (nat_lt before most_locals) (ruled (local_rule t (first + before) fin n.at) (both (gain (type_rule t ty)) (elaborated t class scope e))) s h in
        let g = given_of (local_rule t (first + before) fin n.at) (both (gain (type_rule t ty)) (elaborated t class scope e)) s few.1 in
        let p = both_of (gain (type_rule t ty)) (elaborated t class scope e) g.0 g.1 in
        let v = then_of (fit_rule t n.at g.0.0 g.0.1) (λ v. Ok (core.LocalS (first + before) fin g.0.0 v)) s g.2 in
        let k = value_fine e n.at g.0.0 g.0.1 v.0 p.1 v.1 in
        let new : Variable = record { slot = first + before; is_final = fin; ty = g.0.0 } in
        let binding : Binding = record { name = n.text; variable = new } in
        let more : Seen (scope ++ binding ∷ []) (new ∷ vars) = seen_more scope vars binding seen (omega (arith, first_above)) in
        let scope_is : scope_after t class returns first scope before (tree.LocalS fin ty n e at) ≡ scope ++ binding ∷ [] =
        ap (declared scope (first + before) before fin n) p.0 ∙ ap (λ b. if b then scope ++ binding ∷ [] else scope) few.0 in
        subst (IsFine scope vars before (tree.LocalS fin ty n e at)) (same_ok (core.LocalS (first + before) fin g.0.0 v.0) s v.2) (record {
          is_typed = (refl, type_is ty g.0.0 (gain_of (type_rule t ty) g.0.0 p.0), k.fit);
          declares = refl;
          ends = refl;
          height = omega (arith, k.shape.height);
          nodes = omega (arith, k.shape.nodes);
          low = λ _. below_limit before few.0;
          later = subst (λ z. Seen z (new ∷ vars)) (sym scope_is) more;
        })

    set_var_fine : (before : ℕ) (n : Name) (e : ExprTree) (at : ℕ) (s : Stmt)
        → stmt_core t class returns first scope before (tree.SetVarS n e at) ≡ Some s → IsFine scope vars before (tree.SetVarS n e at) s
    set_var_fine before n e at s h =
        let g = given_of (set_rule t at) (both (gain (target_rule scope n)) (elaborated t class scope e)) s h in
        let p = both_of (gain (target_rule scope n)) (elaborated t class scope e) g.0 g.1 in
        let target = then_of (ok_or (variable scope n.text) (UnknownName n.at)) (λ v. demand (not v.is_final) (FinalAssigned n.at) v) g.0.0
        (gain_of (target_rule scope n) g.0.0 p.0) in
        let q = demand_of (not target.0.is_final) (FinalAssigned n.at) target.0 g.0.0 target.2 in
        let is_there : Contains vars g.0.0 =
        subst (Contains vars) q.1 (seen.seen n.text target.0 (ok_or_of (variable scope n.text) (UnknownName n.at) target.0 target.1)) in
        let open_to : g.0.0.is_final ≡ false = subst (λ z. z.is_final ≡ false) q.1 (not-true target.0.is_final q.0) in
        let v = then_of (fit_rule t at g.0.0.ty g.0.1) (λ v. Ok (core.SetVarS g.0.0.slot v)) s g.2 in
        let k = value_fine e at g.0.0.ty g.0.1 v.0 p.1 v.1 in
        subst (IsFine scope vars before (tree.SetVarS n e at)) (same_ok (core.SetVarS g.0.0.slot v.0) s v.2) (record {
          is_typed = (g.0.0.ty, subst (λ z. Contains vars (record { slot = g.0.0.slot; is_final = z; ty = g.0.0.ty })) open_to is_there, k.fit);
          declares = refl;
          ends = refl;
          height = omega (arith, k.shape.height);
          nodes = omega (arith, k.shape.nodes);
          low = λ b. omega (arith, b);
          later = seen;
        })

    set_field_fine : (before : ℕ) (e : ExprTree) (n : Name) (value : ExprTree) (at : ℕ) (s : Stmt)
        → stmt_core t class returns first scope before (tree.SetFieldS e n value at) ≡ Some s → IsFine scope vars before (tree.SetFieldS e n value at) s
    set_field_fine before e n value at s h =
        let receiver = ruled (field_target t n) (elaborated t class scope e) in
        let g = given_of (put_rule t at) (both receiver (elaborated t class scope value)) s h in
        let p = both_of receiver (elaborated t class scope value) g.0 g.1 in
        let a = given_of (field_target t n) (elaborated t class scope e) g.0.0 p.0 in
        let f = then_of (field_rule t n a.0.ty) (λ f. demand (not f.1.is_final) (FinalAssigned n.at) (a.0.node, f)) g.0.0 a.2 in
        let q = demand_of (not f.0.1.is_final) (FinalAssigned n.at) (a.0.node, f.0) g.0.0 f.2 in
        let known = field_of t P agrees n a.0.ty f.0 f.1 in
        let is = known.2 in
        let v = then_of (fit_rule t at g.0.0.1.1.ty g.0.1) (λ v. Ok (core.SetFieldS g.0.0.0 g.0.0.1.0 v)) s g.2 in
        let k = value_fine value at g.0.0.1.1.ty g.0.1 v.0 p.1 v.1 in
        let shape = expr_shape t class scope e a.0 a.1 in
        let typed_field : (field : core.Field) × (slice_get P.fields f.0.0 ≡ Some field) × (field.is_final ≡ false) × IsOf P class vars a.0.node field.class × (field.ty ≡ f.0.1.ty) = (
          is.field,
          is.is,
          is.finality ∙ not-true f.0.1.is_final q.0,
          (known.0, subst (HasType P class vars a.0.node) known.1 (expr_holds t P agrees class vars scope seen e a.0 a.1), is.of_class),
          is.ty,
        ) in
        let target_typed : (field : core.Field) × (slice_get P.fields g.0.0.1.0 ≡ Some field) × (field.is_final ≡ false) × IsOf P class vars g.0.0.0 field.class × (field.ty ≡ g.0.0.1.1.ty) =
        subst (λ z. (field : core.Field) × (slice_get P.fields z.1.0 ≡ Some field) × (field.is_final ≡ false) × IsOf P class vars z.0 field.class × (field.ty ≡ z.1.1.ty)) q.1 typed_field in
        let target_shape : IsShape (tree_height.height e) (size e) (is_true_tree e) g.0.0.0 =
        subst (λ z. IsShape (tree_height.height e) (size e) (is_true_tree e) z.0) q.1 shape in
        subst (IsFine scope vars before (tree.SetFieldS e n value at)) (same_ok (core.SetFieldS g.0.0.0 g.0.0.1.0 v.0) s v.2) (record {
          is_typed = (target_typed.0, target_typed.1, target_typed.2, target_typed.3, subst (HasFit P class vars v.0) (sym target_typed.4) k.fit);
          declares = refl;
          ends = refl;
          height = omega (arith, max_mono (height_of g.0.0.0) (height_of v.0) (tree_height.height e) (tree_height.height value) target_shape.height k.shape.height);
          nodes = omega (arith, target_shape.nodes, k.shape.nodes);
          low = λ b. omega (arith, b);
          later = seen;
        })

    do_fine : (before : ℕ) (e : ExprTree) (at : ℕ) (s : Stmt)
        → stmt_core t class returns first scope before (tree.DoS e at) ≡ Some s → IsFine scope vars before (tree.DoS e at) s
    do_fine before e at s h =
        let g = given_of (do_rule at) (elaborated t class scope e) s h in
        let q = demand_of (is_call_or_new g.0.node) (NoRule at) (core.DoS g.0.node (gives_value g.0.ty)) s g.2 in
        let shape = expr_shape t class scope e g.0 g.1 in
        subst (IsFine scope vars before (tree.DoS e at)) q.1 (record {
          is_typed = (g.0.ty, expr_holds t P agrees class vars scope seen e g.0 g.1, q.0, refl);
          declares = refl;
          ends = refl;
          height = omega (arith, shape.height);
          nodes = omega (arith, shape.nodes);
          low = λ b. omega (arith, b);
          later = seen;
        })

    return_fine : (before : ℕ) (at : ℕ) (s : Stmt)
        → stmt_core t class returns first scope before (tree.ReturnS None at) ≡ Some s → IsFine scope vars before (tree.ReturnS None at) s
    return_fine before at s h =
        let q = demand_of (is_none returns) (NoRule at) (core.ReturnS None) s (gain_of (return_rule at returns) s h) in
        subst (IsFine scope vars before (tree.ReturnS None at)) q.1 (record {
          is_typed = subst (λ z. typing.IsResult P class z vars None z) (sym (none_of returns q.0)) tt;
          declares = refl;
          ends = refl;
          height = omega arith;
          nodes = omega arith;
          low = λ b. omega (arith, b);
          later = seen;
        })

    return_value_fine : (before : ℕ) (e : ExprTree) (at : ℕ) (s : Stmt)
        → stmt_core t class returns first scope before (tree.ReturnS (Some e) at) ≡ Some s → IsFine scope vars before (tree.ReturnS (Some e) at) s
    return_value_fine before e at s h =
        let g = given_of (value_rule t at returns) (elaborated t class scope e) s h in
        let ty = then_of (ok_or returns (NoRule at)) (λ ty. then_rule (fit_rule t at ty g.0) (λ v. Ok (core.ReturnS (Some v)))) s g.2 in
        let v = then_of (fit_rule t at ty.0 g.0) (λ v. Ok (core.ReturnS (Some v))) s ty.2 in
        let k = value_fine e at ty.0 g.0 v.0 g.1 v.1 in
        subst (IsFine scope vars before (tree.ReturnS (Some e) at)) (same_ok (core.ReturnS (Some v.0)) s v.2) (record {
          is_typed = subst (λ z. typing.IsResult P class z vars (Some v.0) z) (sym (ok_or_of returns (NoRule at) ty.0 ty.1)) k.fit;
          declares = refl;
          ends = refl;
          height = omega (arith, k.shape.height);
          nodes = omega (arith, k.shape.nodes);
          low = λ b. omega (arith, b);
          later = seen;
        })

    print_fine : (before : ℕ) (e : ExprTree) (at : ℕ) (s : Stmt)
        → stmt_core t class returns first scope before (tree.PrintS e at) ≡ Some s → IsFine scope vars before (tree.PrintS e at) s
    print_fine before e at s h =
        let g = given_of (print_rule at) (elaborated t class scope e) s h in
        let q = demand_of (is_int g.0.ty) (NoRule at) (core.PrintS g.0.node) s g.2 in
        let shape = expr_shape t class scope e g.0 g.1 in
        subst (IsFine scope vars before (tree.PrintS e at)) q.1 (record {
          is_typed = subst (HasType P class vars g.0.node) (is_int_of g.0.ty q.0) (expr_holds t P agrees class vars scope seen e g.0 g.1);
          declares = refl;
          ends = refl;
          height = omega (arith, shape.height);
          nodes = omega (arith, shape.nodes);
          low = λ b. omega (arith, b);
          later = seen;
        })

    says_of : (o : Option ClassData) → counts_runnable o ≡ true → (d : ClassData) × (o ≡ Some d) × (d.runnable ≡ true)
    says_of (Some d) h = (d, refl, h)
    says_of None h = absurd (let e : false ≡ true = h in cc)

    runnable_of : (o : Option ℕ) → is_runnable t o ≡ true → (c : ℕ) × (o ≡ Some c) × IsRunnable P c
    runnable_of (Some c) h = let d = says_of (slice_get t.classes c) h in (c, refl, agrees.runs c d.0 d.1 d.2)
    runnable_of None h = absurd (let e : false ≡ true = h in cc)

    start_fine : (before : ℕ) (e : ExprTree) (at : ℕ) (s : Stmt)
        → stmt_core t class returns first scope before (tree.StartS e at) ≡ Some s → IsFine scope vars before (tree.StartS e at) s
    start_fine before e at s h =
        let g = given_of (start_rule t at) (elaborated t class scope e) s h in
        let q = demand_of (is_runnable t (receiver_class g.0.ty)) (NoRule at) (core.StartS g.0.node) s g.2 in
        let c = runnable_of (receiver_class g.0.ty) q.0 in
        let shape = expr_shape t class scope e g.0 g.1 in
        subst (IsFine scope vars before (tree.StartS e at)) q.1 (record {
          is_typed = (c.0, subst (HasType P class vars g.0.node) (receiver_of g.0.ty c.0 c.1) (expr_holds t P agrees class vars scope seen e g.0 g.1), c.2);
          declares = refl;
          ends = refl;
          height = omega (arith, shape.height);
          nodes = omega (arith, shape.nodes);
          low = λ b. omega (arith, b);
          later = seen;
        })

  mutual
    -- a statement that has a core node is typed
    pub stmt_fine : (scope : Scope) (vars : List Variable) → Seen scope vars → (before : ℕ) (s : StmtTree) (n : Stmt)
        → stmt_core t class returns first scope before s ≡ Some n → IsFine scope vars before s n
    stmt_fine scope vars seen before (tree.EmptyS at) n h =
        subst (IsFine scope vars before (tree.EmptyS at)) (same_Some core.EmptyS n h)
        (record { is_typed = tt; declares = refl; ends = refl; height = omega arith; nodes = omega arith; low = λ b. omega (arith, b); later = seen })
    stmt_fine scope vars seen before (tree.BlockS ss at) n h =
        let b = map_parts core.BlockS (block_core t class returns first scope before ss) n h in
        let k = block_fine scope vars seen before ss b.0 b.1 in
        subst (IsFine scope vars before (tree.BlockS ss at)) b.2 (record {
          is_typed = k.are_typed;
          declares = k.declare;
          ends = k.ends;
          height = omega (arith, k.height);
          nodes = omega (arith, k.nodes);
          low = k.low;
          later = seen;
        })
    stmt_fine scope vars seen before (tree.LocalS fin ty name e at) n h = local_fine scope vars seen before fin ty name e at n h
    stmt_fine scope vars seen before (tree.SetVarS name e at) n h = set_var_fine scope vars seen before name e at n h
    stmt_fine scope vars seen before (tree.SetFieldS e name value at) n h = set_field_fine scope vars seen before e name value at n h
    stmt_fine scope vars seen before (tree.DoS e at) n h = do_fine scope vars seen before e at n h
    stmt_fine scope vars seen before (tree.IfS c s at) n h =
        let condition = ruled (condition_rule at) (elaborated t class scope c) in
        let one = stmt_core t class returns first scope before s in
        let g = map_parts (λ p. core.IfS p.0 p.1 core.EmptyS) (both condition one) n h in
        let p = both_of condition one g.0 g.1 in
        let a = condition_fine scope vars seen c at g.0.0 p.0 in
        let k = stmt_fine scope vars seen before s g.0.1 p.1 in
        subst (IsFine scope vars before (tree.IfS c s at)) g.2 (record {
          is_typed = (a.boolean, k.is_typed, tt);
          declares = omega (arith, k.declares);
          ends = or-true (typing.can_complete g.0.1);
          height = omega (arith, max_if (height_of g.0.0) (sizes.stmt_height g.0.1) (tree_height.height c) (tree_height.stmt_height s) a.shape.height k.height (at_least_one s));
          nodes = omega (arith, a.shape.nodes, k.nodes);
          low = k.low;
          later = seen;
        })
    stmt_fine scope vars seen before (IfElseS c s u at) n h =
        let condition = ruled (condition_rule at) (elaborated t class scope c) in
        let one = stmt_core t class returns first scope before s in
        let other = stmt_core t class returns first scope (before + locals_in s) u in
        let g = map_parts if_node (both condition (both one other)) n h in
        let p = both_of condition (both one other) g.0 g.1 in
        let q = both_of one other g.0.1 p.1 in
        let a = condition_fine scope vars seen c at g.0.0 p.0 in
        let k = stmt_fine scope vars seen before s g.0.1.0 q.0 in
        let l = stmt_fine scope vars seen (before + locals_in s) u g.0.1.1 q.1 in
        let next : first + (before + locals_in s) ≡ (first + before) + declared_in g.0.1.0 = omega (arith, k.declares) in
        subst (IsFine scope vars before (IfElseS c s u at)) g.2 (record {
          is_typed = (a.boolean, k.is_typed, subst (IsTypedStmt P class returns g.0.1.1 vars) next l.is_typed);
          declares = ap₂ (λ x y. x + y) k.declares l.declares;
          ends = ap₂ (λ x y. x || y) k.ends l.ends;
          height = omega (
            arith,
            max_mono (height_of g.0.0) (max (sizes.stmt_height g.0.1.0) (sizes.stmt_height g.0.1.1)) (tree_height.height c) (max (tree_height.stmt_height s) (tree_height.stmt_height u)) a.shape.height
                (max_mono (sizes.stmt_height g.0.1.0) (sizes.stmt_height g.0.1.1) (tree_height.stmt_height s) (tree_height.stmt_height u) k.height l.height),
          );
          nodes = omega (arith, a.shape.nodes, k.nodes, l.nodes);
          low = λ b. omega (arith, l.low (k.low b));
          later = seen;
        })
    stmt_fine scope vars seen before (tree.WhileS c s at) n h =
        let condition = ruled (condition_rule at) (elaborated t class scope c) in
        let one = stmt_core t class returns first scope before s in
        let g = map_parts (λ p. core.WhileS p.0 p.1) (both condition one) n h in
        let p = both_of condition one g.0 g.1 in
        let a = condition_fine scope vars seen c at g.0.0 p.0 in
        let k = stmt_fine scope vars seen before s g.0.1 p.1 in
        subst (IsFine scope vars before (tree.WhileS c s at)) g.2 (record {
          is_typed = (a.boolean, k.is_typed);
          declares = k.declares;
          ends = ap not a.shape.literal;
          height = omega (arith, max_mono (height_of g.0.0) (sizes.stmt_height g.0.1) (tree_height.height c) (tree_height.stmt_height s) a.shape.height k.height);
          nodes = omega (arith, a.shape.nodes, k.nodes);
          low = k.low;
          later = seen;
        })
    stmt_fine scope vars seen before (tree.SyncS l ss at) n h =
        let lock = gain (lock_rule t class scope l) in
        let body = block_core t class returns first scope before ss in
        let g = map_parts (λ p. core.SyncS p.0 (core.BlockS p.1)) (both lock body) n h in
        let p = both_of lock body g.0 g.1 in
        let k = block_fine scope vars seen before ss g.0.1 p.1 in
        subst (IsFine scope vars before (tree.SyncS l ss at)) g.2 (record {
          is_typed = (lock_holds t P agrees class vars scope seen l g.0.0 (gain_of (lock_rule t class scope l) g.0.0 p.0), k.are_typed);
          declares = k.declare;
          ends = k.ends;
          height = omega (arith, k.height);
          nodes = omega (arith, k.nodes);
          low = k.low;
          later = seen;
        })
    stmt_fine scope vars seen before (tree.ReturnS None at) n h = return_fine scope vars seen before at n h
    stmt_fine scope vars seen before (tree.ReturnS (Some e) at) n h = return_value_fine scope vars seen before e at n h
    stmt_fine scope vars seen before (tree.PrintS e at) n h = print_fine scope vars seen before e at n h
    stmt_fine scope vars seen before (tree.StartS e at) n h = start_fine scope vars seen before e at n h

    pub block_fine : (scope : Scope) (vars : List Variable) → Seen scope vars → (before : ℕ) (ss : StmtTrees) (ns : Stmts)
        → block_core t class returns first scope before ss ≡ Some ns → AreFine vars before ss ns
    block_fine scope vars seen before tree.no_stmts ns h =
        subst (AreFine vars before tree.no_stmts) (same_Some core.no_stmts ns h)
        (record { are_typed = tt; declare = refl; ends = refl; height = omega arith; nodes = omega arith; low = λ b. omega (arith, b) })
    block_fine scope vars seen before (more_stmts s ss) ns h =
        let one = stmt_core t class returns first scope before s in
        let rest = block_core t class returns first (scope_after t class returns first scope before s) (before + locals_in s) ss in
        let g = map_parts (λ p. core.and_stmt p.0 p.1) (both one rest) ns h in
        let p = both_of one rest g.0 g.1 in
        let k = stmt_fine scope vars seen before s g.0.0 p.0 in
        let l = block_fine (scope_after t class returns first scope before s) (typing.variables_after g.0.0 vars) k.later (before + locals_in s) ss g.0.1 p.1 in
        let next : first + (before + locals_in s) ≡ (first + before) + declared_in g.0.0 = omega (arith, k.declares) in
        subst (AreFine vars before (more_stmts s ss)) g.2 (record {
          are_typed = (k.is_typed, subst (AreTypedStmts P class returns g.0.1 (typing.variables_after g.0.0 vars)) next l.are_typed);
          declare = ap₂ (λ x y. x + y) k.declares l.declare;
          ends = ap₂ (λ x y. x && y) k.ends l.ends;
          height = max_mono (sizes.stmt_height g.0.0) (sizes.highest_stmt g.0.1) (tree_height.stmt_height s) (tree_height.stmt_heights ss) k.height l.height;
          nodes = omega (arith, k.nodes, l.nodes);
          low = λ b. omega (arith, l.low (k.low b));
        })
