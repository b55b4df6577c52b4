-- The nodes of a statement in step with what they were made of.
use Rattle.std.proofs.Common.{◌≡◌, ℕ, ◌+◌, Bool, true, false, not, nat_lt, List, [], ◌∷◌, ◌++◌, Option, Some, None, Ok, refl, sym, ap, subst, ◌∙◌, is_none}
use Rattle.std.specs.Prelude.{ok_or, if◌then◌else◌}
use Rattle.std.proofs.lemmas.Option.{same_Some}
use Rattle.base.proofs.Options.{map_parts}
use Rattle.syntax.specs.declared.tree.Name.{Name}
use Rattle.syntax.specs.Trees.{ExprTree, StmtTree, StmtTrees, MethodTree, no_stmts, more_stmts}
use Rattle.syntax.specs.Trees as tree
use Rattle.core_program.specs.declared.types.CoreType.{CoreType}
use Rattle.core_program.specs.Core as core
use Rattle.core_program.specs.Core.{Expr, Stmt, Stmts, BlockS}
use Rattle.core_program.specs.Types.{ValueT, fits}
use Rattle.core_program.specs.Typed.{is_call_or_new, gives_value, most_locals}
use Rattle.effects.specs.Parts.{Part, StmtP}
use Rattle.explain.specs.PartEffects.{expr_parts, stmt_parts, block_parts}
use Rattle.classes.specs.Table.{TableData, is_of_kind}
use Rattle.classes.specs.Seen.{FieldData}
use Rattle.typing.specs.declared.fault.TypeFault.TheVariants.{NoRule, FinalAssigned}
use Rattle.typing.specs.Rulings.{gain, ruled, both, demand, then_rule}
use Rattle.typing.specs.Scopes.{Scope}
use Rattle.typing.specs.Rules.{TypedData, is_int, is_boolean, receiver_class, type_rule, field_rule, fit_rule}
use Rattle.typing.specs.Locks.{lock_rule}
use Rattle.typing.specs.Exprs.{elaborated}
use Rattle.typing.specs.Completion.{locals_in}
use Rattle.typing.specs.Stmts.{local_rule, target_rule, set_rule, field_target, put_rule, do_rule, condition_rule, return_rule, value_rule, print_rule, is_runnable, start_rule, if_node, scope_after, stmt_core, block_core}
use Rattle.typing.proofs.Inversions.{same_ok, gain_of, given_of, both_of, demand_of, then_of}
use Rattle.places.specs.Slots.{local_names, block_locals}
use Rattle.places.specs.Sources.{Source, FromStmt, InSync, NoElse, FromBody, expr_sources, stmt_sources, block_sources, method_sources}
use Rattle.places.specs.Making.{stmt, sync, none, body, AreMade, end, more}
use Rattle.places.proofs.AtNumbers.{made_both}
use Rattle.places.proofs.InStep.{expr_made}
use Rattle.places.proofs.SlotsNamed.{GoesOn, declared_within, names_count}

where_true : {A : Type 0} (b : Bool) (o : Option A) (x : A) → (if b then o else None) ≡ Some x → o ≡ Some x
where_true true o x h = h
where_true false o x h = absurd cc

module _ (t : TableData) (class : ℕ) (returns : Option CoreType) (first : ℕ) (Within : Scope → Type 0) (Coming : ℕ → List (List ℕ) → Type 0) (goes : GoesOn first Within Coming) where
  abbrev Made : List Part → List Source → Type 0
  Made xs us = AreMade t class returns first Within xs us

  -- what is in scope after a statement
  after_within : (scope : Scope) → Within scope → (before : ℕ) (u : StmtTree) → Coming before (local_names u) → Within (scope_after t class returns first scope before u)
  after_within scope within before (tree.EmptyS at) coming = within
  after_within scope within before (tree.BlockS ss at) coming = within
  after_within scope within before (tree.LocalS fin ty n e at) coming = declared_within first Within Coming goes scope within before fin n coming (gain (type_rule t ty))
  after_within scope within before (tree.SetVarS n e at) coming = within
  after_within scope within before (tree.SetFieldS e n value at) coming = within
  after_within scope within before (tree.DoS e at) coming = within
  after_within scope within before (tree.IfS c u at) coming = within
  after_within scope within before (tree.IfElseS c u v at) coming = within
  after_within scope within before (tree.WhileS c u at) coming = within
  after_within scope within before (tree.SyncS l us at) coming = within
  after_within scope within before (tree.ReturnS value at) coming = within
  after_within scope within before (tree.PrintS e at) coming = within
  after_within scope within before (tree.StartS e at) coming = within

  -- a statement above nodes that are in step
  over : (scope : Scope) → Within scope → (before : ℕ) (u : StmtTree) (make s : Stmt) (xs : List Part) (us : List Source) → make ≡ s → stmt_parts make ≡ (StmtP make ∷ xs)
      → stmt_core t class returns first scope before u ≡ Some s → Made xs us → Made (stmt_parts s) (FromStmt u ∷ us)
  over scope within before u make s xs us same parts h own =
      subst (λ z. Made (stmt_parts z) (FromStmt u ∷ us)) same
      (subst (λ zs. Made zs (FromStmt u ∷ us)) (sym parts) (more (StmtP make) (FromStmt u) xs us (stmt scope before u make within (h ∙ ap Some (sym same))) own))

  -- a value that fits its place
  fitted : (scope : Scope) → Within scope → (e : ExprTree) (d : TypedData) (at : ℕ) (ty : CoreType) (v : Expr) → elaborated t class scope e ≡ Some d → fit_rule t at ty d ≡ Ok v
      → Made (expr_parts v) (expr_sources e)
  fitted scope within e d at ty v h is =
      subst (λ z. Made (expr_parts z) (expr_sources e)) (demand_of (fits (is_of_kind t) d.ty (ValueT ty)) (NoRule at) d.node v is).1
      (expr_made t class returns first Within scope within e d h)

  -- a condition
  condition_made : (scope : Scope) → Within scope → (c : ExprTree) (at : ℕ) (v : Expr) → ruled (condition_rule at) (elaborated t class scope c) ≡ Some v
      → Made (expr_parts v) (expr_sources c)
  condition_made scope within c at v h =
      let g = given_of (condition_rule at) (elaborated t class scope c) v h in
      subst (λ z. Made (expr_parts z) (expr_sources c)) (demand_of (is_boolean g.0.ty) (NoRule at) g.0.node v g.2).1
      (expr_made t class returns first Within scope within c g.0 g.1)

  -- the receiver of an assigned field
  target_made : (scope : Scope) → Within scope → (e : ExprTree) (n : Name) (x : Expr × (ℕ × FieldData)) → ruled (field_target t n) (elaborated t class scope e) ≡ Some x
      → Made (expr_parts x.0) (expr_sources e)
  target_made scope within e n x h =
      let g = given_of (field_target t n) (elaborated t class scope e) x h in
      let make : ℕ × FieldData → Expr × (ℕ × FieldData) = λ f. (g.0.node, f) in
      let f = then_of (field_rule t n g.0.ty) (λ f. demand (not f.1.is_final) (FinalAssigned n.at) (make f)) x g.2 in
      let same = (demand_of (not f.0.1.is_final) (FinalAssigned n.at) (make f.0) x f.2).1 in
      subst (λ z. Made (expr_parts z.0) (expr_sources e)) same (expr_made t class returns first Within scope within e g.0 g.1)

  mutual
    pub stmt_made : (scope : Scope) → Within scope → (before : ℕ) (u : StmtTree) (s : Stmt) → stmt_core t class returns first scope before u ≡ Some s → Coming before (local_names u)
        → Made (stmt_parts s) (stmt_sources u)
    stmt_made scope within before (tree.EmptyS at) s h coming = over scope within before (tree.EmptyS at) core.EmptyS s [] [] (same_Some _ s h) refl h end
    stmt_made scope within before (tree.BlockS ss at) s h coming =
        let o = map_parts BlockS (block_core t class returns first scope before ss) s h in
        over scope within before (tree.BlockS ss at) (BlockS o.0) s (block_parts o.0) (block_sources ss) o.2 refl h (block_made scope within before ss o.0 o.1 coming)
    stmt_made scope within before (tree.LocalS fin ty n e at) s h coming =
        let g = given_of (local_rule t (first + before) fin n.at) (both (gain (type_rule t ty)) (elaborated t class scope e)) s (where_true (nat_lt before most_locals) _ s h) in
        let p = both_of (gain (type_rule t ty)) (elaborated t class scope e) g.0 g.1 in
        let make : Expr → Stmt = λ v. core.LocalS (first + before) fin g.0.0 v in
        let o = then_of (fit_rule t n.at g.0.0 g.0.1) (λ v. Ok (make v)) s g.2 in
        over scope within before (tree.LocalS fin ty n e at) (make o.0) s (expr_parts o.0) (expr_sources e) (same_ok (make o.0) s o.2) refl h
        (fitted scope within e g.0.1 n.at g.0.0 o.0 p.1 o.1)
    stmt_made scope within before (tree.SetVarS n e at) s h coming =
        let g = given_of (set_rule t at) (both (gain (target_rule scope n)) (elaborated t class scope e)) s h in
        let p = both_of (gain (target_rule scope n)) (elaborated t class scope e) g.0 g.1 in
        let make : Expr → Stmt = λ v. core.SetVarS g.0.0.slot v in
        let o = then_of (fit_rule t at g.0.0.ty g.0.1) (λ v. Ok (make v)) s g.2 in
        over scope within before (tree.SetVarS n e at) (make o.0) s (expr_parts o.0) (expr_sources e) (same_ok (make o.0) s o.2) refl h
        (fitted scope within e g.0.1 at g.0.0.ty o.0 p.1 o.1)
    stmt_made scope within before (tree.SetFieldS e n value at) s h coming =
        let g = given_of (put_rule t at) (both (ruled (field_target t n) (elaborated t class scope e)) (elaborated t class scope value)) s h in
        let p = both_of (ruled (field_target t n) (elaborated t class scope e)) (elaborated t class scope value) g.0 g.1 in
        let make : Expr → Stmt = λ v. core.SetFieldS g.0.0.0 g.0.0.1.0 v in
        let o = then_of (fit_rule t at g.0.0.1.1.ty g.0.1) (λ v. Ok (make v)) s g.2 in
        over scope within before (tree.SetFieldS e n value at) (make o.0) s (expr_parts g.0.0.0 ++ expr_parts o.0) (expr_sources e ++ expr_sources value)
        (same_ok (make o.0) s o.2) refl h
        (made_both t class returns first Within (target_made scope within e n g.0.0 p.0) (fitted scope within value g.0.1 at g.0.0.1.1.ty o.0 p.1 o.1))
    stmt_made scope within before (tree.DoS e at) s h coming =
        let g = given_of (do_rule at) (elaborated t class scope e) s h in
        let make : Stmt = core.DoS g.0.node (gives_value g.0.ty) in
        over scope within before (tree.DoS e at) make s (expr_parts g.0.node) (expr_sources e) (demand_of (is_call_or_new g.0.node) (NoRule at) make s g.2).1 refl h
        (expr_made t class returns first Within scope within e g.0 g.1)
    stmt_made scope within before (tree.IfS c u at) s h coming =
        let o = map_parts (λ p. core.IfS p.0 p.1 core.EmptyS) (both (ruled (condition_rule at) (elaborated t class scope c)) (stmt_core t class returns first scope before u)) s h in
        let p = both_of (ruled (condition_rule at) (elaborated t class scope c)) (stmt_core t class returns first scope before u) o.0 o.1 in
        over scope within before (tree.IfS c u at) (core.IfS o.0.0 o.0.1 core.EmptyS) s (expr_parts o.0.0 ++ (stmt_parts o.0.1 ++ (StmtP core.EmptyS ∷ [])))
        (expr_sources c ++ (stmt_sources u ++ (NoElse (tree.IfS c u at) ∷ []))) o.2 refl h
        (made_both t class returns first Within (condition_made scope within c at o.0.0 p.0)
        (made_both t class returns first Within (stmt_made scope within before u o.0.1 p.1 coming) (more (StmtP core.EmptyS) (NoElse (tree.IfS c u at)) [] [] (none c u at) end)))
    stmt_made scope within before (tree.IfElseS c u v at) s h coming =
        let o = map_parts if_node (both (ruled (condition_rule at) (elaborated t class scope c)) (both (stmt_core t class returns first scope before u) (stmt_core t class returns first scope (before + locals_in u) v))) s h in
        let p = both_of (ruled (condition_rule at) (elaborated t class scope c)) (both (stmt_core t class returns first scope before u) (stmt_core t class returns first scope (before + locals_in u) v)) o.0 o.1 in
        let q = both_of (stmt_core t class returns first scope before u) (stmt_core t class returns first scope (before + locals_in u) v) o.0.1 p.1 in
        let come = goes.parts before (local_names u) (local_names v) coming in
        let next = subst (λ k. Coming k (local_names v)) (ap (λ k. before + k) (names_count u)) come.1 in
        over scope within before (tree.IfElseS c u v at) (core.IfS o.0.0 o.0.1.0 o.0.1.1) s (expr_parts o.0.0 ++ (stmt_parts o.0.1.0 ++ stmt_parts o.0.1.1))
        (expr_sources c ++ (stmt_sources u ++ stmt_sources v)) o.2 refl h
        (made_both t class returns first Within (condition_made scope within c at o.0.0 p.0)
        (made_both t class returns first Within (stmt_made scope within before u o.0.1.0 q.0 come.0) (stmt_made scope within (before + locals_in u) v o.0.1.1 q.1 next)))
    stmt_made scope within before (tree.WhileS c u at) s h coming =
        let o = map_parts (λ p. core.WhileS p.0 p.1) (both (ruled (condition_rule at) (elaborated t class scope c)) (stmt_core t class returns first scope before u)) s h in
        let p = both_of (ruled (condition_rule at) (elaborated t class scope c)) (stmt_core t class returns first scope before u) o.0 o.1 in
        over scope within before (tree.WhileS c u at) (core.WhileS o.0.0 o.0.1) s (expr_parts o.0.0 ++ stmt_parts o.0.1) (expr_sources c ++ stmt_sources u) o.2 refl h
        (made_both t class returns first Within (condition_made scope within c at o.0.0 p.0) (stmt_made scope within before u o.0.1 p.1 coming))
    stmt_made scope within before (tree.SyncS l us at) s h coming =
        let o = map_parts (λ p. core.SyncS p.0 (BlockS p.1)) (both (gain (lock_rule t class scope l)) (block_core t class returns first scope before us)) s h in
        let p = both_of (gain (lock_rule t class scope l)) (block_core t class returns first scope before us) o.0 o.1 in
        over scope within before (tree.SyncS l us at) (core.SyncS o.0.0 (BlockS o.0.1)) s (StmtP (BlockS o.0.1) ∷ block_parts o.0.1)
        (InSync (tree.SyncS l us at) ∷ block_sources us) o.2 refl h
        (more (StmtP (BlockS o.0.1)) (InSync (tree.SyncS l us at)) (block_parts o.0.1) (block_sources us) (sync scope before l us at o.0.1 within p.1) (block_made scope within before us o.0.1 p.1 coming))
    stmt_made scope within before (tree.ReturnS None at) s h coming =
        over scope within before (tree.ReturnS None at) (core.ReturnS None) s [] []
        (demand_of (is_none returns) (NoRule at) (core.ReturnS None) s (gain_of (return_rule at returns) s h)).1 refl h end
    stmt_made scope within before (tree.ReturnS (Some e) at) s h coming =
        let g = given_of (value_rule t at returns) (elaborated t class scope e) s h in
        let make : Expr → Stmt = λ v. core.ReturnS (Some v) in
        let o = then_of (ok_or returns (NoRule at)) (λ ty. then_rule (fit_rule t at ty g.0) (λ v. Ok (make v))) s g.2 in
        let v = then_of (fit_rule t at o.0 g.0) (λ v. Ok (make v)) s o.2 in
        over scope within before (tree.ReturnS (Some e) at) (make v.0) s (expr_parts v.0) (expr_sources e) (same_ok (make v.0) s v.2) refl h
        (fitted scope within e g.0 at o.0 v.0 g.1 v.1)
    stmt_made scope within before (tree.PrintS e at) s h coming =
        let g = given_of (print_rule at) (elaborated t class scope e) s h in
        over scope within before (tree.PrintS e at) (core.PrintS g.0.node) s (expr_parts g.0.node) (expr_sources e)
        (demand_of (is_int g.0.ty) (NoRule at) (core.PrintS g.0.node) s g.2).1 refl h (expr_made t class returns first Within scope within e g.0 g.1)
    stmt_made scope within before (tree.StartS e at) s h coming =
        let g = given_of (start_rule t at) (elaborated t class scope e) s h in
        over scope within before (tree.StartS e at) (core.StartS g.0.node) s (expr_parts g.0.node) (expr_sources e)
        (demand_of (is_runnable t (receiver_class g.0.ty)) (NoRule at) (core.StartS g.0.node) s g.2).1 refl h (expr_made t class returns first Within scope within e g.0 g.1)

    pub block_made : (scope : Scope) → Within scope → (before : ℕ) (us : StmtTrees) (ss : Stmts) → block_core t class returns first scope before us ≡ Some ss → Coming before (block_locals us)
        → Made (block_parts ss) (block_sources us)
    block_made scope within before no_stmts ss h coming = subst (λ z. Made (block_parts z) []) (same_Some _ ss h) end
    block_made scope within before (more_stmts u us) ss h coming =
        let o = map_parts (λ p. core.and_stmt p.0 p.1) (both (stmt_core t class returns first scope before u) (block_core t class returns first (scope_after t class returns first scope before u) (before + locals_in u) us)) ss h in
        let p = both_of (stmt_core t class returns first scope before u) (block_core t class returns first (scope_after t class returns first scope before u) (before + locals_in u) us) o.0 o.1 in
        let come = goes.parts before (local_names u) (block_locals us) coming in
        let next = subst (λ k. Coming k (block_locals us)) (ap (λ k. before + k) (names_count u)) come.1 in
        subst (λ z. Made (block_parts z) (stmt_sources u ++ block_sources us)) o.2
        (made_both t class returns first Within (stmt_made scope within before u o.0.0 p.0 come.0)
        (block_made (scope_after t class returns first scope before u) (after_within scope within before u come.0) (before + locals_in u) us o.0.1 p.1 next))

  pub body_made : (scope : Scope) → Within scope → (m : MethodTree) (ss : Stmts) → block_core t class returns first scope 0 m.body ≡ Some ss → Coming 0 (block_locals m.body)
      → Made (stmt_parts (BlockS ss)) (method_sources m)
  body_made scope within m ss h coming =
      more (StmtP (BlockS ss)) (FromBody m) (block_parts ss) (block_sources m.body) (body scope m ss within h) (block_made scope within 0 m.body ss h coming)
