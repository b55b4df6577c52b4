use Rattle.std.proofs.Common.{◌≡◌, ◌+◌, ◌&&◌, true, is_some, length, map, flat_map, ap, sym, ◌∙◌, subst, IfOk, option_map}
use Rattle.classes.specs.Table.{param_of}
use Rattle.classes.specs.Views.{method_data, table_data}
use Rattle.core_program.specs.Core.{BlockS}
use Rattle.core_program.specs.Views as core
use Rattle.syntax.specs.Trees.{MethodTree}
use Rattle.syntax.specs.Views.{lock_of, member_of, stmt_of, stmts_from}
use Rattle.typing.specs.Completion.{completes_each, locals_in_each}
use Rattle.typing.specs.Gathered.{core_method_of, faults_in_method}
use Rattle.typing.specs.Stmts.{return_faults}
use Rattle.typing.specs.Locks.{lock_rule}
use Rattle.typing.specs.Entries.{IsEntryOf}
use Rattle.typing.specs.Making.{method_with, types_in}
use Rattle.typing.specs.Noted.{type_noted}
use Rattle.typing.specs.Programs.{all_there}
use Rattle.typing.specs.Rulings.{gain, loss, both}
use Rattle.typing.specs.Scopes.{scope_of_parameters}
use Rattle.typing.specs.Stmts.{block_core, block_faults}
use Rattle.typing.proofs.Bodies.{faults_told, node_made, on_ok}
use Rattle.typing.proofs.methods.method.Goals as goal

pub returns-clause-node : goal.returns-clause-node
returns-clause-node c =
    let T = table_data c.args.table.now in
    let k = c.args.class in
    let m : MethodTree = record {
      atomic = c.in-Method.atomic;
      returns = c.in-Method.returns;
      name = c.in-Method.name;
      params = c.in-Method.params.items;
      locks = map lock_of c.in-Method.requires_.items;
      body = stmts_from (map stmt_of c.in-Method.stmts.items);
      end = c.in-Method.at;
    } in
    let scope = scope_of_parameters T 1 c.as_slice-params.result.now in
    let entry = subst (λ z. IsEntryOf T k z (method_data c.args.entry.now)) (ap member_of c.in-Method.is) c.requires in
    let returns = c.args.entry.now.returns in
    let first = c.in_ok-first_local.field-0 in
    let made = c.in_ok-made.made in
    subst (λ z. IfOk c.core_method.result (λ r. option_map core.method_of r ≡ z))
    (ap (λ z. option_map (method_with k returns first c.in-Method.atomic z.at made.types.items made.body.locals) (both (option_map (λ v. v.items) made.locks) (option_map core.stmt_of made.body.node))) c.name.view_is
    ∙ ap (λ z. option_map (method_with k returns first c.in-Method.atomic c.in-Method.name.at z made.body.locals) (both (option_map (λ v. v.items) made.locks) (option_map core.stmt_of made.body.node)))
    (c.in_ok-made.ensures.types ∙ ap (types_in T) c.as_slice-params.ensures.value)
    ∙ node_made T k m scope returns first (option_map (λ v. v.items) made.locks) (option_map core.stmt_of made.body.node) made.body.locals
    (ap (scope_of_parameters T 1) c.as_slice-params.ensures.value)
    (ap (λ e. e.returns) entry)
    (c.in_ok-first_local.ensures ∙ ap (λ z. 1 + length z) c.as_slice-params.ensures.value)
    (c.in_ok-made.ensures.locks ∙ ap (λ z. all_there (map (λ l. gain (lock_rule T k scope l)) (map lock_of z))) c.as_slice-2.ensures.value)
    (c.in_ok-made.ensures.node ∙ ap (λ z. option_map BlockS (block_core T k returns first scope 0 (stmts_from (map stmt_of z)))) c.as_slice-3.ensures.value)
    (c.in_ok-made.ensures.locals ∙ ap (λ z. locals_in_each (stmts_from (map stmt_of z))) c.as_slice-3.ensures.value)
    ∙ ap (core_method_of T k) (sym (ap member_of c.in-Method.is)))
    c.core_method.ensures

pub returns-clause-fault : goal.returns-clause-fault
returns-clause-fault c =
    let T = table_data c.args.table.now in
    let k = c.args.class in
    let m : MethodTree = record {
      atomic = c.in-Method.atomic;
      returns = c.in-Method.returns;
      name = c.in-Method.name;
      params = c.in-Method.params.items;
      locks = map lock_of c.in-Method.requires_.items;
      body = stmts_from (map stmt_of c.in-Method.stmts.items);
      end = c.in-Method.at;
    } in
    let scope = scope_of_parameters T 1 c.as_slice-params.result.now in
    let entry = subst (λ z. IsEntryOf T k z (method_data c.args.entry.now)) (ap member_of c.in-Method.is) c.requires in
    let returns = c.args.entry.now.returns in
    let first = c.in_ok-first_local.field-0 in
    let locks = type_noted c.args.first.now (flat_map (λ l. loss (lock_rule T k scope l)) (map lock_of c.as_slice-2.result.now)) in
    on_ok c.core_method.result
    (faults_told T k m scope returns first c.args.first.now locks c.method_parts.new.first c.note_missing_return.new.first
    (ap (scope_of_parameters T 1) c.as_slice-params.ensures.value)
    (ap (λ e. e.returns) entry)
    (c.in_ok-first_local.ensures ∙ ap (λ z. 1 + length z) c.as_slice-params.ensures.value)
    (ap (λ z. type_noted c.args.first.now (flat_map (λ l. loss (lock_rule T k scope l)) (map lock_of z))) c.as_slice-2.ensures.value)
    (c.in_ok-made.ensures.fault ∙ ap (λ z. type_noted locks (block_faults T k returns first scope 0 true (stmts_from (map stmt_of z)))) c.as_slice-3.ensures.value)
    (c.note_missing_return.ensures
    ∙ ap (λ z. type_noted c.method_parts.new.first (return_faults (z && c.in_ok-made.made.body.completes) c.in-Method.at)) c.is_some.ensures
    ∙ ap (λ z. type_noted c.method_parts.new.first (return_faults (is_some c.in-Method.returns && z) c.in-Method.at)) (c.in_ok-made.ensures.completes ∙ ap (λ z. completes_each (stmts_from (map stmt_of z))) c.as_slice-3.ensures.value))
    ∙ ap (λ z. type_noted c.args.first.now (faults_in_method T k z)) (sym (ap member_of c.in-Method.is)))

pub method_parts-requires : goal.method_parts-requires
method_parts-requires c =
    let T = table_data c.args.table.now in
    let entry = subst (λ z. IsEntryOf T c.args.class z (method_data c.args.entry.now)) (ap member_of c.in-Method.is) c.requires in
    c.as_slice.ensures.value ∙ ap (λ e. e.params) entry ∙ ap (map (param_of T.names)) (sym c.as_slice-params.ensures.value)
