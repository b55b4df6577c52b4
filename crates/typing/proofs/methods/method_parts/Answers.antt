use Rattle.std.proofs.Common.{true, map, flat_map, ap, ◌∙◌, option_map}
use Rattle.classes.specs.Views.{table_data}
use Rattle.core_program.specs.Core.{BlockS}
use Rattle.syntax.specs.Views.{lock_of, stmt_of, stmts_from}
use Rattle.typing.specs.Locks.{lock_rule}
use Rattle.typing.specs.Noted.{type_noted}
use Rattle.typing.specs.Programs.{all_there}
use Rattle.typing.specs.Rulings.{gain, loss}
use Rattle.typing.specs.Scopes.{scope_of_parameters}
use Rattle.typing.specs.Stmts.{block_core, block_faults}
use Rattle.typing.proofs.Bodies.{types_from}
use Rattle.typing.proofs.methods.method_parts.Goals as goal

pub returns-clause-types : goal.returns-clause-types
returns-clause-types c =
    c.in_ok-types.ensures
    ∙ ap (map (λ b. (b.variable.is_final, b.variable.ty))) (c.as_slice-2.ensures.value ∙ c.in_ok-scope.ensures)
    ∙ types_from (table_data c.args.body.now.table.now) 1 c.args.params.now

pub returns-clause-locks : goal.returns-clause-locks
returns-clause-locks c =
    let T = table_data c.args.body.now.table.now in
    let k = c.args.body.now.class in
    c.in_ok-locks.ensures.paths
    ∙ ap (λ z. all_there (map (λ l. gain (lock_rule T k z l)) (map lock_of c.args.locks.now))) (c.as_slice.ensures.value ∙ c.in_ok-scope.ensures)

pub returns-clause-node : goal.returns-clause-node
returns-clause-node c =
    let T = table_data c.args.body.now.table.now in
    let M = c.args.body.now in
    c.in_ok-body.ensures.node
    ∙ ap (λ z. option_map BlockS (block_core T M.class M.returns M.first_local z 0 (stmts_from (map stmt_of c.args.stmts.now)))) c.in_ok-scope.ensures

pub returns-clause-fault : goal.returns-clause-fault
returns-clause-fault c =
    let T = table_data c.args.body.now.table.now in
    let M = c.args.body.now in
    let body = stmts_from (map stmt_of c.args.stmts.now) in
    let scope = scope_of_parameters T 1 c.args.params.now in
    let locks = type_noted c.args.first.now (flat_map (λ l. loss (lock_rule T M.class scope l)) (map lock_of c.args.locks.now)) in
    c.in_ok-body.ensures.fault
    ∙ ap (λ z. type_noted z (block_faults T M.class M.returns M.first_local c.in_ok-scope.scope.items 0 true body))
    (c.in_ok-locks.ensures.fault
    ∙ ap (λ z. type_noted c.args.first.now (flat_map (λ l. loss (lock_rule T M.class z l)) (map lock_of c.args.locks.now))) (c.as_slice.ensures.value ∙ c.in_ok-scope.ensures))
    ∙ ap (λ z. type_noted locks (block_faults T M.class M.returns M.first_local z 0 true body)) c.in_ok-scope.ensures
