use Rattle.std.proofs.Common.{ap, ◌∙◌}
use Rattle.classes.specs.Views.{table_data}
use Rattle.typing.specs.Locks.{path_along, lock_end, root_rule, reach_of}
use Rattle.typing.specs.Names.{variable_of}
use Rattle.typing.specs.Noted.{type_noted}
use Rattle.typing.specs.Rulings.{gain, loss, then_rule}
use Rattle.typing.specs.StmtViews.{reach_data}
use Rattle.typing.proofs.Steps.{later_fault}
use Rattle.typing.proofs.lock.lock_path.Goals as goal

pub returns-clause-fault : goal.returns-clause-fault
returns-clause-fault c =
    let t = table_data c.args.table.now in
    let at = c.args.lock.now.at in
    let v = variable_of c.in_ok-variable.variable in
    let steps = path_along t at (reach_of v) c.args.lock.now.fields.items in
    let same = ap (λ r. path_along t at r c.as_slice.result.now) c.reach_of.ensures ∙ ap (path_along t at (reach_of v)) c.as_slice.ensures.value in
    c.lock_end.ensures.fault
    ∙ later_fault steps (reach_data c.in_ok-reach.reach) (lock_end at) c.root.new.first c.along.new.first
    (c.in_ok-reach.ensures.reach ∙ ap gain same) (c.in_ok-reach.ensures.fault ∙ ap (λ z. type_noted c.root.new.first (loss z)) same)
    ∙ later_fault (root_rule c.args.class c.args.scope.now c.args.lock.now.root) v (λ v. then_rule (path_along t at (reach_of v) c.args.lock.now.fields.items) (lock_end at)) c.args.first.now c.root.new.first
    c.in_ok-variable.ensures.variable c.in_ok-variable.ensures.fault
