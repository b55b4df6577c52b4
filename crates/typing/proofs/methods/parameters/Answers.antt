use Rattle.std.proofs.Common.{[], ◌∷◌, ◌++◌, ap, ◌∙◌}
use Rattle.classes.specs.Views.{table_data}
use Rattle.syntax.specs.declared.tree.Param.{Param}
use Rattle.typing.specs.Scopes.{scope_of_parameters}
use Rattle.typing.proofs.TableEntries.{param_step, entry_within}
use Rattle.typing.proofs.methods.parameters.Goals as goal

pub type_at-requires : goal.type_at-requires
type_at-requires c = entry_within (table_data c.args.table.now) c.args.params.now c.args.entries.now c.loop-place.place c.loop-place-test.true c.requires

pub loop-place-preserved : goal.loop-place-preserved
loop-place-preserved c =
    let T = table_data c.args.table.now in
    param_step T c.args.params.now c.args.entries.now c.loop-place.place c.loop-place.slot c.in_ok-slot.slot c.index-params-place.result c.type_at.result
    c.loop-place.scope.items c.push.new.self.items (scope_of_parameters T 1 c.args.params.now)
    c.loop-place-test.true c.index-params-place.is c.requires c.type_at.ensures c.loop-place.invariant
    (c.in_ok-push.ensures.items
    ∙ ap (λ (p : Param). c.loop-place.scope.items ++ record { name = p.name.text; variable = record { slot = c.loop-place.slot; is_final = p.is_final; ty = c.type_at.result } } ∷ []) c.param.view_is)
    c.in_ok-slot.ensures
