use Rattle.std.proofs.Common.{◌∙◌}
use Rattle.core_program.specs.Locks.{path_of}
use Rattle.core_program.specs.Views.{expr_of, exprs_from}
use Rattle.rules.specs.Mentions.{paths_of}
use Rattle.infer.specs.Bodies.{program_at}
use Rattle.effects.proofs.Values.{value_same}
use Rattle.infer.proofs.Calls.{call_is}
use Rattle.infer.proofs.call.call_value.Goals as goal

pub returns-clause-value : goal.returns-clause-value
returns-clause-value g c =
    let P = program_at c.args.walk.now in
    value_same g.G.Algebra.value c.with_required.new.algebra c.with_required.result _ _
    (λ H. call_is (path_of P (expr_of c.args.receiver.now)) (paths_of P (exprs_from c.args.args.now)) P c.args.walk.now.sets.now c.args.walk.now.tables.now c.args.callee
    _ _ _ _ _ H
    (c.as_slice.ensures.value ∙ c.names.view_is ∙ c.in_ok-names.ensures)
    (c.as_slice-2.ensures.value ∙ c.names.view_is ∙ c.in_ok-names.ensures)
    c.table_at.ensures c.required_of.ensures (c.in_ok-value.ensures.value H))
    c.with_required.ensures.value
