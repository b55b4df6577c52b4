-- What is assigned to the callee, under the names of its paths here.
use Rattle.std.specs.Option.{option_copied}
use Rattle.core_program.specs.Views.{program_of}
use Rattle.rules.specs.Near.{rel_of}
use Rattle.conditions.specs.Shown.{node_value}
use Rattle.derive.specs.Bases.{own_trees}
use Rattle.derive.proofs.CalledLemmas.{value_as, call_made}
use Rattle.derive.proofs.surroundings.call_by_paths.Goals as goal

pub returns-clause-value : goal.returns-clause-value
returns-clause-value c =
    let g = c.args.basis.now in
    value_as c.with_required.new.table c.with_required.result _ _
    (λ H. call_made (own_trees g) (program_of g.program.now) (rel_of g.sets.now) c.args.callee c.rel.result.now c.required_of.result.now (option_copied c.args.receiver) c.args.args.now H
    (node_value c.assigned.new.table c.in_ok-value.value H) c.rel.ensures c.required_of.ensures (c.in_ok-value.ensures.value H))
    c.with_required.ensures.value
