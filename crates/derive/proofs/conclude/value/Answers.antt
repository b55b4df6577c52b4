-- The rule's value, in a table that grew.
use Rattle.std.proofs.Common.{◌∙◌, ap, map, length, subst, sym}
use Rattle.core_program.specs.Views.{program_of}
use Rattle.rules.specs.Near.{rel_of}
use Rattle.conditions.specs.Shown.{AreAmongFirst, node_value}
use Rattle.effects.specs.Rules.{rule_of}
use Rattle.effects.specs.Bodies.{part_of}
use Rattle.derive.specs.Bases.{own_trees, trees_assign}
use Rattle.derive.proofs.Tables.{all_there, grows_by}
use Rattle.derive.proofs.conclude.value.Goals as goal

pub rule-requires-clause-values : goal.rule-requires-clause-values
rule-requires-clause-values c =
    all_there c.args.table.now c.as_slice.result.now
    (subst (AreAmongFirst (length c.args.table.now)) (sym c.as_slice.ensures.value) c.in_ok-premises.ensures.known)

pub returns-clause-value : goal.returns-clause-value
returns-clause-value c = λ H.
    let g = c.args.basis.now in
    let P = program_of g.program.now in
    let rel = rel_of g.sets.now in
    let A = trees_assign (own_trees g) in
    c.in_ok-node.ensures.value H
    ∙ ap (λ ws. rule_of P rel A (part_of c.args.part) ws H) (ap (map (node_value c.args.table.now)) c.as_slice.ensures.value ∙ c.in_ok-premises.ensures.values)

pub returns-clause-grows : goal.returns-clause-grows
returns-clause-grows c = grows_by c.args.table.now c.rule.new.algebra c.count-before.ensures.table c.count-after.ensures.table c.rule.ensures.keeps
