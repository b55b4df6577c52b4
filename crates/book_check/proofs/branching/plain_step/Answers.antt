-- The value of a rule beside a conclusion.
use Rattle.std.proofs.Common.{map}
use Rattle.conditions.specs.Conditions.{cond_of, value_of}
use Rattle.core_program.specs.Views.{program_of}
use Rattle.effects.specs.Accesses.{branching_value}
use Rattle.effects.specs.Bodies.{part_of}
use Rattle.effects.specs.Rules.{rule_of}
use Rattle.book_check.specs.Conclusions.{conclusions, table_value}
use Rattle.book_check.proofs.BranchLemmas.{rule_below}
use Rattle.book_check.proofs.branching.plain_step.Goals as goal

pub returns : goal.returns
returns g c = λ rel A.
    rule_below c.value_below.result (branching_value c.in_ok-value.value)
    (rule_of (program_of c.args.program.now) rel A (part_of c.args.part) (conclusions (table_value (map cond_of c.args.table.now)) (g.F.Nodes.nodes c.args.premises)))
    (value_of (cond_of c.args.d.now)) (c.in_ok-value.ensures rel A) c.value_below.ensures
