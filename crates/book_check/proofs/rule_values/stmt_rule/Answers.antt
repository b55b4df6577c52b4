-- A block in memory is a block as plain data.
use Rattle.std.proofs.Common.{sym, ap, ◌∙◌, map, rules}
use Rattle.core_program.specs.Core.{BlockS}
use Rattle.core_program.specs.Views.{stmt_of, stmts_from}
use Rattle.core_program.proofs.ViewLemmas.{stmt_of-Block}
use Rattle.book_check.specs.Judges.{judge_assignment, judge_program, judge_rel, judge_value}
use Rattle.effects.specs.Rules.{stmt_rule}
use Rattle.book_check.proofs.NameLemmas.{value_as}
use Rattle.book_check.proofs.rule_values.stmt_rule.Goals as goal

pub returns-in-Block-clause-value : goal.returns-in-Block-clause-value
returns-in-Block-clause-value c =
    let j = c.args.judge.now in
    let vs = map (judge_value j) c.args.numbers.now in
    let e = ap stmt_of c.in-Block.is ∙ stmt_of-Block c.in-Block.body in
    value_as c.block.result
    (stmt_rule (judge_program j) (judge_rel j) (judge_assignment j) (BlockS (stmts_from c.in-Block.body.items)) vs)
    (stmt_rule (judge_program j) (judge_rel j) (judge_assignment j) (stmt_of c.args.s.now) vs)
    (λ H. ap (λ x. stmt_rule (judge_program j) (judge_rel j) (judge_assignment j) x vs H) (sym e))
    (search rules)
