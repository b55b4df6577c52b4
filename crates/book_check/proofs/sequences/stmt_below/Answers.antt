-- The rule of a block.
use Rattle.std.proofs.Common.{sym, ap, ◌∙◌, map, refl}
use Rattle.conditions.specs.Conditions.{cond_of, value_of}
use Rattle.core_program.specs.Views.{stmt_of, stmts_from}
use Rattle.core_program.proofs.ViewLemmas.{stmt_of-Block}
use Rattle.book_check.specs.Judges.{judge_assignment, judge_program, judge_rel, judge_value}
use Rattle.effects.specs.Rules.{block_value, stmt_rule}
use Rattle.book_check.proofs.StepLemmas.{step_is}
use Rattle.book_check.proofs.sequences.stmt_below.Goals as goal

pub returns-in-Block : goal.returns-in-Block
returns-in-Block c =
    let j = c.args.judge.now in
    let vs = map (judge_value j) c.args.numbers.now in
    let d = value_of (cond_of c.args.d.now) in
    let e = ap stmt_of c.in-Block.is ∙ stmt_of-Block c.in-Block.body in
    step_is c.block_below.result (block_value (judge_program j) (stmts_from c.as_slice.result.now) vs) d
    (stmt_rule (judge_program j) (judge_rel j) (judge_assignment j) (stmt_of c.args.s.now) vs) d
    (λ H. ap (λ b. block_value (judge_program j) (stmts_from b) vs H) c.as_slice.ensures.value
    ∙ sym (ap (λ x. stmt_rule (judge_program j) (judge_rel j) (judge_assignment j) x vs H) e))
    (λ H. refl) c.block_below.ensures
