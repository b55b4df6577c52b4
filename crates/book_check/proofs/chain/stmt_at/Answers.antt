-- A block in memory is a block as plain data.
use Rattle.std.proofs.Common.{sym, ap, ◌∙◌, map}
use Rattle.std.proofs.lemmas.Option.{IfSome_then}
use Rattle.core_program.specs.Views.{stmt_of, stmts_from}
use Rattle.core_program.proofs.ViewLemmas.{stmt_of-Block}
use Rattle.book_check.specs.Judges.{judge_assignment, judge_program, judge_rel, judge_value}
use Rattle.effects.specs.Rules.{block_value, stmt_rule}
use Rattle.book_check.proofs.chain.stmt_at.Goals as goal

pub returns-in-Block : goal.returns-in-Block
returns-in-Block c =
    let j = c.args.judge.now in
    let P = judge_program j in
    let vs = map (judge_value j) c.args.numbers.now in
    let e = ap stmt_of c.in-Block.is ∙ stmt_of-Block c.in-Block.body in
    IfSome_then c.block_at.result c.block_at.ensures (λ b value H holds.
    ap (λ x. stmt_rule P (judge_rel j) (judge_assignment j) x vs H) e ∙ ap (λ ss. block_value P (stmts_from ss) vs H) (sym c.as_slice.ensures.value) ∙ value H holds)
