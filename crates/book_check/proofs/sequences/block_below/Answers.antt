-- A block that has the value of the sequence of its statements.
use Rattle.std.proofs.Common.{map}
use Rattle.conditions.specs.Conditions.{cond_of, value_of}
use Rattle.core_program.specs.Views.{stmts_from}
use Rattle.book_check.specs.Judges.{judge_program, judge_value}
use Rattle.effects.specs.Rules.{block_value}
use Rattle.book_check.proofs.PairLemmas.{block_step}
use Rattle.book_check.proofs.sequences.block_below.Goals as goal

pub returns : goal.returns
returns c =
    let vs = map (judge_value c.args.judge.now) c.args.numbers.now in
    block_step c.sequence_below.result vs (block_value (judge_program c.args.judge.now) (stmts_from c.args.body.now) vs) (value_of (cond_of c.leaf-last.result)) (value_of (cond_of c.args.d.now))
    (c.in_ok-is_sequence.ensures c.if-not-branch.false) c.leaf-last.ensures.value c.sequence_below.ensures
