-- Behind the last statement nothing is left.
use Rattle.std.proofs.Common.{sym, ◌∙◌, arith}
use Rattle.book_check.specs.Judges.{judge_program, judge_value}
use Rattle.rules.specs.Effect.{after_stmt}
use Rattle.effects.proofs.Blocks.{block_end}
use Rattle.book_check.proofs.rule_values.block.Goals as goal

pub loop-place-init : goal.loop-place-init
loop-place-init c = record {
  within = omega (arith, c.min-place.ensures);
  counted = omega (arith, c.min-place.ensures);
  known = c.nothing_left-rest.ensures.known;
  absorbed = c.nothing_left-rest.ensures.absorbed (judge_value c.args.judge.now);
  value = λ H. c.nothing_left-rest.ensures.value H
      ∙ sym (block_end (after_stmt (judge_program c.args.judge.now)) (judge_value c.args.judge.now) c.args.body.now c.args.numbers.now c.min-place.result H c.min-place.ensures);
}
