use Rattle.std.proofs.Common.{◌≡◌, ◌≤◌, length}
use Rattle.algebra.specs.HeldPaths.{Held}
use Rattle.conditions.specs.Conditions.{cond_of, value_of, IsCanonical}
use Rattle.book_check.specs.Judges.{judge_program, judge_value}
use Rattle.book_check.specs.Blocks.{AreAbsorbed}
use Rattle.rules.specs.Effect.{after_stmt}
use Rattle.effects.proofs.Blocks.{block_from}
use Rattle.book_check.proofs.rule_values.block.Given as goal

abbrev pub invariant-loop-place : goal.invariant-loop-place
invariant-loop-place l = record {
  within : l.place ≤ length l.body;
  counted : l.place ≤ length l.numbers;
  known : IsCanonical (cond_of l.rest.value);
  absorbed : AreAbsorbed (judge_value l.judge) (value_of (cond_of l.rest.value)) l.rest.absorbed.items;
  value : (H : Held) → value_of (cond_of l.rest.value) H ≡ block_from (after_stmt (judge_program l.judge)) (judge_value l.judge) l.body l.numbers l.place H;
}

abbrev pub decreases-loop-place : goal.decreases-loop-place
decreases-loop-place l = l.place
