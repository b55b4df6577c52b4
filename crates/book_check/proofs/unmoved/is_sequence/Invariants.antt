use Rattle.std.proofs.Common.{◌≡◌, length, map}
use Rattle.algebra.specs.HeldPaths.{Held}
use Rattle.core_program.specs.Views.{stmts_from}
use Rattle.effects.specs.Rules.{block_value, in_sequence}
use Rattle.book_check.specs.Judges.{judge_program, judge_value}
use Rattle.book_check.proofs.unmoved.is_sequence.Given as goal

-- where the statements that are left are a sequence, all are
abbrev pub invariant-statements : goal.invariant-statements
invariant-statements l = record {
  same : length l.statements ≡ length l.rest;
  goes : ((K : Held) → block_value (judge_program l.judge) (stmts_from l.statements) (map (judge_value l.judge) l.rest) K ≡ in_sequence (map (judge_value l.judge) l.rest) K) →
      (H : Held) → block_value (judge_program l.judge) (stmts_from l.fn.body) (map (judge_value l.judge) l.fn.numbers) H ≡ in_sequence (map (judge_value l.judge) l.fn.numbers) H;
}

abbrev pub decreases-statements : goal.decreases-statements
decreases-statements l = length l.statements
