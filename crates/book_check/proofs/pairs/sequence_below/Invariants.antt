use Rattle.std.proofs.Common.{◌↔◌, length, map}
use Rattle.conditions.specs.Conditions.{cond_of, value_of}
use Rattle.book_check.specs.Judges.{judge_value}
use Rattle.book_check.specs.Pairs.{IsSequenceBelow}
use Rattle.book_check.proofs.pairs.sequence_below.Given as goal

-- what is left decides
abbrev pub invariant-numbers : goal.invariant-numbers
invariant-numbers l =
    IsSequenceBelow (map (judge_value l.judge) l.rest) (value_of (cond_of l.last)) (value_of (cond_of l.d))
    ↔ IsSequenceBelow (map (judge_value l.judge) l.fn.numbers) (value_of (cond_of l.last)) (value_of (cond_of l.d))

abbrev pub decreases-numbers : goal.decreases-numbers
decreases-numbers l = length l.rest
