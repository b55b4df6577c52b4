use Rattle.std.proofs.Common.{ℕ, take}
use Rattle.std.specs.Prelude.{Contains}
use Rattle.book_check.specs.Good.{IsUnderIn}
use Rattle.book_check.specs.Judges.{judge_assignment, judge_value}
use Rattle.book_check.proofs.line.are_under_in.Given as goal

-- the trees of the methods before this one are
abbrev pub invariant-loop-over : goal.invariant-loop-over
invariant-loop-over l = (n : ℕ) → Contains (take l.over-index l.overs) n → IsUnderIn l.rel l.required (judge_assignment l.steps.judge.now n) (judge_value l.steps.judge.now l.own)
