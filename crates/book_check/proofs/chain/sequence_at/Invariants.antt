use Rattle.std.proofs.Common.{◌≡◌, length, map}
use Rattle.algebra.specs.Basics.{seq_of}
use Rattle.algebra.specs.HeldPaths.{Held}
use Rattle.conditions.specs.Conditions.{cond_of}
use Rattle.book_check.specs.Chains.{HoldsAll}
use Rattle.book_check.specs.Judges.{judge_value}
use Rattle.effects.specs.Rules.{in_sequence}
use Rattle.book_check.proofs.chain.sequence_at.Given as goal

-- the values so far, and then what is left, are all
abbrev pub invariant-numbers : goal.invariant-numbers
invariant-numbers l = (H : Held) → HoldsAll (cond_of l.chain) H →
    seq_of l.all (in_sequence (map (judge_value l.judge) l.rest) H) ≡ in_sequence (map (judge_value l.judge) l.fn.numbers) H

abbrev pub decreases-numbers : goal.decreases-numbers
decreases-numbers l = length l.rest
