use Rattle.std.proofs.Common.{◌≡◌, Option, length, map}
use Rattle.paths.specs.Paths.{PathData}
use Rattle.algebra.specs.HeldPaths.{Held}
use Rattle.rules.specs.Effect.{after_local}
use Rattle.effects.specs.Rules.{in_sequence}
use Rattle.book_check.specs.Judges.{judge_value}
use Rattle.book_check.proofs.unmoved.all_avoid.Given as goal

-- where the values that are left are the same, all are
abbrev pub invariant-numbers : goal.invariant-numbers
invariant-numbers l = (o : Option PathData) (H : Held) → in_sequence (map (judge_value l.judge) l.rest) (after_local H l.slot o) ≡ in_sequence (map (judge_value l.judge) l.rest) H →
    in_sequence (map (judge_value l.judge) l.fn.numbers) (after_local H l.slot o) ≡ in_sequence (map (judge_value l.judge) l.fn.numbers) H

abbrev pub decreases-numbers : goal.decreases-numbers
decreases-numbers l = length l.rest
