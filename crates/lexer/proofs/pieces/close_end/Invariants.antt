use Rattle.std.proofs.Common.{length, drop, option_map, ◌-◌, ◌≡◌, ◌+◌}
use Rattle.lexer.specs.Reading.{close_end}
use Rattle.lexer.proofs.pieces.close_end.Given as goal

abbrev pub invariant-loop-at : goal.invariant-loop-at
invariant-loop-at l = close_end l.text ≡ option_map (λ n. l.at + n) (close_end (drop l.at l.text))

abbrev pub decreases-loop-at : goal.decreases-loop-at
decreases-loop-at l = length l.text - l.at
