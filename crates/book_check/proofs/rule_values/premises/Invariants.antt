use Rattle.std.proofs.Common.{◌≡◌, ◌++◌, map, drop}
use Rattle.effects.specs.Rules.{AreAllKnown}
use Rattle.book_check.specs.Charges.{known_value, IsKnownTree}
use Rattle.book_check.specs.Judges.{judge_value}
use Rattle.book_check.proofs.rule_values.premises.Given as goal

-- the trees so far, and then those of the rest, are all
abbrev pub invariant-loop-number : goal.invariant-loop-number
invariant-loop-number l = record {
  known : AreAllKnown IsKnownTree l.trees l.found.items;
  values : map (known_value l.trees) l.found.items ++ map (judge_value l.judge) (drop l.number-index l.numbers) ≡ map (judge_value l.judge) l.numbers;
}
