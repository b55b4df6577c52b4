use Rattle.std.proofs.Common.{◌≡◌, length}
use Rattle.rules.specs.Passing.{is_front}
use Rattle.rules.proofs.passing.is_front.Given as goal

-- the rest of the first is a front of the rest of the second exactly where the whole is one of the whole
abbrev pub invariant-fields : goal.invariant-fields
invariant-fields l = is_front l.first l.second ≡ is_front l.fields l.others

abbrev pub decreases-fields : goal.decreases-fields
decreases-fields l = length l.first
