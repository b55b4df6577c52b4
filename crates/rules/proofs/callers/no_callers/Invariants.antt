use Rattle.std.proofs.Common.{◌≡◌, length}
use Rattle.rules.proofs.callers.no_callers.Given as goal

-- as many rows as methods so far
abbrev pub invariant-loop : goal.invariant-loop
invariant-loop l = length l.rows.items ≡ l.counter
