use Rattle.std.proofs.Common.{◌≡◌, ◌+◌, ◌-◌, ◌++◌}
use Rattle.schedule.specs.Made.{by_turns}
use Rattle.schedule.proofs.making.put_turns.Given as goal

abbrev pub invariant-loop-turn : goal.invariant-loop-turn
invariant-loop-turn l = l.schedule.items ++ by_turns (l.count - l._turn) l.first l.second ≡ l.fn.schedule.items ++ by_turns l.count l.first l.second
