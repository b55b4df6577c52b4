use Rattle.std.proofs.Common.{◌≡◌, ◌≤◌, ◌+◌, drop}
use Rattle.schedule_commands.specs.Generate.{group_count, groups_behind}
use Rattle.schedule_commands.proofs.generating.group_count.Given as goal

-- the groups so far and those that begin in the rest are all, and there is at most one for each entry
abbrev pub invariant-loop-thread : goal.invariant-loop-thread
invariant-loop-thread l = (l.count + groups_behind l.last (drop l.thread-index l.rest) ≡ group_count l.schedule) × (l.count ≤ 1 + l.thread-index)
