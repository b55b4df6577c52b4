use Rattle.std.proofs.Common.{◌-◌, ◌^◌}
use Rattle.core_program.specs.Views.{program_of}
use Rattle.rules.specs.Search.{HasDone, rows_of}
use Rattle.rules.proofs.search.near_paths.Given as goal

-- the places before the next one are followed
abbrev pub invariant-loop-next : goal.invariant-loop-next
invariant-loop-next l = HasDone (program_of l.program) l.clauses (rows_of l.links.items) l.next (rows_of l.family.near.items) l.family.queue.items

abbrev pub decreases-loop-next : goal.decreases-loop-next
decreases-loop-next l = 2 ^ 64 - l.next
