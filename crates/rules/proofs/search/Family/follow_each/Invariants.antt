use Rattle.std.proofs.Common.{take}
use Rattle.core_program.specs.Views.{program_of}
use Rattle.rules.specs.Search.{GrowsByNext, IsLed, rows_of}
use Rattle.rules.proofs.search.Family.follow_each.Given as goal

-- the places that the links so far lead to
abbrev pub invariant-loop-link : goal.invariant-loop-link
invariant-loop-link l = GrowsByNext l.fn.self.queue.items (IsLed (program_of l.program) (take l.link-index l.links) l.place) (rows_of l.self.near.items) l.self.queue.items
