use Rattle.std.proofs.Common.{◌≡◌, ◌++◌, drop}
use Rattle.places.specs.Feeds.{feeds_from}
use Rattle.places.proofs.index.line_feeds.Given as goal

-- the offsets so far, and then those of the rest, are all
abbrev pub invariant-loop-at : goal.invariant-loop-at
invariant-loop-at l = l.feeds.items ++ feeds_from l.at (drop l.at l.byte-items) ≡ feeds_from 0 l.byte-items
