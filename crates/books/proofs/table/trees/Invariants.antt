use Rattle.std.proofs.Common.{◌≡◌, map}
use Rattle.conditions.specs.Conditions.{cond_of}
use Rattle.books.specs.Combine.{exactly}
use Rattle.books.specs.Views.{after_those, plain_line}
use Rattle.books.proofs.table.trees.Given as goal

abbrev pub invariant-loop-left : goal.invariant-loop-left
invariant-loop-left l = exactly l.count plain_line l.text ≡ after_those (map cond_of l.trees.items) (exactly l.left plain_line l.rest)

abbrev pub decreases-loop-left : goal.decreases-loop-left
decreases-loop-left l = l.left
