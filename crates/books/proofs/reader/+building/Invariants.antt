use Rattle.std.proofs.Common.{◌≡◌, ◌+◌, ◌*◌, length, map}
use Rattle.books.specs.Combine.{several}
use Rattle.books.specs.Memory.{node_of}
use Rattle.books.specs.Reading.{node_at, premise_with}
use Rattle.books.specs.Views.{after_those}
use Rattle.books.proofs.reader.+building.Given as goal

abbrev pub decreases-derivation : goal.decreases-derivation
decreases-derivation l = 3 * l.room

abbrev pub decreases-derivations : goal.decreases-derivations
decreases-derivations l = 3 * l.room + 2

abbrev pub decreases-premise : goal.decreases-premise
decreases-premise l = 3 * l.room + 1

-- what is built, and then the rest, is all
abbrev pub invariant-derivations-loop-alloc : goal.invariant-derivations-loop-alloc
invariant-derivations-loop-alloc l =
    several 32 (premise_with (node_at l.end l.room)) l.text ≡ after_those (map node_of l.built.items) (several 32 (premise_with (node_at l.end l.room)) l.rest)

abbrev pub decreases-derivations-loop-alloc : goal.decreases-derivations-loop-alloc
decreases-derivations-loop-alloc l = length l.rest
