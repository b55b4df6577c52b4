use Rattle.std.proofs.Common.{◌+◌, ◌*◌, length}
use Rattle.books.specs.Combine.{several}
use Rattle.books.specs.Derivations.{nodes_from}
use Rattle.book_lists.specs.Listed.{listed_all, AreListedSoFar}
use Rattle.books.specs.Reading.{node_at, premise_with}
use Rattle.book_lists.proofs.list_reader.+listing.Given as goal

abbrev pub decreases-list_node : goal.decreases-list_node
decreases-list_node l = 3 * l.room

abbrev pub decreases-list_premises : goal.decreases-list_premises
decreases-list_premises l = 3 * l.room + 2

abbrev pub decreases-list_premise : goal.decreases-list_premise
decreases-list_premise l = 3 * l.room + 1

-- what stands behind the others, and then the rest, is all
abbrev pub invariant-list_premises-premises : goal.invariant-list_premises-premises
invariant-list_premises-premises l =
    AreListedSoFar (λ ds. listed_all (nodes_from ds)) l.fn.nodes.items l.nodes.items (several 32 (premise_with (node_at l.end l.room)) l.text) (several 32 (premise_with (node_at l.end l.room)) l.rest)

abbrev pub decreases-list_premises-premises : goal.decreases-list_premises-premises
decreases-list_premises-premises l = length l.rest
