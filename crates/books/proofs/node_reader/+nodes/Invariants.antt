use Rattle.std.proofs.Common.{◌≡◌, ◌+◌, ◌*◌, length}
use Rattle.books.specs.Passing.{pass_node, pass_premise, pass_several}
use Rattle.books.proofs.node_reader.+nodes.Given as goal

abbrev pub decreases-node : goal.decreases-node
decreases-node l = 3 * l.room

abbrev pub decreases-premises : goal.decreases-premises
decreases-premises l = 3 * l.room + 2

abbrev pub decreases-premise : goal.decreases-premise
decreases-premise l = 3 * l.room + 1

abbrev pub invariant-premises-loop-rest : goal.invariant-premises-loop-rest
invariant-premises-loop-rest l = pass_several 32 (pass_premise (pass_node l.count l.room)) l.text ≡ pass_several 32 (pass_premise (pass_node l.count l.room)) l.rest

abbrev pub decreases-premises-loop-rest : goal.decreases-premises-loop-rest
decreases-premises-loop-rest l = length l.rest
