use Rattle.std.proofs.Common.{◌≡◌, ◌++◌, ◌+◌, ◌*◌, ◌≤◌, length, string_bytes}
use Rattle.books.specs.Memory.{node_of, nodes_at}
use Rattle.books.specs.Texts.{nodes_text}
use Rattle.books.specs.Books.{node_high, nodes_high}
use Rattle.books.proofs.writer.+writing.Given as goal

abbrev pub decreases-write_node : goal.decreases-write_node
decreases-write_node l = 2 * node_high (node_of l.node.now)

abbrev pub decreases-write_nodes : goal.decreases-write_nodes
decreases-write_nodes l = 2 * nodes_high (nodes_at l.nodes.now) + 1

-- what is written, and then the text of the rest, is all
abbrev pub invariant-write_nodes-nodes : goal.invariant-write_nodes-nodes
invariant-write_nodes-nodes l = record {
  text : string_bytes l.text ++ nodes_text (nodes_at l.rest) ≡ string_bytes l.fn.text ++ nodes_text (nodes_at l.fn.nodes);
  smaller : nodes_high (nodes_at l.rest) ≤ nodes_high (nodes_at l.fn.nodes);
}

abbrev pub decreases-write_nodes-nodes : goal.decreases-write_nodes-nodes
decreases-write_nodes-nodes l = length l.rest
