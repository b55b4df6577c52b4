-- A method line is read, and its node is listed.
use Rattle.book_lists.proofs.ListLaws.{line_body_listed, line_head_listed}
use Rattle.book_lists.proofs.list_reader.list_line.Goals as goal

pub returns-clause-heads : goal.returns-clause-heads
returns-clause-heads c =
    line_head_listed c.args.end c.args.text.now c.in_ok-rest.rest.now c.in_ok-id.rest.now c.in_ok-rest-2.rest.now c.in_ok-number.rest.now c.in_ok-rest-3.rest.now c.in_ok-rest-4.rest.now c.in_ok-rest-5.rest.now
    c.in_ok-id.id c.in_ok-number.number c.args.lines.now.items c.push.new.self.items c.args.nodes.now.items c.list_node.new.nodes.items
    c.in_ok-rest.ensures c.in_ok-id.ensures.read c.in_ok-rest-2.ensures c.in_ok-number.ensures.read c.in_ok-rest-3.ensures c.in_ok-rest-4.ensures c.in_ok-rest-5.ensures c.in_ok-push.ensures.items

pub returns-clause-nodes : goal.returns-clause-nodes
returns-clause-nodes c =
    line_body_listed c.args.end c.args.text.now c.in_ok-rest.rest.now c.in_ok-id.rest.now c.in_ok-rest-2.rest.now c.in_ok-number.rest.now c.in_ok-rest-3.rest.now c.in_ok-rest-4.rest.now c.in_ok-rest-5.rest.now
    c.in_ok-id.id c.in_ok-number.number c.args.nodes.now.items c.list_node.new.nodes.items
    c.in_ok-rest.ensures c.in_ok-id.ensures.read c.in_ok-rest-2.ensures c.in_ok-number.ensures.read c.in_ok-rest-3.ensures c.in_ok-rest-4.ensures c.in_ok-rest-5.ensures
