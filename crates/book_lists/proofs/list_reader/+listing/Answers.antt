-- One premise more, all of them, and the node over them.
use Rattle.std.proofs.Common.{refl, sym, ◌∙◌, arith}
use Rattle.std.proofs.lemmas.Result.{IfOk-weaker}
use Rattle.books.specs.Combine.{several}
use Rattle.books.specs.Derivations.{nodes_from}
use Rattle.book_lists.specs.Listed.{listed, listed_all, IsListedAs}
use Rattle.books.specs.Reading.{node_at, premise_with}
use Rattle.books.proofs.PassLemmas.{premise_takes}
use Rattle.book_lists.proofs.ListLaws.{all_premises_listed, node_inside, node_listed, none_listed, premise_listed, premise_one}
use Rattle.book_lists.proofs.list_reader.+listing.Goals as goal

pub list_premises-premises-init : goal.list_premises-premises-init
list_premises-premises-init t c =
    none_listed (λ ds. listed_all (nodes_from ds)) c.args.nodes.now.items (several 32 (premise_with (node_at c.args.end c.args.room)) c.args.text.now) refl

pub list_premises-premises-preserved : goal.list_premises-premises-preserved
list_premises-premises-preserved t c =
    premise_listed c.args.end c.args.room c.args.nodes.now.items c.premises.nodes.items c.list_premise.new.nodes.items (several 32 (premise_with (node_at c.args.end c.args.room)) c.args.text.now)
    c.premises.rest.now c.in_ok-rest.rest.now c.requires c.premises.invariant (sym c.begins.ensures ∙ c.premises-test.true) c.in_ok-rest.ensures

pub list_premises-premises-smaller : goal.list_premises-premises-smaller
list_premises-premises-smaller t c =
    premise_takes c.args.end (omega (arith, c.requires)) c.args.room c.premises.rest.now c.in_ok-rest.ensures.what c.in_ok-rest.rest.now c.in_ok-rest.ensures.read_is

pub list_premises-returns : goal.list_premises-returns
list_premises-returns t c =
    all_premises_listed c.args.end c.args.room c.args.nodes.now.items c.premises.nodes.items (several 32 (premise_with (node_at c.args.end c.args.room)) c.args.text.now)
    c.premises.rest.now c.premises.invariant (sym c.begins.ensures ∙ c.premises-test.false)

pub list_node-tell_below-requires : goal.list_node-tell_below-requires
list_node-tell_below-requires t c =
    node_inside c.args.nodes.now.items c.push.new.self.items c.list_premises.new.nodes.items (listed_all (nodes_from c.in_ok-rest-2.ensures.what))
    (record { word = c.in_ok-word.word; number = c.in_ok-number.number; below = 0 }) c.len-place.result (c.len-place.ensures ∙ c.args.nodes.now.ok.0) c.in_ok-push.ensures.items c.in_ok-rest-2.ensures.behind

pub list_node-returns : goal.list_node-returns
list_node-returns t c =
    node_listed c.args.end c.args.room c.args.text.now c.in_ok-rest.rest.now c.in_ok-word.rest.now c.in_ok-number.rest.now c.in_ok-rest-2.rest.now c.in_ok-rest-3.rest.now
    c.in_ok-word.word c.in_ok-number.number c.len-place.result c.args.nodes.now.items c.push.new.self.items c.list_premises.new.nodes.items c.tell_below.new.nodes.items
    (record { word = c.in_ok-word.word; number = c.in_ok-number.number; below = 0 }) (λ none. absurd (omega (arith, c.if-room-eq0.false, none)))
    c.in_ok-rest.ensures c.in_ok-word.ensures c.in_ok-number.ensures.read (c.len-place.ensures ∙ c.args.nodes.now.ok.0) c.in_ok-push.ensures.items c.in_ok-rest-2.ensures c.in_ok-rest-3.ensures c.in_ok-tell_below.ensures

pub list_premise-returns : goal.list_premise-returns
list_premise-returns t c =
    IfOk-weaker c.list_node.result (λ rest. IsListedAs listed c.args.nodes.now.items c.list_node.new.nodes.items (node_at c.args.end c.args.room c.in_ok-rest.rest.now) rest.now)
    (λ rest. IsListedAs listed c.args.nodes.now.items c.list_node.new.nodes.items (premise_with (node_at c.args.end c.args.room) c.args.text.now) rest.now)
    (λ rest node. premise_one c.args.end c.args.room c.args.text.now c.in_ok-rest.rest.now rest.now c.args.nodes.now.items c.list_node.new.nodes.items c.in_ok-rest.ensures node) c.list_node.ensures
