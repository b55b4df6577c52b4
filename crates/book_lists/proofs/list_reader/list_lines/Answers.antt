-- One line more, and all of them.
use Rattle.std.proofs.Common.{refl, sym, ◌∙◌, map, arith}
use Rattle.books.specs.Combine.{several}
use Rattle.book_lists.specs.Listed.{line_head, listed_lines}
use Rattle.books.specs.Reading.{line_at}
use Rattle.books.proofs.PassBooks.{line_shorter}
use Rattle.book_lists.proofs.ListLaws.{all_heads_listed, all_lines_listed, head_listed, line_listed, none_listed}
use Rattle.book_lists.proofs.list_reader.list_lines.Goals as goal

pub lines-init : goal.lines-init
lines-init c =
    let whole = several 109 (line_at c.args.end) c.args.text.now in
    (none_listed (map line_head) c.args.lines.now.items whole refl, none_listed listed_lines c.args.nodes.now.items whole refl)

pub lines-preserved : goal.lines-preserved
lines-preserved c =
    let whole = several 109 (line_at c.args.end) c.args.text.now in
    let go = sym c.begins.ensures ∙ c.lines-test.true in (
      head_listed c.args.end c.args.lines.now.items c.lines.lines.items c.list_line.new.lines.items whole c.lines.rest.now c.in_ok-rest.rest.now c.requires c.lines.invariant.0 go c.in_ok-rest.ensures.heads,
      line_listed c.args.end c.args.nodes.now.items c.lines.nodes.items c.list_line.new.nodes.items whole c.lines.rest.now c.in_ok-rest.rest.now c.requires c.lines.invariant.1 go c.in_ok-rest.ensures.nodes,
    )

pub lines-smaller : goal.lines-smaller
lines-smaller c =
    line_shorter c.args.end (omega (arith, c.requires)) c.lines.rest.now c.in_ok-rest.ensures.heads.what c.in_ok-rest.rest.now c.in_ok-rest.ensures.heads.read_is

pub returns-clause-heads : goal.returns-clause-heads
returns-clause-heads c =
    all_heads_listed c.args.end c.args.lines.now.items c.lines.lines.items (several 109 (line_at c.args.end) c.args.text.now) c.lines.rest.now c.lines.invariant.0 (sym c.begins.ensures ∙ c.lines-test.false)

pub returns-clause-nodes : goal.returns-clause-nodes
returns-clause-nodes c =
    all_lines_listed c.args.end c.args.nodes.now.items c.lines.nodes.items (several 109 (line_at c.args.end) c.args.text.now) c.lines.rest.now c.lines.invariant.1 (sym c.begins.ensures ∙ c.lines-test.false)
