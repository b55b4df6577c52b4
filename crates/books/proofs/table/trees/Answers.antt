-- One tree more.
use Rattle.std.proofs.Common.{◌∙◌}
use Rattle.books.proofs.TableLaws.{tree_pushed}
use Rattle.books.proofs.table.trees.Goals as goal

pub loop-left-preserved : goal.loop-left-preserved
loop-left-preserved c =
    c.loop-left.invariant
    ∙ tree_pushed c.loop-left.trees.items c.push.new.self.items c.in_ok-tree.tree c.loop-left.left c.loop-left.rest.now c.in_ok-tree.behind.now c.loop-left-test.true c.in_ok-tree.ensures c.in_ok-push.ensures.items
