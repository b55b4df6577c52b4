-- A node with the values of a canonical tree stands for it.
use Rattle.conditions.specs.Conditions.{cond_of}
use Rattle.derive.proofs.Tables.{grows_by, stands_for}
use Rattle.derive.proofs.derive_book.own_node.Goals as goal

pub returns-clause-tree : goal.returns-clause-tree
returns-clause-tree c =
    stands_for c.named.new.table c.in_ok-node.node (cond_of c.args.tree.now) c.count-after.ensures.table c.in_ok-node.ensures.known c.requires c.in_ok-node.ensures.value

pub returns-clause-grows : goal.returns-clause-grows
returns-clause-grows c = grows_by c.args.table.now c.named.new.table c.count-before.ensures.table c.count-after.ensures.table c.named.ensures.keeps
