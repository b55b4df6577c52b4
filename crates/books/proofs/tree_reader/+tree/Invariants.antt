use Rattle.books.proofs.tree_reader.+tree.Given as goal

abbrev pub decreases-tree : goal.decreases-tree
decreases-tree l = l.room
