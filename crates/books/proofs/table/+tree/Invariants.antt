use Rattle.books.proofs.table.+tree.Given as goal

abbrev pub decreases-tree : goal.decreases-tree
decreases-tree l = l.room
