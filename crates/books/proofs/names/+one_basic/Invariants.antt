use Rattle.std.proofs.Common.{length}
use Rattle.books.proofs.names.+one_basic.Given as goal

abbrev pub decreases-one_basic : goal.decreases-one_basic
decreases-one_basic l = length l.basics.now
