-- The root fits.
use Rattle.std.proofs.Common.{arith}
use Rattle.books.proofs.tree_reader.path.Goals as goal

pub overflow_cast-result : goal.overflow_cast-result
overflow_cast-result c = omega (arith, c.in_ok-root.ensures.below)
