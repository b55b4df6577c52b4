use Rattle.std.proofs.Common.{length}
use Rattle.book_check.proofs.names.+where_held.Given as goal

abbrev pub decreases-where_held : goal.decreases-where_held
decreases-where_held l = length l.required.now
