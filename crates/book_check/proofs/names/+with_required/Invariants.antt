use Rattle.std.proofs.Common.{length}
use Rattle.book_check.proofs.names.+with_required.Given as goal

abbrev pub decreases-with_required : goal.decreases-with_required
decreases-with_required l = length l.required.now
