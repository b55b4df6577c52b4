use Rattle.std.proofs.Common.{length}
use Rattle.book_check.proofs.chain.+has_required.Given as goal

abbrev pub decreases-has_required : goal.decreases-has_required
decreases-has_required l = length l.required.now
