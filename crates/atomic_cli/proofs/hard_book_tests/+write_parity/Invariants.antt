use Rattle.std.proofs.Common.{length}
use Rattle.atomic_cli.proofs.hard_book_tests.+write_parity.Given as goal

-- each call has one path less
abbrev pub decreases-write_parity : goal.decreases-write_parity
decreases-write_parity l = length l.paths.now
