-- All places have been looked at.
use Rattle.std.proofs.Common.{arith}
use Rattle.logs.proofs.Closed.{closed}
use Rattle.logs.proofs.judge.Judge.open_thread.Goals as goal

pub returns : goal.returns
returns c = closed c.args.self.now.phases.values.entries (λ i e below is. c.loop-place.invariant.none i e (omega (arith, below, c.loop-place.invariant.end, c.loop-place-test.false)) is)
