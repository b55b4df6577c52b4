use Rattle.std.proofs.Common.{arith}
use Rattle.classes.proofs.Jumping.{all_held}
use Rattle.classes.proofs.jumps.have_all.Goals as goal

pub returns : goal.returns
returns c _ = all_held c.args.buckets c.args.names.now (λ i low. c.loop-number.invariant i (omega (arith, low, c.loop-number-test.false, c.len-number-end.ensures)))
