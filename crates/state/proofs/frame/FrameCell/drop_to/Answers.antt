use Rattle.std.proofs.Common.{arith}
use Rattle.state.proofs.FrameLemmas.{dropped_shorter, ok_then}
use Rattle.state.proofs.frame.FrameCell.drop_to.Goals as goal

pub returns : goal.returns
returns c = ok_then c.settle.result (c.settle.ensures.spare (omega (arith, dropped_shorter c.args.drops c.args.self.now.operands))) c.settle.ensures.ok
