-- One piece more was appended.
use Rattle.std.proofs.Common.{arith, ◌∙◌}
use Rattle.edge.proofs.PieceLemmas.{appends_more}
use Rattle.edge.proofs.transfer.write_all.Goals as goal

pub pieces-preserved : goal.pieces-preserved
pieces-preserved g c = record {
  within = omega (arith, c.in-Ok.ensures.bound);
  grew = appends_more (g.K.Sink.written c.args.sink.now) (g.K.Sink.written c.pieces.sink) (g.K.Sink.written c.write.new.self) c.args.bytes.now c.pieces.written c.in-Ok.n c.pieces.invariant.grew c.in-Ok.ensures.appends;
  calm = c.in-Ok.ensures.calm ∙ c.pieces.invariant.calm;
  counted = omega (arith, c.in-Ok.ensures.counted, c.in-Ok.ensures.some, c.in-Ok.ensures.bound);
}
