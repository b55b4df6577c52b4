use Rattle.lexer.proofs.Closing.{close_next}
use Rattle.lexer.proofs.pieces.close_end.Goals as goal

pub loop-at-preserved : goal.loop-at-preserved
loop-at-preserved c = close_next c.args.text.now c.loop-at.at c.starts_close.result c.loop-at-test.true c.loop-at.invariant c.if-starts_close.false c.starts_close.ensures
