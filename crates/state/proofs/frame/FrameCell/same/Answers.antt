use Rattle.std.proofs.Common.{◌==◌, sym, ◌∙◌}
use Rattle.std.proofs.lemmas.Bool.{eqb-true, not-false}
use Rattle.state.proofs.EqualFrames.{same_frame}
use Rattle.state.proofs.frame.FrameCell.same.Goals as goal

pub returns : goal.returns
returns c told =
    let methods = eqb-true c.method.result c.method-2.result (not-false (c.method.result == c.method-2.result) (sym c.if-ne.ensures)) in
    same_frame c.args.self.now c.args.other.now (sym c.method.ensures ∙ methods ∙ c.method-2.ensures) (sym c.place.ensures ∙ c.if-place.false ∙ c.place-else-ne.ensures)
    (sym c.slots.ensures ∙ c.same_values.ensures.same c.if-not-same_values.false ∙ c.slots-2.ensures) (sym c.operands.ensures ∙ c.same_values-2.ensures.same c.if-not-same_values-2.false ∙ c.operands-2.ensures)
    (sym c.taken.ensures ∙ c.same_addresses.ensures told ∙ c.taken-2.ensures)
