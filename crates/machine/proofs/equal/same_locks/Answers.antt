use Rattle.std.proofs.Common.{sym, ◌∙◌, arith}
use Rattle.machine.proofs.EqualMaps.{same_map}
use Rattle.machine.proofs.equal.same_locks.Goals as goal

pub returns : goal.returns
returns c told =
    same_map c.args.one.now c.args.other.now (sym c.len.ensures ∙ c.if-len.false ∙ c.len-2.ensures)
    (λ k less. c.loop-place.invariant k (omega (arith, less, c.loop-place-test.false, c.len-place-end.ensures)))
