-- One cell was noted.
use Rattle.std.proofs.Common.{◌≡◌, ◌<◌, length, slice_set, true, sym, subst, arith}
use Rattle.fixpoint.specs.Waiting.{IsNoted}
use Rattle.fixpoint.proofs.NoteLemmas.{noted_one}
use Rattle.fixpoint.proofs.rounds.note.Goals as goal

pub returns-clause-noted : goal.returns-clause-noted
returns-clause-noted c =
    let below : c.args.cell < length c.args.waits.now = omega (arith, c.if-cell-waits.false) in
    subst (IsNoted (λ k. k ≡ c.args.cell) c.args.waits.now (slice_set c.args.waits.now c.args.cell true) c.args.next.now.items) (sym c.in_ok-push.ensures.items)
    (noted_one c.args.cell c.args.waits.now c.args.next.now.items below)
