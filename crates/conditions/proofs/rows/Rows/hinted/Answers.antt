-- The decision at the hint is the one that was asked for.
use Rattle.std.proofs.Common.{sym, ◌∙◌, slice_index_or}
use Rattle.paths.proofs.PathOrder.{eq_is}
use Rattle.conditions.proofs.Decisions.{hinted}
use Rattle.conditions.proofs.rows.Rows.hinted.Goals as goal

pub returns-then-same-clause-stands : goal.returns-then-same-clause-stands
returns-then-same-clause-stands c =
    hinted c.self.inside.decisions.keys c.args.self.now c.in_ok-decision.decision.now c.args.p.now c.args.held c.args.free (slice_index_or c.self.inside.hints c.args.hint 0)
    c.self.view_is c.self.invariant (sym c.in_ok-decision.ensures.key) c.if-decision-held.true c.if-decision-free.true
    (eq_is _ _ (sym c.same.ensures ∙ c.if-same.true))
