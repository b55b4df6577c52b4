-- The call at the hint is the one that was asked for.
use Rattle.std.proofs.Common.{sym, ◌∙◌, slice_index_or}
use Rattle.conditions.proofs.Memo.{hinted_both}
use Rattle.conditions.proofs.table.NodeTable.both_before.Goals as goal

pub returns-in-Some-Both-default : goal.returns-in-Some-Both-default
returns-in-Some-Both-default c =
    let kept = c.in-Some-Both-default in
    hinted_both c.self.inside.rows c.args.self.now c.self.inside.calls.entries kept.field-0-0.now c.args.f kept.g c.args.m c.args.n kept.a kept.b kept.known.now (slice_index_or c.self.inside.hints c.hint_of_both.result 0)
    c.self.view_is c.self.invariant.0 (sym kept.ensures.entry) kept.field-0-0-is (sym c.eq.ensures ∙ c.if-eq.true) c.if-a-m.true c.if-b-n.true
