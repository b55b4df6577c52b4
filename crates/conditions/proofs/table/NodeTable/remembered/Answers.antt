-- The result that is found is the call's.
use Rattle.std.proofs.Common.{sym, ◌∙◌, slice_index_or}
use Rattle.conditions.proofs.Memo.{remembered, hinted}
use Rattle.conditions.proofs.table.NodeTable.remembered.Goals as goal

pub returns-then-eq : goal.returns-then-eq
returns-then-eq c =
    hinted c.self.inside.rows c.args.self.now c.self.inside.calls.entries c.args.call.now c.in-Some.known.now c.in-Some.n.now (slice_index_or c.self.inside.hints c.hint_of.result 0)
    c.self.view_is c.self.invariant.0 (sym c.in-Some.ensures.entry) (sym c.eq.ensures ∙ c.if-eq.true)

pub returns : goal.returns
returns c =
    remembered c.self.inside.rows c.args.self.now c.self.inside.calls.entries c.args.call.now c.copied.result c.self.view_is c.self.invariant.0
    (c.copied.ensures ∙ c.get.ensures.value)
