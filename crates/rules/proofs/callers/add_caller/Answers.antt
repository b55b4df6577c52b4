-- The row has one caller more.
use Rattle.rules.proofs.CalleeLemmas.{caller_put}
use Rattle.rules.proofs.callers.add_caller.Goals as goal

pub returns-clause-added : goal.returns-clause-added
returns-clause-added c =
    caller_put c.args.rows.now c.callee.inside.0 c.args.callee c.args.caller c.row.inside.callers.items c.push.new.self.items c.index-rows-place.result
    c.callee.view_is c.if-place-rows.false c.row.view_is c.in_ok-push.ensures.items
