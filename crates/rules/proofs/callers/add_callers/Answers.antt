-- One callee more has the caller.
use Rattle.std.proofs.Common.{◌∙◌, refl}
use Rattle.rules.proofs.CalleeLemmas.{callers_none, callers_more}
use Rattle.rules.proofs.callers.add_callers.Goals as goal

pub loop-callee-init : goal.loop-callee-init
loop-callee-init c = record { size = refl; added = callers_none c.args.rows.now c.args.caller }

pub loop-callee-preserved : goal.loop-callee-preserved
loop-callee-preserved c = record {
  size = c.in_ok-add_caller.ensures.size ∙ c.loop-callee.invariant.size;
  added = callers_more c.args.rows.now c.loop-callee.rows c.add_caller.new.rows c.args.callees.now c.loop-callee.callee-index c.callee-item.result c.args.caller c.loop-callee-test.true c.callee-item.is c.loop-callee.invariant.added c.in_ok-add_caller.ensures.added;
}
