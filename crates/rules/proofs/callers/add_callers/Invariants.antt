use Rattle.std.proofs.Common.{◌≡◌, length, take}
use Rattle.rules.specs.Called.{HasCallers}
use Rattle.rules.proofs.callers.add_callers.Given as goal

-- the callees so far have the caller
abbrev pub invariant-loop-callee : goal.invariant-loop-callee
invariant-loop-callee l = record {
  size : length l.rows ≡ length l.fn.rows;
  added : HasCallers l.fn.rows l.rows (take l.callee-index l.callees) l.caller;
}
