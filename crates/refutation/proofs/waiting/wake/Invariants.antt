use Rattle.std.proofs.Common.{◌≡◌, length, take}
use Rattle.refutation.specs.Waiting.{AreWoken}
use Rattle.refutation.proofs.waiting.wake.Given as goal

-- the methods so far wait
abbrev pub invariant-loop-method : goal.invariant-loop-method
invariant-loop-method l = record {
  size : length l.waits ≡ length l.fn.waits;
  woken : AreWoken l.fn.waits l.waits (take l.method-index l.methods);
}
