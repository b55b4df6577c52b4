use Rattle.std.proofs.Common.{refl, arith}
use Rattle.refutation.specs.Passes.{broke, still, again}
use Rattle.text_examples.proofs.refusals.what_passes_write.Goals as goal

pub returns-clause-written : goal.returns-clause-written
returns-clause-written c = broke refl refl

pub returns-clause-nothing_broken : goal.returns-clause-nothing_broken
returns-clause-nothing_broken c = again _ refl refl (omega arith) (still refl refl refl)
