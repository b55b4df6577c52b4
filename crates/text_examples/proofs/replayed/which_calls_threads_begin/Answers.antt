use Rattle.std.proofs.Common.{pos, [], ◌∷◌}
use Rattle.state.specs.declared.value.Value.TheVariants.{Int}
use Rattle.text_examples.proofs.Found.{asked_is}
use Rattle.text_examples.proofs.replayed.which_calls_threads_begin.Goals as goal

pub returns-clause-running : goal.returns-clause-running
returns-clause-running c = asked_is (Int (pos 1) ∷ Int (pos 2) ∷ [])
