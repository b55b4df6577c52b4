use Rattle.std.proofs.Common.{pos, [], ◌∷◌}
use Rattle.state.specs.declared.value.Value.TheVariants.{Int}
use Rattle.core_examples.specs.Seen.{seven}
use Rattle.text_examples.proofs.Found.{asked_is}
use Rattle.text_examples.proofs.replayed.which_calls_begin.Goals as goal

pub returns-clause-receiver : goal.returns-clause-receiver
returns-clause-receiver c = asked_is (seven ∷ [])

pub returns-clause-arguments : goal.returns-clause-arguments
returns-clause-arguments c = asked_is (Int (pos 1) ∷ Int (pos 2) ∷ [])

pub returns-clause-action : goal.returns-clause-action
returns-clause-action c = asked_is (Int (pos 1) ∷ Int (pos 2) ∷ [])

pub returns-clause-next : goal.returns-clause-next
returns-clause-next c = asked_is (Int (pos 1) ∷ Int (pos 2) ∷ [])
