use Rattle.std.proofs.Common.{pos, [], ◌∷◌, Some, None}
use Rattle.state.specs.declared.value.Value.TheVariants.{Int}
use Rattle.text_examples.specs.Plain.{gives_depth, gives_slot}
use Rattle.text_examples.proofs.Found.{call_is}
use Rattle.text_examples.proofs.evaluation.what_calls_give.Goals as goal

pub returns-clause-no_method_of_the_class : goal.returns-clause-no_method_of_the_class
returns-clause-no_method_of_the_class c = call_is (Some gives_depth) 1 (Int (pos 1) ∷ Int (pos 2) ∷ [])

pub returns-clause-no_turns : goal.returns-clause-no_turns
returns-clause-no_turns c = call_is None 0 (Int (pos 1) ∷ Int (pos 2) ∷ [])

pub returns-clause-deeper : goal.returns-clause-deeper
returns-clause-deeper c = call_is (Some gives_depth) 0 (Int (pos 1) ∷ Int (pos 2) ∷ [])

pub returns-clause-receiver : goal.returns-clause-receiver
returns-clause-receiver c = call_is (Some (gives_slot 0)) 0 (Int (pos 1) ∷ Int (pos 2) ∷ [])

pub returns-clause-second_argument : goal.returns-clause-second_argument
returns-clause-second_argument c = call_is (Some (gives_slot 2)) 0 (Int (pos 1) ∷ Int (pos 2) ∷ [])
