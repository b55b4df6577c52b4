use Rattle.std.proofs.Common.{[], ap}
use Rattle.replay.specs.Answers.{then_do, completed_normally, in_turn}
use Rattle.replay.specs.Evaluation.{take_lock, locked, start_thread, lower_of, stmt}
use Rattle.core_program.specs.Core.{WhileS, SyncS, EmptyS}
use Rattle.semantics.specs.Step.{object_class, run_of}
use Rattle.core_examples.specs.Fields.{path}
use Rattle.core_examples.specs.Seen.{here, there, four_fields}
use Rattle.text_examples.specs.Plain.{quiet, own_slots, yes}
use Rattle.text_examples.proofs.Found.{lock_is, object_is}
use Rattle.text_examples.proofs.evaluation.how_statements_end.Goals as goal

pub returns-clause-thread_of_turns : goal.returns-clause-thread_of_turns
returns-clause-thread_of_turns c =
    ap (λ h. in_turn (then_do (take_lock 5 there h quiet) (λ _ r. locked 5 there (completed_normally own_slots r)))
    (λ after r. stmt four_fields 5 (lower_of four_fields 5 1) 7 (WhileS yes (SyncS (path 3 []) EmptyS)) after r)) lock_is

pub returns-clause-held_lock : goal.returns-clause-held_lock
returns-clause-held_lock c = ap (λ h. then_do (take_lock 5 there h quiet) (λ _ r. locked 5 there (completed_normally own_slots r))) lock_is

pub returns-clause-started : goal.returns-clause-started
returns-clause-started c = ap (λ o. then_do (start_thread here (run_of four_fields (object_class o)) quiet) (λ _ s. completed_normally own_slots s)) object_is
