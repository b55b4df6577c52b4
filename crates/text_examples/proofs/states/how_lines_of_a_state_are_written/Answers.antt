use Rattle.std.proofs.Common.{refl}
use Rattle.std.specs.Fmt.{digits}
use Rattle.text_examples.proofs.states.how_lines_of_a_state_are_written.Goals as goal

pub returns-clause-print : goal.returns-clause-print
unfolding digits
returns-clause-print c = refl

pub returns-clause-fields : goal.returns-clause-fields
unfolding digits
returns-clause-fields c = refl

pub returns-clause-lock : goal.returns-clause-lock
unfolding digits
returns-clause-lock c = refl

pub returns-clause-statuses : goal.returns-clause-statuses
unfolding digits
returns-clause-statuses c = refl

pub returns-clause-no_frame : goal.returns-clause-no_frame
unfolding digits
returns-clause-no_frame c = refl

pub returns-clause-thread : goal.returns-clause-thread
unfolding digits
returns-clause-thread c = refl

pub returns-clause-threads : goal.returns-clause-threads
unfolding digits
returns-clause-threads c = refl

pub returns-clause-object : goal.returns-clause-object
unfolding digits
returns-clause-object c = refl

pub returns-clause-object_of_no_class : goal.returns-clause-object_of_no_class
unfolding digits
returns-clause-object_of_no_class c = refl
