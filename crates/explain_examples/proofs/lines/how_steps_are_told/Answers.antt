use Rattle.std.proofs.Common.{refl}
use Rattle.std.specs.Fmt.{digits}
use Rattle.explain_examples.proofs.lines.how_steps_are_told.Goals as goal

pub returns-clause-step : goal.returns-clause-step
unfolding digits
returns-clause-step c = refl

pub returns-clause-help : goal.returns-clause-help
unfolding digits
returns-clause-help c = refl

pub returns-clause-note : goal.returns-clause-note
unfolding digits
returns-clause-note c = refl

pub returns-clause-overridden : goal.returns-clause-overridden
unfolding digits
returns-clause-overridden c = refl

pub returns-clause-two : goal.returns-clause-two
unfolding digits
returns-clause-two c = refl

pub returns-clause-two_helps : goal.returns-clause-two_helps
unfolding digits
returns-clause-two_helps c = refl

pub returns-clause-looped : goal.returns-clause-looped
unfolding digits
returns-clause-looped c = refl

pub returns-clause-looped_around : goal.returns-clause-looped_around
unfolding digits
returns-clause-looped_around c = refl

pub returns-clause-compound_around : goal.returns-clause-compound_around
unfolding digits
returns-clause-compound_around c = refl

pub returns-clause-compound : goal.returns-clause-compound
unfolding digits
returns-clause-compound c = refl

pub returns-clause-beside : goal.returns-clause-beside
unfolding digits
returns-clause-beside c = refl

pub returns-clause-lock_beside : goal.returns-clause-lock_beside
unfolding digits
returns-clause-lock_beside c = refl

pub returns-clause-both : goal.returns-clause-both
unfolding digits
returns-clause-both c = refl

pub returns-clause-one_stays : goal.returns-clause-one_stays
unfolding digits
returns-clause-one_stays c = refl

pub returns-clause-other_stays : goal.returns-clause-other_stays
unfolding digits
returns-clause-other_stays c = refl

pub returns-clause-none_stays : goal.returns-clause-none_stays
unfolding digits
returns-clause-none_stays c = refl
