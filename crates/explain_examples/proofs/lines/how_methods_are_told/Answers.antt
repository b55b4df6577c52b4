use Rattle.std.proofs.Common.{refl}
use Rattle.std.specs.Fmt.{digits}
use Rattle.explain_examples.proofs.lines.how_methods_are_told.Goals as goal

pub returns-clause-refused : goal.returns-clause-refused
unfolding digits
returns-clause-refused c = refl

pub returns-clause-strict : goal.returns-clause-strict
unfolding digits
returns-clause-strict c = refl

pub returns-clause-compound : goal.returns-clause-compound
unfolding digits
returns-clause-compound c = refl

pub returns-clause-error : goal.returns-clause-error
unfolding digits
returns-clause-error c = refl

pub returns-clause-overrides : goal.returns-clause-overrides
unfolding digits
returns-clause-overrides c = refl

pub returns-clause-around : goal.returns-clause-around
unfolding digits
returns-clause-around c = refl

pub returns-clause-counts : goal.returns-clause-counts
unfolding digits
returns-clause-counts c = refl

pub returns-clause-more : goal.returns-clause-more
unfolding digits
returns-clause-more c = refl
