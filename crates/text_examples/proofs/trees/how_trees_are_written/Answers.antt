use Rattle.std.proofs.Common.{refl}
use Rattle.std.specs.Fmt.{digits}
use Rattle.text_examples.proofs.trees.how_trees_are_written.Goals as goal

pub returns-clause-path_of_this : goal.returns-clause-path_of_this
unfolding digits
returns-clause-path_of_this c = refl

pub returns-clause-longer_path : goal.returns-clause-longer_path
unfolding digits
returns-clause-longer_path c = refl

pub returns-clause-test : goal.returns-clause-test
unfolding digits
returns-clause-test c = refl

pub returns-clause-tests : goal.returns-clause-tests
unfolding digits
returns-clause-tests c = refl

pub returns-clause-in_the_first_branch : goal.returns-clause-in_the_first_branch
unfolding digits
returns-clause-in_the_first_branch c = refl
