use Rattle.std.proofs.Common.{refl}
use Rattle.books.specs.Combine.{several}
use Rattle.books.specs.Reading.{number_at, path_at, leaf_at}
use Rattle.refutation.specs.Reading.{later_path, held_at, line_at, count_at, end_at, blame_at}
use Rattle.text_examples.proofs.certificates.which_fault_of_a_certificate_is_first.Goals as goal

pub returns-clause-none : goal.returns-clause-none
unfolding several number_at path_at leaf_at later_path held_at line_at count_at end_at blame_at
returns-clause-none c = refl

pub returns-clause-nothing : goal.returns-clause-nothing
unfolding several number_at path_at leaf_at later_path held_at line_at count_at end_at blame_at
returns-clause-nothing c = refl

pub returns-clause-empty : goal.returns-clause-empty
unfolding several number_at path_at leaf_at later_path held_at line_at count_at end_at blame_at
returns-clause-empty c = refl

pub returns-clause-ends_early : goal.returns-clause-ends_early
unfolding several number_at path_at leaf_at later_path held_at line_at count_at end_at blame_at
returns-clause-ends_early c = refl

pub returns-clause-goes_on : goal.returns-clause-goes_on
unfolding several number_at path_at leaf_at later_path held_at line_at count_at end_at blame_at
returns-clause-goes_on c = refl

pub returns-clause-one_line_less : goal.returns-clause-one_line_less
unfolding several number_at path_at leaf_at later_path held_at line_at count_at end_at blame_at
returns-clause-one_line_less c = refl

pub returns-clause-one_line_more : goal.returns-clause-one_line_more
unfolding several number_at path_at leaf_at later_path held_at line_at count_at end_at blame_at
returns-clause-one_line_more c = refl

pub returns-clause-basic : goal.returns-clause-basic
unfolding several number_at path_at leaf_at later_path held_at line_at count_at end_at blame_at
returns-clause-basic c = refl

pub returns-clause-falling_paths : goal.returns-clause-falling_paths
unfolding several number_at path_at leaf_at later_path held_at line_at count_at end_at blame_at
returns-clause-falling_paths c = refl
