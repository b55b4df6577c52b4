use Rattle.std.proofs.Common.{refl}
use Rattle.books.specs.Combine.{several}
use Rattle.books.specs.Reading.{number_at, path_at, leaf_at}
use Rattle.refutation.specs.Reading.{later_path, held_at, line_at, count_at, end_at, blame_at}
use Rattle.text_examples.proofs.certificates.how_certificates_are_read.Goals as goal

pub returns-clause-first_path : goal.returns-clause-first_path
unfolding several number_at path_at leaf_at later_path held_at line_at count_at end_at blame_at
returns-clause-first_path c = refl

pub returns-clause-later_path : goal.returns-clause-later_path
unfolding several number_at path_at leaf_at later_path held_at line_at count_at end_at blame_at
returns-clause-later_path c = refl

pub returns-clause-same_path : goal.returns-clause-same_path
unfolding several number_at path_at leaf_at later_path held_at line_at count_at end_at blame_at
returns-clause-same_path c = refl

pub returns-clause-earlier_path : goal.returns-clause-earlier_path
unfolding several number_at path_at leaf_at later_path held_at line_at count_at end_at blame_at
returns-clause-earlier_path c = refl

pub returns-clause-paths : goal.returns-clause-paths
unfolding several number_at path_at leaf_at later_path held_at line_at count_at end_at blame_at
returns-clause-paths c = refl

pub returns-clause-no_paths : goal.returns-clause-no_paths
unfolding several number_at path_at leaf_at later_path held_at line_at count_at end_at blame_at
returns-clause-no_paths c = refl

pub returns-clause-falling_paths : goal.returns-clause-falling_paths
unfolding several number_at path_at leaf_at later_path held_at line_at count_at end_at blame_at
returns-clause-falling_paths c = refl

pub returns-clause-line : goal.returns-clause-line
unfolding several number_at path_at leaf_at later_path held_at line_at count_at end_at blame_at
returns-clause-line c = refl

pub returns-clause-last_method : goal.returns-clause-last_method
unfolding several number_at path_at leaf_at later_path held_at line_at count_at end_at blame_at
returns-clause-last_method c = refl

pub returns-clause-method_past_the_end : goal.returns-clause-method_past_the_end
unfolding several number_at path_at leaf_at later_path held_at line_at count_at end_at blame_at
returns-clause-method_past_the_end c = refl

pub returns-clause-last_count : goal.returns-clause-last_count
unfolding several number_at path_at leaf_at later_path held_at line_at count_at end_at blame_at
returns-clause-last_count c = refl

pub returns-clause-count_past_the_end : goal.returns-clause-count_past_the_end
unfolding several number_at path_at leaf_at later_path held_at line_at count_at end_at blame_at
returns-clause-count_past_the_end c = refl

pub returns-clause-all : goal.returns-clause-all
unfolding several number_at path_at leaf_at later_path held_at line_at count_at end_at blame_at
returns-clause-all c = refl
