use Rattle.std.proofs.Common.{refl}
use Rattle.books.specs.Combine.{several}
use Rattle.books.specs.Reading.{number_at, path_at, leaf_at, tree_at, canonical_at, word_at_front, node_at, line_at, count_at, lines_at, book_at}
use Rattle.text_examples.proofs.book_texts.which_fault_of_a_book_is_first.Goals as goal

pub returns-clause-none : goal.returns-clause-none
unfolding several number_at path_at leaf_at tree_at canonical_at word_at_front node_at line_at count_at lines_at book_at
returns-clause-none c = refl

pub returns-clause-nothing : goal.returns-clause-nothing
unfolding several number_at path_at leaf_at tree_at canonical_at word_at_front node_at line_at count_at lines_at book_at
returns-clause-nothing c = refl

pub returns-clause-empty : goal.returns-clause-empty
unfolding several number_at path_at leaf_at tree_at canonical_at word_at_front node_at line_at count_at lines_at book_at
returns-clause-empty c = refl

pub returns-clause-ends_early : goal.returns-clause-ends_early
unfolding several number_at path_at leaf_at tree_at canonical_at word_at_front node_at line_at count_at lines_at book_at
returns-clause-ends_early c = refl

pub returns-clause-goes_on : goal.returns-clause-goes_on
unfolding several number_at path_at leaf_at tree_at canonical_at word_at_front node_at line_at count_at lines_at book_at
returns-clause-goes_on c = refl

pub returns-clause-other_word : goal.returns-clause-other_word
unfolding several number_at path_at leaf_at tree_at canonical_at word_at_front node_at line_at count_at lines_at book_at
returns-clause-other_word c = refl

pub returns-clause-leading_zero : goal.returns-clause-leading_zero
unfolding several number_at path_at leaf_at tree_at canonical_at word_at_front node_at line_at count_at lines_at book_at
returns-clause-leading_zero c = refl

pub returns-clause-too_few_trees : goal.returns-clause-too_few_trees
unfolding several number_at path_at leaf_at tree_at canonical_at word_at_front node_at line_at count_at lines_at book_at
returns-clause-too_few_trees c = refl

pub returns-clause-too_many_trees : goal.returns-clause-too_many_trees
unfolding several number_at path_at leaf_at tree_at canonical_at word_at_front node_at line_at count_at lines_at book_at
returns-clause-too_many_trees c = refl

pub returns-clause-no_canonical_tree : goal.returns-clause-no_canonical_tree
unfolding several number_at path_at leaf_at tree_at canonical_at word_at_front node_at line_at count_at lines_at book_at
returns-clause-no_canonical_tree c = refl

pub returns-clause-no_such_conclusion : goal.returns-clause-no_such_conclusion
unfolding several number_at path_at leaf_at tree_at canonical_at word_at_front node_at line_at count_at lines_at book_at
returns-clause-no_such_conclusion c = refl
