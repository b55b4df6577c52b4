use Rattle.std.proofs.Common.{refl}
use Rattle.books.specs.Combine.{several}
use Rattle.books.specs.Reading.{number_at, path_at, leaf_at, tree_at, canonical_at, word_at_front, node_at, line_at, count_at, lines_at, book_at}
use Rattle.text_examples.proofs.book_texts.how_books_are_read.Goals as goal

pub returns-clause-number : goal.returns-clause-number
unfolding several number_at path_at leaf_at tree_at canonical_at word_at_front node_at line_at count_at lines_at book_at
returns-clause-number c = refl

pub returns-clause-number_past_the_end : goal.returns-clause-number_past_the_end
unfolding several number_at path_at leaf_at tree_at canonical_at word_at_front node_at line_at count_at lines_at book_at
returns-clause-number_past_the_end c = refl

pub returns-clause-no_number : goal.returns-clause-no_number
unfolding several number_at path_at leaf_at tree_at canonical_at word_at_front node_at line_at count_at lines_at book_at
returns-clause-no_number c = refl

pub returns-clause-zero : goal.returns-clause-zero
unfolding several number_at path_at leaf_at tree_at canonical_at word_at_front node_at line_at count_at lines_at book_at
returns-clause-zero c = refl

pub returns-clause-this : goal.returns-clause-this
unfolding several number_at path_at leaf_at tree_at canonical_at word_at_front node_at line_at count_at lines_at book_at
returns-clause-this c = refl

pub returns-clause-two_fields : goal.returns-clause-two_fields
unfolding several number_at path_at leaf_at tree_at canonical_at word_at_front node_at line_at count_at lines_at book_at
returns-clause-two_fields c = refl

pub returns-clause-last_root : goal.returns-clause-last_root
unfolding several number_at path_at leaf_at tree_at canonical_at word_at_front node_at line_at count_at lines_at book_at
returns-clause-last_root c = refl

pub returns-clause-root_past_the_end : goal.returns-clause-root_past_the_end
unfolding several number_at path_at leaf_at tree_at canonical_at word_at_front node_at line_at count_at lines_at book_at
returns-clause-root_past_the_end c = refl

pub returns-clause-field_past_the_end : goal.returns-clause-field_past_the_end
unfolding several number_at path_at leaf_at tree_at canonical_at word_at_front node_at line_at count_at lines_at book_at
returns-clause-field_past_the_end c = refl

pub returns-clause-leaf : goal.returns-clause-leaf
unfolding several number_at path_at leaf_at tree_at canonical_at word_at_front node_at line_at count_at lines_at book_at
returns-clause-leaf c = refl

pub returns-clause-half_a_leaf : goal.returns-clause-half_a_leaf
unfolding several number_at path_at leaf_at tree_at canonical_at word_at_front node_at line_at count_at lines_at book_at
returns-clause-half_a_leaf c = refl

pub returns-clause-tree : goal.returns-clause-tree
unfolding several number_at path_at leaf_at tree_at canonical_at word_at_front node_at line_at count_at lines_at book_at
returns-clause-tree c = refl

pub returns-clause-too_deep : goal.returns-clause-too_deep
unfolding several number_at path_at leaf_at tree_at canonical_at word_at_front node_at line_at count_at lines_at book_at
returns-clause-too_deep c = refl

pub returns-clause-canonical : goal.returns-clause-canonical
unfolding several number_at path_at leaf_at tree_at canonical_at word_at_front node_at line_at count_at lines_at book_at
returns-clause-canonical c = refl

pub returns-clause-not_canonical : goal.returns-clause-not_canonical
unfolding several number_at path_at leaf_at tree_at canonical_at word_at_front node_at line_at count_at lines_at book_at
returns-clause-not_canonical c = refl

pub returns-clause-word : goal.returns-clause-word
unfolding several number_at path_at leaf_at tree_at canonical_at word_at_front node_at line_at count_at lines_at book_at
returns-clause-word c = refl

pub returns-clause-no_word : goal.returns-clause-no_word
unfolding several number_at path_at leaf_at tree_at canonical_at word_at_front node_at line_at count_at lines_at book_at
returns-clause-no_word c = refl

pub returns-clause-node : goal.returns-clause-node
unfolding several number_at path_at leaf_at tree_at canonical_at word_at_front node_at line_at count_at lines_at book_at
returns-clause-node c = refl

pub returns-clause-conclusion_past_the_table : goal.returns-clause-conclusion_past_the_table
unfolding several number_at path_at leaf_at tree_at canonical_at word_at_front node_at line_at count_at lines_at book_at
returns-clause-conclusion_past_the_table c = refl

pub returns-clause-nodes_too_deep : goal.returns-clause-nodes_too_deep
unfolding several number_at path_at leaf_at tree_at canonical_at word_at_front node_at line_at count_at lines_at book_at
returns-clause-nodes_too_deep c = refl

pub returns-clause-no_room_and_no_node : goal.returns-clause-no_room_and_no_node
unfolding several number_at path_at leaf_at tree_at canonical_at word_at_front node_at line_at count_at lines_at book_at
returns-clause-no_room_and_no_node c = refl

pub returns-clause-no_room : goal.returns-clause-no_room
unfolding several number_at path_at leaf_at tree_at canonical_at word_at_front node_at line_at count_at lines_at book_at
returns-clause-no_room c = refl

pub returns-clause-last_method : goal.returns-clause-last_method
unfolding several number_at path_at leaf_at tree_at canonical_at word_at_front node_at line_at count_at lines_at book_at
returns-clause-last_method c = refl

pub returns-clause-method_past_the_end : goal.returns-clause-method_past_the_end
unfolding several number_at path_at leaf_at tree_at canonical_at word_at_front node_at line_at count_at lines_at book_at
returns-clause-method_past_the_end c = refl

pub returns-clause-last_count : goal.returns-clause-last_count
unfolding several number_at path_at leaf_at tree_at canonical_at word_at_front node_at line_at count_at lines_at book_at
returns-clause-last_count c = refl

pub returns-clause-count_past_the_end : goal.returns-clause-count_past_the_end
unfolding several number_at path_at leaf_at tree_at canonical_at word_at_front node_at line_at count_at lines_at book_at
returns-clause-count_past_the_end c = refl

pub returns-clause-several : goal.returns-clause-several
unfolding several number_at path_at leaf_at tree_at canonical_at word_at_front node_at line_at count_at lines_at book_at
returns-clause-several c = refl

pub returns-clause-line : goal.returns-clause-line
unfolding several number_at path_at leaf_at tree_at canonical_at word_at_front node_at line_at count_at lines_at book_at
returns-clause-line c = refl

pub returns-clause-count : goal.returns-clause-count
unfolding several number_at path_at leaf_at tree_at canonical_at word_at_front node_at line_at count_at lines_at book_at
returns-clause-count c = refl

pub returns-clause-book : goal.returns-clause-book
unfolding several number_at path_at leaf_at tree_at canonical_at word_at_front node_at line_at count_at lines_at book_at
returns-clause-book c = refl
