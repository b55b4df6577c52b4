use Rattle.semantics.proofs.WordLemmas.{reducible_is, is_reducible_of, prefix_is, is_prefix}
use Rattle.semantics.proofs.laws.word_laws.Goals as goal

pub returns-clause-test : goal.returns-clause-test
returns-clause-test c word = (reducible_is word, is_reducible_of word)

pub returns-clause-prefix : goal.returns-clause-prefix
returns-clause-prefix c word = (prefix_is word, is_prefix word)
