use Rattle.std.proofs.Common.{length}
use Rattle.books.proofs.names.+one_word.Given as goal

abbrev pub decreases-one_word : goal.decreases-one_word
decreases-one_word l = length l.words.now
