use Rattle.logs.proofs.Numbered.{number-inj}
use Rattle.logs.proofs.laws_of_tables.numbers_tell_words_apart.Goals as goal

-- src/laws.rt:6:1
pub returns : goal.returns
returns c = number-inj
