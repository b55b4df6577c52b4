use Rattle.std.proofs.Common.{refl}
use Rattle.books.specs.Reading.{number_at}
use Rattle.level_check.specs.Reading.{name_at, level_at}
use Rattle.text_examples.proofs.level_texts.how_levels_are_read.Goals as goal

pub returns-clause-name : goal.returns-clause-name
unfolding number_at name_at level_at
returns-clause-name c = refl

pub returns-clause-no_name : goal.returns-clause-no_name
unfolding number_at name_at level_at
returns-clause-no_name c = refl

pub returns-clause-no_blank : goal.returns-clause-no_blank
unfolding number_at name_at level_at
returns-clause-no_blank c = refl

pub returns-clause-level : goal.returns-clause-level
unfolding number_at name_at level_at
returns-clause-level c = refl

pub returns-clause-last_level : goal.returns-clause-last_level
unfolding number_at name_at level_at
returns-clause-last_level c = refl

pub returns-clause-level_past_the_end : goal.returns-clause-level_past_the_end
unfolding number_at name_at level_at
returns-clause-level_past_the_end c = refl

pub returns-clause-zero : goal.returns-clause-zero
unfolding number_at name_at level_at
returns-clause-zero c = refl

pub returns-clause-leading_zero : goal.returns-clause-leading_zero
unfolding number_at name_at level_at
returns-clause-leading_zero c = refl

pub returns-clause-no_end : goal.returns-clause-no_end
unfolding number_at name_at level_at
returns-clause-no_end c = refl
