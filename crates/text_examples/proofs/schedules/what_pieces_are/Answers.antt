use Rattle.std.proofs.Common.{refl}
use Rattle.std.specs.Fmt.{digits}
use Rattle.text_examples.proofs.schedules.what_pieces_are.Goals as goal

pub returns-clause-spelled : goal.returns-clause-spelled
unfolding digits
returns-clause-spelled c = refl

pub returns-clause-text : goal.returns-clause-text
unfolding digits
returns-clause-text c = refl
