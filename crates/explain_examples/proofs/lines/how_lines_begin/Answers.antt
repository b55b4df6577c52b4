use Rattle.std.proofs.Common.{refl}
use Rattle.std.specs.Fmt.{digits}
use Rattle.explain_examples.proofs.lines.how_lines_begin.Goals as goal

pub returns-clause-places : goal.returns-clause-places
unfolding digits
returns-clause-places c = refl

pub returns-clause-kinds : goal.returns-clause-kinds
unfolding digits
returns-clause-kinds c = refl

pub returns-clause-notes : goal.returns-clause-notes
unfolding digits
returns-clause-notes c = refl

pub returns-clause-line : goal.returns-clause-line
unfolding digits
returns-clause-line c = refl
