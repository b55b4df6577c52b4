use Rattle.state.proofs.Numbering.{numbered_new, numbered_written, next_free}
use Rattle.state.proofs.laws.numbering_laws.Goals as goal

pub returns-clause-new : goal.returns-clause-new
returns-clause-new c heap t o numbered = numbered_new heap t o numbered

pub returns-clause-written : goal.returns-clause-written
returns-clause-written c heap a index v numbered = numbered_written heap a index v numbered

pub returns-clause-free : goal.returns-clause-free
returns-clause-free c heap t numbered = next_free heap t numbered
