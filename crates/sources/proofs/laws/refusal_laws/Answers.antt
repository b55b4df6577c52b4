use Rattle.sources.proofs.Apart.{no_program_is_none, no_source_is_none, no_accepted_is, accepted_or_none}
use Rattle.sources.proofs.laws.refusal_laws.Goals as goal

pub returns-clause-program : goal.returns-clause-program
returns-clause-program c = λ file line ending is. no_program_is_none file ending line is

pub returns-clause-source : goal.returns-clause-source
returns-clause-source c = λ file line ending is. no_source_is_none file ending line is

pub returns-clause-accepted : goal.returns-clause-accepted
returns-clause-accepted c = λ file line ending is. no_accepted_is file ending line is

pub returns-clause-apart : goal.returns-clause-apart
returns-clause-apart c = λ file a n. accepted_or_none file a n
