use Rattle.schedule.proofs.Counted.{generated_once, generated_size}
use Rattle.schedule.proofs.Growing.{source_size}
use Rattle.schedule.proofs.generation_laws.generated_laws.Goals as goal

pub returns-clause-one : goal.returns-clause-one
returns-clause-one c = generated_once

pub returns-clause-size : goal.returns-clause-size
returns-clause-size c = generated_size

pub returns-clause-source_size : goal.returns-clause-source_size
returns-clause-source_size c = source_size
