use Rattle.typing.proofs.Complete.{program_there, one_core}
use Rattle.typing.proofs.elaboration_laws.core_program_laws.Goals as goal

pub returns-clause-some : goal.returns-clause-some
returns-clause-some c = λ tree none. let p = program_there tree none in (p.0, record { faultless = none; core = p.1 })

pub returns-clause-one : goal.returns-clause-one
returns-clause-one c = one_core
