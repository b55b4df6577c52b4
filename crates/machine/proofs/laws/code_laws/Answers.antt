use Rattle.machine.proofs.Runs.{step_like, kind_like, initial_like}
use Rattle.machine.proofs.laws.code_laws.Goals as goal

pub returns-clause-start : goal.returns-clause-start
returns-clause-start c = initial_like

pub returns-clause-step : goal.returns-clause-step
returns-clause-step c P code entry room s q t is_code h = step_like P code entry room is_code s q t h

pub returns-clause-kind : goal.returns-clause-kind
returns-clause-kind c P code entry room s q t is_code h = kind_like P code entry room is_code s q t h
