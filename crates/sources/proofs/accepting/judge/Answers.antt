use Rattle.sources.proofs.accepting.judge.Goals as goal

pub returns-in-Ok : goal.returns-in-Ok
returns-in-Ok c = λ file is. (c.in-Ok.ensures file is).accepted
