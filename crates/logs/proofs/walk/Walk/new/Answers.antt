use Rattle.logs.proofs.walk.Walk.new.Goals as goal

pub returns : goal.returns
returns c = λ i. record { known = c.new.ensures i; row = c.new-3.ensures.items i; line = 1 }
