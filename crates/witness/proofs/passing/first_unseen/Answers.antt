use Rattle.witness.proofs.passing.first_unseen.Goals as goal

pub returns-then-is_alone : goal.returns-then-is_alone
returns-then-is_alone c = (c.is_alone.ensures.allowed c.if-is_alone.true, c.is_alone.ensures.alone c.if-is_alone.true)
