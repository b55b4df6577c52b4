use Rattle.base.proofs.Digits.{worth}
use Rattle.base.proofs.lemmas.digit_laws.Goals as goal

pub returns : goal.returns
returns c = record { worth = worth }
