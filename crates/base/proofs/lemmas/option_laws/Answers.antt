use Rattle.base.proofs.Options.{then_parts, if_taken, choice_same}
use Rattle.base.proofs.lemmas.option_laws.Goals as goal

pub returns : goal.returns
returns g c = record { both = then_parts; same = choice_same; taken = if_taken }
