use Rattle.base.proofs.Texts.{kept_itself, kept_more}
use Rattle.base.proofs.lemmas.text_laws.Goals as goal

pub returns : goal.returns
returns g = record { itself = kept_itself; more = kept_more }
