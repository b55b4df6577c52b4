use Rattle.explain.proofs.Telling.{all_refused, all_once, all_explained, all_led}
use Rattle.explain.proofs.laws_of_explanations.explanation_laws.Goals as goal

pub returns : goal.returns
returns c = record { refused = all_refused; once = all_once; explained = all_explained; led = all_led }
