use Rattle.std.proofs.Common.{false}
use Rattle.reduction.proofs.Phases.{phases_words}
use Rattle.reduction.proofs.held_laws.phases_give_words.Goals as goal

pub returns : goal.returns
returns c es fits n u is call = phases_words es (λ t. false) fits n u is
