use Rattle.replay.proofs.Giving.{given_of}
use Rattle.replay.proofs.laws.told_laws.Goals as goal

pub returns : goal.returns
returns c P typed s alone short told is = given_of P s told is typed alone short
