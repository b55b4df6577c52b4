use Rattle.replay.proofs.Neat.{neat_of}
use Rattle.replay.proofs.Schedules.{call_replayed}
use Rattle.replay.proofs.laws.replay_laws.Goals as goal

pub returns : goal.returns
returns c P typed s alone short place k t q r call = call_replayed P typed (neat_of P typed) s alone short place k t q r call
