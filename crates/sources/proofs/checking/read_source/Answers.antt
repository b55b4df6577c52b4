use Rattle.sources.specs.Checking.{NoSource}
use Rattle.sources.proofs.Told.{right_end}
use Rattle.sources.proofs.checking.read_source.Goals as goal

pub returns-in-Err : goal.returns-in-Err
returns-in-Err c = right_end (NoSource c.args.bytes.now) c.in-Err.end c.refusal_of.result c.in-Err.ensures c.refusal_of.ensures
