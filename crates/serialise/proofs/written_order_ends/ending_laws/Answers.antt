use Rattle.serialise.proofs.Endings.{runs_or_stops, runs_not_stops, stops_once}
use Rattle.serialise.proofs.written_order_ends.ending_laws.Goals as goal

pub returns-clause-either : goal.returns-clause-either
returns-clause-either c = runs_or_stops

pub returns-clause-runs : goal.returns-clause-runs
returns-clause-runs c = runs_not_stops

pub returns-clause-once : goal.returns-clause-once
returns-clause-once c = stops_once
