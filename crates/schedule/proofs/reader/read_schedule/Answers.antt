-- A text has one answer.
use Rattle.schedule.proofs.UniqueLemmas.{only_schedule, only_form, only_too_long}
use Rattle.schedule.proofs.reader.read_schedule.Goals as goal

pub returns-clause-only_schedule : goal.returns-clause-only_schedule
returns-clause-only_schedule c = only_schedule c.args.bytes.now c.read_pieces.result c.read_pieces.ensures

pub returns-clause-only_form : goal.returns-clause-only_form
returns-clause-only_form c = only_form c.args.bytes.now c.read_pieces.result c.read_pieces.ensures

pub returns-clause-only_too_long : goal.returns-clause-only_too_long
returns-clause-only_too_long c = only_too_long c.args.bytes.now c.read_pieces.result c.read_pieces.ensures
