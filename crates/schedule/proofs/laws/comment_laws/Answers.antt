-- Comments behind a schedule.
use Rattle.schedule.proofs.CommentLemmas.{same_schedule, written_ends}
use Rattle.schedule.proofs.laws.comment_laws.Goals as goal

pub returns-clause-same : goal.returns-clause-same
returns-clause-same c = same_schedule

pub returns-clause-written : goal.returns-clause-written
returns-clause-written c = written_ends
