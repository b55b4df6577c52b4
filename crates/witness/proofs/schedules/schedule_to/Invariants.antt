use Rattle.witness.proofs.ScheduleLemmas.{IsFollowedBack}
use Rattle.witness.proofs.schedules.schedule_to.Given as goal

abbrev pub decreases-nodes : goal.decreases-nodes
decreases-nodes l = l.at

abbrev pub invariant-nodes : goal.invariant-nodes
invariant-nodes l = IsFollowedBack l.nodes l.place l.at l.schedule.items
