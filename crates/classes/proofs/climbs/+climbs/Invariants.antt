use Rattle.classes.proofs.climbs.+climbs.Given as goal

abbrev pub decreases-climbs : goal.decreases-climbs
decreases-climbs l = l.steps
