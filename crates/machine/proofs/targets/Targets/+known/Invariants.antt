use Rattle.machine.proofs.targets.Targets.+known.Given as goal

abbrev pub decreases-known : goal.decreases-known
decreases-known l = l.left
