use Rattle.std.proofs.Common.{subst}
use Rattle.library.specs.Watching.{IsGuarded}
use Rattle.library.proofs.WatchedSteps.{guarded}
use Rattle.library.proofs.watched.Watched.steps.Goals as goal

pub returns-clause-shown : goal.returns-clause-shown
returns-clause-shown c = subst (λ w. IsGuarded w.0 w.1) c.self.view_is (guarded c.self.inside.machine c.self.inside.steps.items c.self.invariant)
