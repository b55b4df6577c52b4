use Rattle.std.proofs.Common.{refl, sym, subst}
use Rattle.std.specs.Prelude.{Err, OnErr}
use Rattle.machine.specs.Standing.{program_run, StandsFor, IsSame}
use Rattle.semantics.specs.Step.{outcome}
use Rattle.library.specs.Watching.{IsGuarded, IsWatchedTurn}
use Rattle.library.proofs.WatchedSteps.{guarded, still, more, never_bare, refused}
use Rattle.library.proofs.watched.Watched.step.Goals as goal

pub invariant_of-self : goal.invariant_of-self
invariant_of-self c =
    let old = c.self.inside.machine in
    let new = c.step.new.self in
    still new old c.self.inside.steps.items c.self.inside.steps.items (subst (λ r. OnErr r (IsSame new old)) c.unwrap_err.ensures c.step.ensures.kept) refl c.self.invariant

pub returns-in_default-clause-shown : goal.returns-in_default-clause-shown
returns-in_default-clause-shown c =
    let old = c.self.inside.machine in
    let new = c.step.new.self in
    guarded new c.self.inside.steps.items
    (still new old c.self.inside.steps.items c.self.inside.steps.items (subst (λ r. OnErr r (IsSame new old)) c.unwrap_err.ensures c.step.ensures.kept) refl c.self.invariant)

pub invariant_of-self-in-Ok : goal.invariant_of-self-in-Ok
invariant_of-self-in-Ok c =
    more c.self.inside.machine c.step-2.new.self c.self.inside.steps.items c.list.new.steps.items c.args.thread c.in-Ok.ensures.turn c.in-Ok.ensures.program c.in-Ok.ensures.counted c.in_ok-list.ensures.ok c.self.invariant

pub returns-in-Ok-clause-shown : goal.returns-in-Ok-clause-shown
returns-in-Ok-clause-shown c =
    guarded c.step-2.new.self c.list.new.steps.items
    (more c.self.inside.machine c.step-2.new.self c.self.inside.steps.items c.list.new.steps.items c.args.thread c.in-Ok.ensures.turn c.in-Ok.ensures.program c.in-Ok.ensures.counted c.in_ok-list.ensures.ok c.self.invariant)

pub returns-in-Ok-clause-guarded : goal.returns-in-Ok-clause-guarded
returns-in-Ok-clause-guarded c = never_bare c.self.inside.machine c.self.inside.steps.items c.args.thread c.in-Some.kind c.self.invariant c.in-Some.ensures

pub invariant_of-self-in-Err : goal.invariant_of-self-in-Err
invariant_of-self-in-Err c = still c.step-2.new.self c.self.inside.machine c.unlist.new.steps.items c.self.inside.steps.items c.in-Err.ensures.kept (c.unlist.ensures c.self.inside.steps.items c.args.thread c.in_ok-list.ensures.ok) c.self.invariant

pub returns-in-Err-clause-shown : goal.returns-in-Err-clause-shown
returns-in-Err-clause-shown c =
    guarded c.step-2.new.self c.unlist.new.steps.items (still c.step-2.new.self c.self.inside.machine c.unlist.new.steps.items c.self.inside.steps.items c.in-Err.ensures.kept (c.unlist.ensures c.self.inside.steps.items c.args.thread c.in_ok-list.ensures.ok) c.self.invariant)

pub returns-in-Err-clause-turn : goal.returns-in-Err-clause-turn
returns-in-Err-clause-turn c q stands =
    subst (λ w. IsWatchedTurn c.args.thread (Err c.in-Err.why) c.step-2.new.self q (outcome (program_run w.0) q c.args.thread)) c.self.view_is
    (refused c.args.thread c.in-Err.why c.step-2.new.self q _ (c.in-Err.ensures.turn q (subst (λ w. StandsFor w.0 q) (sym c.self.view_is) stands)))

pub returns-in_err-list-clause-shown : goal.returns-in_err-list-clause-shown
returns-in_err-list-clause-shown c =
    subst (IsGuarded c.self.inside.machine) (sym c.in_err-list.ensures.kept) (guarded c.self.inside.machine c.self.inside.steps.items c.self.invariant)
