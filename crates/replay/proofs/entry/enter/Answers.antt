use Rattle.std.proofs.Common.{◌≡◌, ap, subst, ◌∙◌, length}
use Rattle.std.specs.Prelude.{MatchResult}
use Rattle.core_program.specs.Views.{program_of}
use Rattle.semantics.specs.Step.{outcome}
use Rattle.machine.specs.Standing.{program_run}
use Rattle.replay.specs.Scanning as scan
use Rattle.serialise.specs.Tables.{value_or}
use Rattle.replay.specs.Views.{all_told_in, open_of, IsDeepEnd}
use Rattle.replay.proofs.Replaying.{on_ok, was_made}
use Rattle.replay.proofs.entry.enter.Goals as goal

pub returns-in-Ok-clause-next : goal.returns-in-Ok-clause-next
returns-in-Ok-clause-next c q r stands are e =
    let P = program_run c.args.machine.now in
    let t = c.args.thread in
    let made = was_made P t q r c.make_step.new.machine c.in-Ok.step (value_or 0 c.make_step.new.calls.items) (outcome P q t) (c.in-Ok.ensures.made q stands are) e in
    subst (λ b. MatchResult c.adds.result (λ a. scan.next_by P q r c.args.entry t (open_of c.args.opened) b ≡ scan.Goes (open_of a.open) (all_told_in a.told)) (λ end. IsDeepEnd end (scan.next_by P q r c.args.entry t (open_of c.args.opened) b))) made.0
    (subst (λ p. MatchResult c.adds.result (λ a. scan.next_by p q r c.args.entry t (open_of c.args.opened) c.in-Ok.step.inside ≡ scan.Goes (open_of a.open) (all_told_in a.told)) (λ end. IsDeepEnd end (scan.next_by p q r c.args.entry t (open_of c.args.opened) c.in-Ok.step.inside)))
    (ap program_of c.in-Ok.ensures.program)
    (c.adds.ensures q r (ap (λ x. x.frames) (c.sight_at-frames.ensures q stands)) (ap length (c.output-printed.ensures ∙ stands.output)) made.1))

pub returns-in-Ok-clause-stands : goal.returns-in-Ok-clause-stands
returns-in-Ok-clause-stands c = on_ok c.adds.result (λ q r stands are e.
    let P = program_run c.args.machine.now in
    let t = c.args.thread in
    let made = was_made P t q r c.make_step.new.machine c.in-Ok.step (value_or 0 c.make_step.new.calls.items) (outcome P q t) (c.in-Ok.ensures.made q stands are) e in
    (made.1, made.2))
