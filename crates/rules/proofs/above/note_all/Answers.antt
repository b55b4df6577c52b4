-- One step more.
use Rattle.std.proofs.Common.{get_or}
use Rattle.std.proofs.lemmas.Option.{slice_get-get_or}
use Rattle.forest.specs.declared.steps.Step.TheVariants.{Down}
use Rattle.rules.proofs.AboveLemmas.{walking_at, walking_on}
use Rattle.rules.proofs.above.note_all.Goals as goal

pub go-requires : goal.go-requires
go-requires c =
    let steps = c.args.steps.now in
    let i = c.loop-step.step-index in
    walking_at c.args.program.now steps i (get_or steps i (Down 0)) c.loop-step.depth c.loop-step.current c.loop-step.noted (slice_get-get_or steps i (Down 0) c.loop-step-test.true) c.loop-step.invariant

pub loop-step-preserved : goal.loop-step-preserved
loop-step-preserved c =
    let steps = c.args.steps.now in
    let i = c.loop-step.step-index in
    walking_on c.args.program.now steps i (get_or steps i (Down 0)) c.loop-step.depth c.in-Some.next c.loop-step.current c.loop-step.noted c.go.new.current c.go.new.noted
    (slice_get-get_or steps i (Down 0) c.loop-step-test.true) c.loop-step.invariant c.in-Some.ensures.at
