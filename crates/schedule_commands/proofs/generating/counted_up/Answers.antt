-- The exits of `generate`, and what is written.
use Rattle.std.proofs.Common.{ap, ◌∙◌, arith}
use Rattle.std.proofs.lemmas.Result.{err_from_is_err_and}
use Rattle.core_program.specs.Views.{program_of}
use Rattle.schedule.specs.Sources.{generated_source}
use Rattle.sources.specs.Verdicts.{NoAccepted}
use Rattle.schedule_commands.specs.Schedules.{NoOrder}
use Rattle.schedule_commands.specs.Generate.{GenerateAnswer}
use Rattle.sources.proofs.Told.{more_refused}
use Rattle.schedule_commands.proofs.GenerateRows.{not_accepted_generated, refused_generated, generated_text, short_rounds}
use Rattle.schedule_commands.proofs.generating.counted_up.Goals as goal

pub returns-in_err-judge : goal.returns-in_err-judge
returns-in_err-judge c =
    let n = c.args.n in
    let p = err_from_is_err_and c.from_residual.result c.from_residual.ensures.1 in
    more_refused (NoAccepted (generated_source n)) (GenerateAnswer n) _ c.from_residual.result p.0 c.in_err-judge.field-0.0 p.1 p.2
    (not_accepted_generated n c.args.schedule.now c.requires.generated) (c.in_err-judge.ensures (generated_source n) c.requires.source)

pub order_of-requires-clause-short : goal.order_of-requires-clause-short
order_of-requires-clause-short c = short_rounds c.args.n c.args.schedule.now c.requires.small c.requires.generated

pub order_of-requires-clause-accepted : goal.order_of-requires-clause-accepted
order_of-requires-clause-accepted c = c.in_ok-judge.ensures (generated_source c.args.n) c.requires.source

pub returns-in_err-found : goal.returns-in_err-found
returns-in_err-found c =
    let n = c.args.n in
    let P = program_of c.args.source.now.program in
    let p = err_from_is_err_and c.from_residual-in_err-found.result c.from_residual-in_err-found.ensures.1 in
    more_refused (NoOrder P c.args.schedule.now) (GenerateAnswer n) _ c.from_residual-in_err-found.result p.0 c.in_err-found.field-0.0 p.1 p.2
    (refused_generated n c.args.source.now c.args.schedule.now c.requires.small c.requires.source (c.in_ok-judge.ensures (generated_source n) c.requires.source) c.requires.generated (λ i. omega (arith, c.type_inv.schedule i)))
    c.in_err-found.ensures.order

pub returns : goal.returns
returns c =
    let n = c.args.n in
    let found = c.in_ok-found.ensures in
    generated_text n c.args.source.now c.args.schedule.now c.in_ok-found.found.order.items c.into_bytes.result.items c.requires.small c.requires.source
    (c.in_ok-judge.ensures (generated_source n) c.requires.source) c.requires.generated (λ i. omega (arith, c.type_inv.schedule i)) found.order
    (ap (λ v. v.items) c.into_bytes.ensures.value ∙ c.in_ok-text.ensures found.order.end (found.stands found.order.end found.order.ran))
