-- The calls, or the first that is too deep.
use Rattle.std.proofs.Common.{Err, map, ap}
use Rattle.core_program.specs.Views.{program_of}
use Rattle.replay.specs.Views.{record_told}
use Rattle.sources.proofs.Told.{right_refusal}
use Rattle.sources.specs.declared.refusal.Ending.TheVariants as ending
use Rattle.schedule_commands.specs.Lines.{too_deep_call_line}
use Rattle.schedule_commands.specs.Replay.{NoReplay, too_deep}
use Rattle.schedule_commands.proofs.Evaluating.{are_evaluated}
use Rattle.schedule_commands.proofs.replaying.calls_of.Goals as goal

pub returns-in-Ok : goal.returns-in-Ok
returns-in-Ok c = (
  are_evaluated (program_of c.args.program.now) c.args.order.now c.requires.typed c.requires.alone c.requires.size c.in-Ok.ensures.few (map record_told c.in-Ok.calls.items) c.in-Ok.ensures.calls,
  c.in-Ok.ensures.few,
)

pub returns-in-Err-TooDeep : goal.returns-in-Err-TooDeep
returns-in-Err-TooDeep c =
    let entry = c.in-Err-TooDeep.entry in
    right_refusal (NoReplay (program_of c.args.program.now) c.args.order.now) ending.CallTooDeep (too_deep_call_line entry) c.refuse_deep.result
    (too_deep entry (c.in-Err-TooDeep.ensures.deep entry (ap Err c.in-Err-TooDeep.field-0-is))) c.refuse_deep.ensures
