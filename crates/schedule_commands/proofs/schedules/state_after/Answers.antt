-- The machine runs the source's program.
use Rattle.std.proofs.Common.{◌≡◌, Some, ap, subst}
use Rattle.std.specs.Prelude.{MatchResult, string_bytes}
use Rattle.classes.specs.Views.{table_data}
use Rattle.core_program.specs.Views.{program_of}
use Rattle.sources.specs.Refusals.{IsRight}
use Rattle.state.specs.States.{State}
use Rattle.report.specs.States.{state_text}
use Rattle.semantics.specs.Run.{run}
use Rattle.schedule_commands.specs.Schedules.{NoRun}
use Rattle.schedule_commands.proofs.schedules.state_after.Goals as goal

pub returns : goal.returns
returns c =
    let s = c.args.schedule.now in
    let table = table_data c.args.source.now.table in
    subst
    (λ P. MatchResult c.text_after.result
    (λ text. (q : State) × (run P s ≡ Some q) × (string_bytes text ≡ state_text P table q))
    (IsRight (NoRun P s)))
    (ap program_of c.in_ok-machine.ensures.program)
    c.text_after.ensures
