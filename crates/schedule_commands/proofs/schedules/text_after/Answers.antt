-- The text of the state that the machine stands for at the end.
use Rattle.std.proofs.Common.{ap, ◌∙◌}
use Rattle.classes.specs.Views.{table_data}
use Rattle.core_program.specs.Views.{program_of}
use Rattle.report.specs.States.{state_text}
use Rattle.schedule_commands.proofs.schedules.text_after.Goals as goal

pub returns : goal.returns
returns c =
    let ran = c.in_ok-run_to_end.ensures.ran in
    let after = ap program_of c.in_ok-run_to_end.ensures.program in (
      ran.0,
      ran.1,
      c.in_ok-text.ensures ran.0 ran.2 ∙ ap (λ P. state_text P (table_data c.args.table.now) ran.0) after,
    )
