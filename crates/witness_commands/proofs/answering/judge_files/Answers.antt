-- A refusal is an answer.
use Rattle.std.proofs.Common.{ap, sym, subst, string_bytes}
use Rattle.sources.specs.Refusals.{IsRight}
use Rattle.witness_commands.specs.Answers.{RefusesInput, AnswersSchedule, refused}
use Rattle.witness_commands.proofs.answering.judge_files.Goals as goal

pub returns-in-Err-Line : goal.returns-in-Err-Line
returns-in-Err-Line c =
    let file = c.args.file.now in
    let text = c.args.text.now in
    let line = string_bytes c.in-Err-Line.line in
    subst (AnswersSchedule file text c.code.result) (sym (ap (λ v. v.items) c.into_bytes.ensures.value))
    (subst (λ status. AnswersSchedule file text status line) (sym c.code.ensures) (refused (subst (IsRight (RefusesInput file text)) c.in-Err-Line.field-0-is c.in-Err-Line.ensures)))
