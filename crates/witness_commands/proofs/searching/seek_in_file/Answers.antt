-- A refusal is an answer.
use Rattle.std.proofs.Common.{ap, sym, subst, string_bytes}
use Rattle.sources.specs.Checking.{NoSource}
use Rattle.sources.specs.Refusals.{IsRight}
use Rattle.witness_commands.specs.Answers.{AnswersSearch, no_program}
use Rattle.witness_commands.proofs.searching.seek_in_file.Goals as goal

pub returns-in-Err-Line : goal.returns-in-Err-Line
returns-in-Err-Line c =
    let file = c.args.file.now in
    let line = string_bytes c.in-Err-Line.line in
    subst (AnswersSearch file c.code.result) (sym (ap (λ v. v.items) c.into_bytes.ensures.value))
    (subst (λ status. AnswersSearch file status line) (sym c.code.ensures) (no_program (subst (IsRight (NoSource file)) c.in-Err-Line.field-0-is c.in-Err-Line.ensures)))
