-- What is answered, from what was found.
use Rattle.std.proofs.lemmas.Result.{IfOk-weaker}
use Rattle.witness_commands.specs.Answers.{IsSoughtSaid, AnswersSearch}
use Rattle.witness_commands.proofs.Stages.{told_sought}
use Rattle.witness_commands.proofs.searching.sought_in.Goals as goal

pub returns : goal.returns
returns c = λ file is.
    let sought = c.in_ok-sought.sought in
    IfOk-weaker c.sought_answer.result (λ said. IsSoughtSaid sought said.status said.text.items) (λ said. AnswersSearch file said.status said.text.items)
    (λ said says. told_sought file c.args.source.now sought said.status said.text.items c.witness_laws.ensures.compared is c.in_ok-sought.ensures says)
    c.sought_answer.ensures
