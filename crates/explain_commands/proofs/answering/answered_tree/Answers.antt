-- The answer to a well-formed source.
use Rattle.std.proofs.Common.{string_bytes, subst}
use Rattle.core_program.specs.Views.{program_of}
use Rattle.syntax.specs.Views.{program_tree as tree_of}
use Rattle.explain_commands.specs.Answers.{IsJudgedProgram, pages_of}
use Rattle.explain_commands.proofs.Stages.{source_answer}
use Rattle.explain_commands.proofs.answering.answered_tree.Goals as goal

pub returns : goal.returns
returns c =
    let source = c.in_ok-source.source in
    let said = c.in_ok-said.said in
    source_answer c.args.order c.args.file.now c.args.text.now (tree_of c.args.tree.now) source said.ending (string_bytes said.text) c.in_ok-source.ensures
    (subst (λ t. IsJudgedProgram c.args.order (program_of source.program) (pages_of c.args.file.now t (tree_of c.args.tree.now)) said.ending (string_bytes said.text)) c.in_ok-index.ensures c.in_ok-said.ensures)
