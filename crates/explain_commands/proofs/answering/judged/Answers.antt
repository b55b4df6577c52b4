-- What is said of a well-formed source.
use Rattle.std.proofs.Common.{◌∙◌, ap, map, string_bytes, subst, sym}
use Rattle.std.proofs.lemmas.List.{length-map}
use Rattle.classes.specs.Views.{table_data}
use Rattle.conditions.specs.Conditions.{cond_of}
use Rattle.core_program.specs.Views.{program_of}
use Rattle.explain.specs.Shown.{shown}
use Rattle.explain_commands.specs.Answers.{IsText}
use Rattle.explain_commands.specs.Explained.{page_of}
use Rattle.explain_commands.specs.Orders.{ending_in}
use Rattle.explain_commands.proofs.Stages.{found_there, judged_text}
use Rattle.rules.specs.Near.{rel_of}
use Rattle.sources.proofs.Verdicts.{few_methods}
use Rattle.syntax.specs.Views.{member_of, program_tree as tree_of}
use Rattle.explain_commands.proofs.answering.judged.Goals as goal

pub judge-requires : goal.judge-requires
judge-requires c = (c.args.index.now, (tree_of c.args.tree.now, c.requires))

pub said_of_source-requires-clause-there : goal.said_of_source-requires-clause-there
said_of_source-requires-clause-there c =
    found_there (tree_of c.args.tree.now) (program_of c.args.source.now.program) (map (λ m. member_of m.now) c.in_ok-methods.methods.items) _ c.requires.has_core.core.core c.in_ok-methods.ensures
    (sym (length-map c.in_ok-methods.methods.items (λ m. member_of m.now)))

pub said_of_source-requires-clause-few : goal.said_of_source-requires-clause-few
said_of_source-requires-clause-few c = few_methods (program_of c.args.source.now.program) c.requires.typed

pub returns : goal.returns
returns c =
    let source = c.args.source.now in
    let trees = c.in_ok-judged.judged.trees.items in
    let methods = c.in_ok-methods.methods.items in
    judged_text c.args.order c.args.file.now (tree_of c.args.tree.now) c.args.index.now source (map cond_of trees) c.in_ok-judged.judged.ending c.in_ok-said.said.ending (string_bytes c.in_ok-said.said.text)
    (table_data source.table) (map (λ m. member_of m.now) methods) c.requires.typed c.in_ok-judged.ensures (c.in_ok-said.ensures.ending ∙ ap (λ ts. ending_in c.args.order (program_of source.program) (shown (map cond_of ts)) c.in_ok-judged.judged.ending) c.as_slice.ensures.value) c.requires.table c.in_ok-methods.ensures
    (subst (λ ts. IsText c.args.order (program_of source.program) (rel_of source.sets) (shown (map cond_of ts))
    (page_of c.args.file.now c.args.index.now (table_data source.table) (map (λ m. member_of m.now) methods)) (string_bytes c.in_ok-said.said.text)) c.as_slice.ensures.value c.in_ok-said.ensures.text)
