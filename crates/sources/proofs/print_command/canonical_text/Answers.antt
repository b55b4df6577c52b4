use Rattle.std.proofs.Common.{ap, subst, ◌∙◌}
use Rattle.printer.specs.Reprinted.{ReadsBack}
use Rattle.syntax.specs.Views.{program_tree as tree_of}
use Rattle.sources.proofs.SourceRows.{printed_text}
use Rattle.sources.proofs.print_command.canonical_text.Goals as goal

pub returns : goal.returns
returns c =
    let tree = tree_of c.in_ok-tree.tree in
    let is = c.in_ok-tree.ensures in
    let text = c.in_ok-printed.ensures.text in
    printed_text c.args.bytes.now c.in_ok-text.text.now tree c.into_bytes.result.items c.in_ok-text.ensures is (ap (λ v. v.items) c.into_bytes.ensures.value ∙ text)
    (subst (λ t. ReadsBack t tree) text (c.in_ok-printed.ensures.reads_back c.in_ok-text.text.now is.tokens is.cut is.grammar))
