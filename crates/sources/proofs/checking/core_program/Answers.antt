use Rattle.std.proofs.Common.{arith}
use Rattle.syntax.specs.Views.{program_tree as tree_of}
use Rattle.sources.proofs.Refusing.{type_end}
use Rattle.sources.proofs.TokenCounts.{few_tokens}
use Rattle.sources.proofs.checking.core_program.Goals as goal

pub returns-in-Ok : goal.returns-in-Ok
returns-in-Ok c =
    let is = c.requires.program in
    (c.in-Ok.ensures.exact, c.in-Ok.ensures.typed is.tokens (omega (arith, few_tokens is.cut, c.requires.small)) is.grammar)

pub returns-in-Err : goal.returns-in-Err
returns-in-Err c = type_end c.args.text.now (tree_of c.args.tree.now) c.in-Err.fault c.refuse.result c.requires.program c.requires.no_class_faults c.refuse.ensures.told c.in-Err.ensures.exact c.refuse.ensures.line
