use Rattle.syntax.specs.Views.{program_tree as tree_of}
use Rattle.sources.proofs.Refusing.{class_end}
use Rattle.sources.proofs.checking.class_table.Goals as goal

pub returns-in-Err : goal.returns-in-Err
returns-in-Err c = class_end c.args.text.now (tree_of c.args.tree.now) c.in-Err.fault c.refuse.result c.requires.program c.refuse.ensures.told c.in-Err.ensures.exact c.refuse.ensures.line
