-- The names that classes give to their own fields and methods.
use Rattle.std.specs.Prelude.{List, map}
use Rattle.syntax.specs.Trees.{ClassTree, ProgramTree}
use Rattle.classes.specs.declared.own.OwnNames.{OwnNames}
use Rattle.classes.specs.Names.{distinct}
use Rattle.classes.specs.Members.{field_names, method_names}

-- those of a class, each once, in order of first appearance
abbrev pub own_names : ClassTree → OwnNames
own_names c = record { fields = distinct (field_names c.members); methods = distinct (method_names c.members) }

-- those of each class of a program
abbrev pub all_own_names : ProgramTree → List OwnNames
all_own_names tree = map own_names tree
