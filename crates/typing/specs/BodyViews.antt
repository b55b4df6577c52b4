-- What the values of the code are as plain data.
use Rattle.std.specs.Prelude.{List, Option, map, option_map}
use Rattle.std.specs.declared.alloc.Global.{Global}
use Rattle.std.specs.declared.boxed.Box.{Box}
use Rattle.core_program.specs.Core.{Field, Method, Stmt}
use Rattle.core_program.specs.Views.{field_of, method_of, stmt_of}
use Rattle.core_program.specs.declared.tree.CoreStmt.{CoreStmt}
use Rattle.typing.specs.declared.members.Members.{Members}
use Rattle.typing.specs.Gathered.{gathered}

-- the core statement in a box
abbrev pub boxed_stmt : Box CoreStmt Global → Stmt
boxed_stmt b = stmt_of b.value

-- the core fields that were gathered, or none where one of them is missing
abbrev pub fields_data : Members → Option (List Field)
fields_data p = option_map (map field_of) (gathered p.fields)

-- the core methods that were gathered, or none where one of them is missing
abbrev pub methods_data : Members → Option (List Method)
methods_data p = option_map (map method_of) (gathered p.methods)
