use Rattle.std.proofs.Common.{map, sym, subst}
use Rattle.std.specs.Prelude.{IsSome}
use Rattle.classes.specs.Views.{table_data}
use Rattle.core_program.specs.Views as core
use Rattle.typing.specs.Gathered.{gathered}
use Rattle.typing.specs.Programs.{program_node}
use Rattle.typing.specs.BodyViews.{fields_data, methods_data}
use Rattle.typing.proofs.Answering.{first_there, second_there, mapped_there, owned_there}
use Rattle.classes.specs.Table.{MethodData}
use Rattle.typing.proofs.make.assembled.Goals as goal

pub unwrap-fields-requires : goal.unwrap-fields-requires
unwrap-fields-requires c =
    mapped_there (λ v. v.items) c.all.result
    (subst IsSome (sym c.all.ensures)
    (mapped_there (map core.field_of) (gathered c.args.parts.fields)
    (first_there (program_node (table_data c.args.table.now)) (fields_data c.args.parts) (methods_data c.args.parts) c.requires.whole.0 c.requires.whole.1)))

pub unwrap-methods-requires : goal.unwrap-methods-requires
unwrap-methods-requires c =
    mapped_there (λ v. v.items) c.all-2.result
    (subst IsSome (sym c.all-2.ensures)
    (mapped_there (map core.method_of) (gathered c.args.parts.methods)
    (second_there (program_node (table_data c.args.table.now)) (fields_data c.args.parts) (methods_data c.args.parts) c.requires.whole.0 c.requires.whole.1)))

pub core_program-requires-clause-owned : goal.core_program-requires-clause-owned
core_program-requires-clause-owned c =
    owned_there (map (λ (m : MethodData). m.class) (table_data c.args.table.now).methods) (gathered c.args.parts.methods) c.all-2.result c.unwrap-methods.result c.all-2.ensures c.unwrap-methods.ensures c.requires.owned
