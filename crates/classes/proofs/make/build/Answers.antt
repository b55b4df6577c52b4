use Rattle.std.proofs.Common.{map, ap, ◌∙◌}
use Rattle.syntax.specs.Views.{class_of, program_tree}
use Rattle.classes.specs.Views.{class_data}
use Rattle.classes.specs.Building.{parts_data, parts_from}
use Rattle.classes.proofs.Tables.{table_is, all_owned}
use Rattle.classes.proofs.make.build.Goals as goal

pub returns : goal.returns
returns c =
    table_is (program_tree c.args.program.now) c.args.names (parts_data c.in_ok-parts.parts) c.requires.no_faults c.requires.names
    (c.in_ok-parts.ensures ∙ ap (λ cs. parts_from c.args.names (map class_of cs)) c.as_slice.ensures.value)

pub invariant_of-result-clause-owned : goal.invariant_of-result-clause-owned
invariant_of-result-clause-owned c =
    all_owned (program_tree c.args.program.now) c.args.names (map class_data c.in_ok-parts.parts.classes.items) c.in_ok-parts.parts.fields.items c.in_ok-parts.parts.methods.items
    (table_is (program_tree c.args.program.now) c.args.names (parts_data c.in_ok-parts.parts) c.requires.no_faults c.requires.names
    (c.in_ok-parts.ensures ∙ ap (λ cs. parts_from c.args.names (map class_of cs)) c.as_slice.ensures.value))
