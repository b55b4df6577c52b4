use Rattle.std.proofs.Common.{length, take}
use Rattle.classes.specs.Views.{table_data}
use Rattle.core_program.specs.Kept.{kept_class}
use Rattle.typing.specs.Kept.{part_of_number}
use Rattle.typing.proofs.Filling.{AreKnown}
use Rattle.typing.proofs.class_bodies.core_classes.Given as goal

abbrev pub invariant-loop-id : goal.invariant-loop-id
invariant-loop-id l =
    AreKnown kept_class (part_of_number (table_data l.table)) (length (table_data l.table).classes) (take l.id-index l.order) l.all.items
