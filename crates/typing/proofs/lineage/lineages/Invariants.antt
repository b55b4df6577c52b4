use Rattle.std.proofs.Common.{Some, length, take}
use Rattle.classes.specs.Views.{table_data}
use Rattle.typing.specs.Lineages.{lineage_of}
use Rattle.typing.proofs.Filling.{AreKnown}
use Rattle.typing.proofs.lineage.lineages.Given as goal

abbrev pub invariant-loop-class : goal.invariant-loop-class
invariant-loop-class l =
    AreKnown (λ x. x) (λ c. Some (lineage_of (table_data l.table) c)) (length (table_data l.table).classes) (take l.class-index l.order) l.all.items
