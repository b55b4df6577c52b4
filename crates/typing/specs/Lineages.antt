-- What a class has from the classes above it.
use Rattle.std.specs.Prelude.{ℕ, codes}
use Rattle.classes.specs.Table.{TableData, method_number}
use Rattle.typing.specs.declared.lineage.Lineage.{Lineage}
use Rattle.typing.specs.Classes.{inherited_count}

-- how many fields the class with number k has from above, and the method that runs for `run` and it
abbrev pub lineage_of : TableData → ℕ → Lineage
lineage_of t k = record { inherited = inherited_count t k; run = method_number t k (codes "run") }
