-- Arguments that are matched from their end.
use Rattle.std.specs.Prelude.{Bool, false, List, Option, Some, None}
use Rattle.core_program.specs.declared.types.CoreType.{CoreType}
use Rattle.core_program.specs.Types.{NodeType}
use Rattle.classes.specs.Table.{TableData}
use Rattle.typing.specs.Rules.{fit_each}

-- whether there are arguments before those that were matched, and they fit these types
abbrev pub fit_before : TableData → List CoreType → Option (List NodeType) → Bool
fit_before t us None = false
fit_before t us (Some before) = fit_each t before us
