use Rattle.std.proofs.Common.{map, position, bytes_eq, ap, ◌∙◌}
use Rattle.classes.specs.Table.{MethodData}
use Rattle.typing.proofs.numbers.name_numbers.Goals as goal

pub returns-clause-numbered : goal.returns-clause-numbered
returns-clause-numbered c =
    (c.in_ok-names.names, c.in_ok-numbers.ensures ∙ ap (map (λ (m : MethodData). position (bytes_eq m.name) c.in_ok-names.names)) c.methods-methods.ensures)
