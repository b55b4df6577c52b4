-- The words of the other values are other keys.
use Rattle.std.proofs.Common.{◌∙◌, ap}
use Rattle.logs.specs.Numbers.{number_of_word}
use Rattle.logs.specs.Tables.{at_number, value_in_table, values_with}
use Rattle.logs.proofs.Lookups.{after_insert}
use Rattle.logs.proofs.table.Table.put.Goals as goal

pub returns-in-Ok : goal.returns-in-Ok
returns-in-Ok g c = λ n. ap (λ es. at_number es n) c.in-Ok.ensures.entries ∙ after_insert c.args.self.now.values.entries c.in_ok-key.key c.args.value n
    ∙ ap (λ bytes. values_with (number_of_word bytes) c.args.value (value_in_table c.args.self.now) n) c.in_ok-key.ensures.items
